use Rattle.std.proofs.Common.{map, IsTrue, arith}
use Rattle.ossl_state.specs.History.{Fixed, state_after}
use Rattle.ossl_state.specs.Tokens.{owns, entries_of, context_token}
use Rattle.ossl_state.proofs.LegalLaws.{sound_after}
use Rattle.ossl_calls.proofs.RoomLaws.{free_ctx-room}
use Rattle.ossl_calls.proofs.plain.PlainRegistry.free_ctx.Goals as goal

pub take_down-requires-clause-room : goal.take_down-requires-clause-room
take_down-requires-clause-room g c =
    let inside = c.self.inside in
    let fixed : Fixed = record { facts = map g.P.Provider.facts inside.boxes.items; contexts = inside.contexts; opened = inside.opened.items } in
    let tokens : IsTrue (owns (entries_of c.args.caller inside.history.items) c.args.handle context_token) = rw (← c.self.view_is) at c.requires.allowed.tokens in
    let room = free_ctx-room fixed (state_after fixed inside.history.items) inside.history.items c.args.caller c.args.handle (sound_after fixed inside.history.items c.self.invariant.0.legal) tokens in
    rw (← c.self.view_is) (omega (arith, room))
