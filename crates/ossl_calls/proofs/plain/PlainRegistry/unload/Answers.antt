use Rattle.std.proofs.Common.{map, IsTrue}
use Rattle.ossl_state.specs.History.{Fixed, state_after}
use Rattle.ossl_state.specs.Step.{holder_of}
use Rattle.ossl_state.specs.Tokens.{owns, entries_of, activation_token}
use Rattle.ossl_state.proofs.LegalLaws.{sound_after}
use Rattle.ossl_calls.proofs.RoomLaws.{returned-room}
use Rattle.ossl_calls.proofs.plain.PlainRegistry.unload.Goals as goal

pub take_down-requires-clause-returned : goal.take_down-requires-clause-returned
take_down-requires-clause-returned g c =
    let inside = c.self.inside in
    let fixed : Fixed = record { facts = map g.P.Provider.facts inside.boxes.items; contexts = inside.contexts; opened = inside.opened.items } in
    let s = state_after fixed inside.history.items in
    let tokens : IsTrue (owns (entries_of c.args.caller inside.history.items) c.args.token activation_token) = rw (← c.self.view_is) at c.requires.allowed.tokens in
    rw (c.going_of-going.ensures, ← c.self.view_is) (returned-room fixed s inside.history.items c.args.caller c.args.token (holder_of s c.args.token) (sound_after fixed inside.history.items c.self.invariant.0.legal) tokens)
