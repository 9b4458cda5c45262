use Rattle.std.proofs.Common.{map}
use Rattle.ossl_state.specs.History.{Fixed}
use Rattle.ossl_state.proofs.LegalLaws.{sound_after}
use Rattle.ossl_calls.proofs.plain.PlainRegistry.is_open.Goals as goal

pub returns-clause-sound : goal.returns-clause-sound
returns-clause-sound g c =
    let inside = c.self.inside in
    let fixed : Fixed = record { facts = map g.P.Provider.facts inside.boxes.items; contexts = inside.contexts; opened = inside.opened.items } in
    rw (← c.self.view_is) (sound_after fixed inside.history.items c.self.invariant.0.legal)
