use Rattle.std.proofs.Common.{map, arith}
use Rattle.ossl_state.specs.History.{Fixed}
use Rattle.ossl_calls.proofs.OpeningLaws.{IsKept-opening, faults-get_or}
use Rattle.ossl_calls.proofs.plain.PlainRegistry.open.Goals as goal

pub invariant_of-result : goal.invariant_of-result
invariant_of-result g c =
    let sheets = map g.P.Provider.sheet c.args.catalogue.items in
    let fixed : Fixed = record { facts = map g.P.Provider.facts c.args.catalogue.items; contexts = c.args.contexts; opened = c.in-Ok.opened.items } in (
      rw (c.in-Ok-open_state.ensures, c.reserve_room.ensures.items, c.new-history.ensures.items)
          (IsKept-opening fixed sheets c.requires.catalogue c.requires.few
          (λ k below. rw (c.in-Ok.ensures.counts, c.as_slice.ensures.value) (faults-get_or g.P.Provider.sheet c.args.catalogue.items k below)) c.in-Ok.ensures.fit),
      rw (c.reserve_room.ensures.items, c.new-history.ensures.items) (omega arith),
      omega (arith, c.in-Ok-reserve_room.ensures.ok),
    )
