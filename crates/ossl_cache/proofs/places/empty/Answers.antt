use Rattle.std.proofs.Common.{◌∙◌, ap, sym, arith, slice_set}
use Rattle.std.proofs.lemmas.List.Edits.{map_over_more}
use Rattle.ossl_cache.specs.Places.{goes, emptied}
use Rattle.ossl_cache.proofs.places.empty.Goals as goal

pub loop-slot-preserved : goal.loop-slot-preserved
loop-slot-preserved c =
    let slots = c.loop-slot.slots in
    let i = c.loop-slot.slot-index in
    let change = emptied (goes c.args.going) in
    ap (slice_set slots i) (c.empty_one.ensures ∙ ap change (sym c.slot-item.is))
    ∙ map_over_more change c.args.slots.now slots i c.slot-item.result (omega arith) c.loop-slot.invariant c.slot-item.is
