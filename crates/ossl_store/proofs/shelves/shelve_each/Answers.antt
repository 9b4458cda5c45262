use Rattle.std.proofs.Common.{◌≡◌, ◌≤◌, length, subst, arith}
use Rattle.std.proofs.lemmas.List.{take_all}
use Rattle.ossl_store.specs.Shelves.{AreShelved}
use Rattle.ossl_store.proofs.Moves.{shelved-more, others-part, others-whole}
use Rattle.ossl_store.proofs.shelves.shelve_each.Goals as goal

pub loop-place-preserved : goal.loop-place-preserved
loop-place-preserved c =
    shelved-more c.args.shelves.now c.loop-place.shelves c.shelve.new.shelves c.args.rank c.args.rows.now c.loop-place.place c.index-rows-place.result
    (omega arith) c.index-rows-place.is c.loop-place.invariant c.in_ok-shelve.ensures.ok

pub returns-in_err-shelve-clause-others : goal.returns-in_err-shelve-clause-others
returns-in_err-shelve-clause-others c =
    others-part c.args.shelves.now c.loop-place.shelves c.shelve.new.shelves c.args.rank c.args.rows.now c.loop-place.place c.requires c.loop-place.invariant c.in_err-shelve.ensures.err

pub returns-clause-others : goal.returns-clause-others
returns-clause-others c =
    let past : length c.args.rows.now ≤ c.loop-place.place = omega arith in
    let whole = take_all c.loop-place.place c.args.rows.now past in
    others-whole c.args.shelves.now c.loop-place.shelves c.loop-place.shelves c.args.rank c.args.rows.now c.requires
    (subst (AreShelved c.args.shelves.now c.loop-place.shelves c.args.rank) whole c.loop-place.invariant)
