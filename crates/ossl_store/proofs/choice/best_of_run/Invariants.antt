use Rattle.std.proofs.Common.{◌≡◌, ◌+◌, ◌*◌, length, map, drop}
use Rattle.ossl_store.specs.Best.{best_from, candidate}
use Rattle.ossl_store.specs.Choice.{picked}
use Rattle.ossl_store.proofs.choice.best_of_run.Given as goal

abbrev pub invariant-loop-place : goal.invariant-loop-place
invariant-loop-place g l = record {
  best : best_from l.best l.query (map (candidate l.offer.instance) (picked l.offer.rows.items (drop l.place-index l.places))) ≡ best_from l.fn.best l.query (map (candidate l.offer.instance) (picked l.offer.rows.items l.places));
  steps : l.steps + length l.query * length (picked l.offer.rows.items (drop l.place-index l.places)) ≡ l.fn.steps + length l.query * length (picked l.offer.rows.items l.places);
}
