use Rattle.std.proofs.Common.{◌≡◌, ◌+◌, ◌*◌, None, length}
use Rattle.std.specs.List.{flat_map}
use Rattle.ossl_store.specs.Best.{best_from}
use Rattle.ossl_store.specs.Choice.{run_candidates}
use Rattle.ossl_store.proofs.choice.best_of_runs.Given as goal

abbrev pub invariant-loop-rank : goal.invariant-loop-rank
invariant-loop-rank g l = record {
  best : best_from l.best l.query (flat_map (run_candidates l.offers) l.rank-iterator) ≡ best_from None l.query (flat_map (run_candidates l.offers) l.runs.entries);
  steps : l.steps + length l.query * length (flat_map (run_candidates l.offers) l.rank-iterator) ≡ l.fn.steps + length l.query * length (flat_map (run_candidates l.offers) l.runs.entries);
}
