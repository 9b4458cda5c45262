use Rattle.std.proofs.Common.{◌≡◌, ◌+◌, ◌≤◌, ◌<◌, true, vec_len, vec_capacity}
use Rattle.ossl_calls.specs.Registry.{Shown}
use Rattle.ossl_crew.specs.Crew.{AreBack, AreEnded, AreReturned}
use Rattle.ossl_print.specs.Batched.{Batch}
use Rattle.ossl_turn.specs.Passes.{AreNumbered, SharedFacts}
use Rattle.ossl_crew.proofs.crew.Crew.dismiss.Given as goal

-- the callers that are back so far, from 1 on
abbrev pub invariant-loop-worker : goal.invariant-loop-worker
invariant-loop-worker g l = record {
  left : (shared : SharedFacts (Shown g.row.P.Denot)) (batch : Batch) → AreBack shared batch (vec_len l.fn.self.workers) l.fn.self.workers.items
      → AreBack shared batch (vec_len l.fn.self.workers) l.self.workers.items;
  returned : (shared : SharedFacts (Shown g.row.P.Denot)) (batch : Batch) → AreBack shared batch (vec_len l.fn.self.workers) l.fn.self.workers.items
      → AreReturned shared batch l.self.passes.items l.self.scripts.items;
  numbered : AreNumbered l.self.passes.items;
  ended : l.finished ≡ true → AreEnded l.self.scripts.items;
  same : vec_len l.self.scripts ≡ vec_len l.self.passes;
  count : vec_len l.self.passes + vec_len l.self.workers ≡ vec_len l.fn.self.workers;
  passes_room : vec_len l.fn.self.workers < vec_capacity l.self.passes;
  scripts_room : vec_len l.fn.self.workers ≤ vec_capacity l.self.scripts;
}

abbrev pub decreases-loop-worker : goal.decreases-loop-worker
decreases-loop-worker g l = vec_len l.self.workers
