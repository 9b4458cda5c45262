use Rattle.std.proofs.Common.{◌≡◌, ◌+◌, ◌≤◌, ◌<◌, [], All, vec_len, vec_capacity}
use Rattle.ossl_crew.specs.Crew.{AreHired, AreScripts}
use Rattle.ossl_print.specs.Batched.{Batch}
use Rattle.ossl_turn.specs.Passes.{AreNumbered, CameFrom}
use Rattle.ossl_crew.proofs.crew.Crew.hire.Given as goal

-- the workers so far, that of the greatest number first
abbrev pub invariant-loop-pass : goal.invariant-loop-pass
invariant-loop-pass g l = record {
  came : All (CameFrom l.shared) l.self.passes.items;
  numbered : AreNumbered l.self.passes.items;
  fresh : All (λ p. p.own ≡ []) l.self.passes.items;
  scripts : (batch : Batch) → AreScripts batch l.fn.self.scripts.items → AreScripts batch l.self.scripts.items;
  hired : (batch : Batch) → AreScripts batch l.fn.self.scripts.items
      → AreHired l.shared batch (vec_len l.fn.self.scripts) l.self.workers.items;
  same : vec_len l.self.scripts ≡ vec_len l.self.passes;
  count : vec_len l.self.passes + vec_len l.self.workers ≡ vec_len l.fn.self.scripts;
  passes_room : vec_len l.fn.self.scripts < vec_capacity l.self.passes;
  scripts_room : vec_len l.fn.self.scripts ≤ vec_capacity l.self.scripts;
  workers_room : vec_len l.fn.self.scripts ≤ vec_capacity l.self.workers;
}

abbrev pub decreases-loop-pass : goal.decreases-loop-pass
decreases-loop-pass g l = vec_len l.self.passes
