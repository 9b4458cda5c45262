use Rattle.std.proofs.Common.{◌≡◌, ◌+◌, ◌≤◌, [], length, All, vec_len, vec_capacity}
use Rattle.ossl_core.specs.Owned.{OwnsNothing}
use Rattle.ossl_turn.specs.Passes.{CameFrom, AreNumbered}
use Rattle.registry_callers.specs.Counted.{AreCounted}
use Rattle.registry_callers.proofs.hiring.hire.Given as goal

abbrev pub invariant-loop-pass : goal.invariant-loop-pass
invariant-loop-pass g l = record {
  came : All (CameFrom l.shared) l.passes.items;
  numbered : AreNumbered l.passes.items;
  fresh : All (λ p. p.own ≡ []) l.passes.items;
  all_came : All (CameFrom l.shared) l.callers.items;
  nothing : All (λ c. OwnsNothing c.own) l.callers.items;
  counted : AreCounted (length l.fn.passes.items) l.callers.items;
  count : length l.passes.items + length l.callers.items ≡ length l.fn.passes.items;
  capacity : vec_capacity l.passes ≡ vec_capacity l.fn.passes;
  room : length l.fn.passes.items ≤ vec_capacity l.callers;
}

abbrev pub decreases-loop-pass : goal.decreases-loop-pass
decreases-loop-pass g l = vec_len l.passes
