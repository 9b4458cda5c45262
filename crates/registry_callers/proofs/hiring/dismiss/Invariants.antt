use Rattle.std.proofs.Common.{◌≡◌, ◌+◌, ◌≤◌, length, All, vec_len, vec_capacity}
use Rattle.ossl_core.specs.Owned.{OwnsNothing}
use Rattle.ossl_turn.specs.Passes.{CameFrom, AreNumbered}
use Rattle.registry_callers.specs.Counted.{AreCounted}
use Rattle.registry_callers.proofs.hiring.dismiss.Given as goal

abbrev pub invariant-loop-caller : goal.invariant-loop-caller
invariant-loop-caller g l = record {
  all_came : All (CameFrom l.shared) l.callers.items;
  nothing : All (λ c. OwnsNothing c.own) l.callers.items;
  counted : AreCounted (vec_len l.initial.callers) l.callers.items;
  came : All (CameFrom l.shared) l.passes.items;
  numbered : AreNumbered l.passes.items;
  count : length l.passes.items + length l.callers.items ≡ length l.initial.callers.items;
  capacity : vec_capacity l.passes ≡ vec_capacity l.fn.passes;
  room : length l.initial.callers.items ≤ vec_capacity l.passes;
}

abbrev pub decreases-loop-caller : goal.decreases-loop-caller
decreases-loop-caller g l = vec_len l.callers
