use Rattle.std.proofs.Common.{◌≤◌, ◌-◌}
use Rattle.std.specs.Prelude.{replicate}
use Rattle.ossl_script.specs.Feeding.{Fed}
use Rattle.ossl_script.proofs.feeding.feed_copies.Given as goal

abbrev pub invariant-loop-left : goal.invariant-loop-left
invariant-loop-left l = record {
  few : l.left ≤ l.count;
  fed : Fed l.fn.context l.context (replicate (l.count - l.left) l.byte) l.fn.given.items l.given.items;
}

abbrev pub decreases-loop-left : goal.decreases-loop-left
decreases-loop-left l = l.left
