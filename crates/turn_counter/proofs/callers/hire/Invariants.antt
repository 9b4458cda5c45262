use Rattle.std.proofs.Common.{◌≡◌, ◌+◌, ◌≤◌, length, All, vec_len, vec_capacity}
use Rattle.ossl_turn.specs.Passes.{CameFrom, AreNumbered}
use Rattle.turn_counter.specs.Adding.{AreCounted}
use Rattle.turn_counter.proofs.callers.hire.Given as goal

abbrev pub invariant-loop-pass : goal.invariant-loop-pass
invariant-loop-pass l = record {
  came : All (CameFrom l.shared) l.passes.items;
  numbered : AreNumbered l.passes.items;
  all_came : All (λ a. CameFrom l.shared a.pass) l.adders.items;
  counted : AreCounted (length l.fn.passes.items) l.adders.items;
  count : length l.passes.items + length l.adders.items ≡ length l.fn.passes.items;
  capacity : vec_capacity l.passes ≡ vec_capacity l.fn.passes;
  room : length l.fn.passes.items ≤ vec_capacity l.adders;
  amount : All (λ a. a.amount ≡ l.amount) l.adders.items;
}

abbrev pub decreases-loop-pass : goal.decreases-loop-pass
decreases-loop-pass l = vec_len l.passes
