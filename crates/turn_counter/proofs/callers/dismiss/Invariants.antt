use Rattle.std.proofs.Common.{◌≡◌, ◌+◌, ◌≤◌, length, All, vec_len, vec_capacity}
use Rattle.ossl_turn.specs.Passes.{CameFrom, AreNumbered}
use Rattle.turn_counter.specs.Adding.{AreCounted}
use Rattle.turn_counter.proofs.callers.dismiss.Given as goal

abbrev pub invariant-loop-adder : goal.invariant-loop-adder
invariant-loop-adder l = record {
  all_came : All (λ a. CameFrom l.shared a.pass) l.adders.items;
  counted : AreCounted (vec_len l.initial.adders) l.adders.items;
  came : All (CameFrom l.shared) l.passes.items;
  numbered : AreNumbered l.passes.items;
  count : length l.passes.items + length l.adders.items ≡ length l.initial.adders.items;
  count_heard : length l.heard.items + length l.adders.items ≡ length l.initial.adders.items;
  capacity : vec_capacity l.passes ≡ vec_capacity l.fn.passes;
  room : length l.initial.adders.items ≤ vec_capacity l.passes;
  room_heard : length l.initial.adders.items ≤ vec_capacity l.heard;
}

abbrev pub decreases-loop-adder : goal.decreases-loop-adder
decreases-loop-adder l = vec_len l.adders
