use Rattle.std.proofs.Common.{◌≡◌, ◌≤◌, take}
use Rattle.ossl_state.specs.Sound.{open_count}
use Rattle.ossl_calls.proofs.room.count_open.Given as goal

-- the open ones so far
abbrev pub invariant-loop-lib : goal.invariant-loop-lib
invariant-loop-lib l = record {
  counted : l.count ≡ open_count (take l.lib-index l.libs);
  few : l.count ≤ l.lib-index;
}
