use Rattle.std.proofs.Common.{◌≡◌, ◌++◌, map, length, take, drop}
use Rattle.ossl_watch.specs.Watched.{after_use}
use Rattle.ossl_watch.proofs.running.change_uses.Given as goal

-- those so far are changed, and the others are as they were
abbrev pub invariant-loop-at : goal.invariant-loop-at
invariant-loop-at l = record {
  changed : l.running.items ≡ map (after_use l.change) (take l.at l.initial.running.items) ++ drop l.at l.initial.running.items;
  long : length l.running.items ≡ length l.initial.running.items;
}
