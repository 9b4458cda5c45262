use Rattle.std.proofs.Common.{◌≡◌, ◌≤◌, length}
use Rattle.ossl_words.specs.Numbers.{items_of}
use Rattle.ossl_words.proofs.Numbers.{Reads}
use Rattle.ossl_words.proofs.number.order.Given as goal

-- a number was read of each item so far
abbrev pub invariant-loop-item : goal.invariant-loop-item
invariant-loop-item l = record {
  each : length l.callers.items ≡ length l.yielded;
  most : length l.callers.items ≤ 65536;
  reads : Reads (items_of l.text) l.callers.items;
}
