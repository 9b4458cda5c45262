use Rattle.std.proofs.Common.{◌≡◌, ◌%◌, length}
use Rattle.ossl_legacy.specs.Rc4State.{scheduled}
use Rattle.ossl_legacy.proofs.rc4.scheduled_table.Given as goal

abbrev pub invariant-loop-i : goal.invariant-loop-i
invariant-loop-i l = record {
  size : length l.table ≡ 256;
  place : l.at ≡ l.i % length l.key;
  turns : (l.table, l.j) ≡ scheduled l.key l.i;
}
