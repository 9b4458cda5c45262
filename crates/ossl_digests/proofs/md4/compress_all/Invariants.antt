use Rattle.std.proofs.Common.{◌≡◌}
use Rattle.ossl_digests.specs.Md4.{registers_after}
use Rattle.ossl_digests.proofs.md4.compress_all.Given as goal

abbrev pub invariant-block : goal.invariant-block
invariant-block l = l.registers ≡ registers_after l.fn.registers l.i l.bytes
