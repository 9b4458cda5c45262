use Rattle.std.proofs.Common.{◌≡◌}
use Rattle.ossl_hkdf.specs.Hkdf.{blocks}
use Rattle.ossl_hkdf.proofs.steps.blocks.Given as goal

abbrev pub invariant-loop-i : goal.invariant-loop-i
invariant-loop-i l = l.bytes.items ≡ blocks l.fn.hash l.key l.info l.i
