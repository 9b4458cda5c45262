use Rattle.std.proofs.Common.{◌≡◌}
use Rattle.ossl_speed.specs.Aes.{repeated}
use Rattle.ossl_speed.proofs.aes.decrypted.Given as goal

abbrev pub invariant-loop-i : goal.invariant-loop-i
invariant-loop-i g l = l.block ≡ repeated (g.C.Block.dec l.cipher) l._i l.fn.first
