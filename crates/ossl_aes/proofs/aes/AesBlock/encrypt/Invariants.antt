use Rattle.std.proofs.Common.{◌≡◌, ◌-◌}
use Rattle.ossl_aes.specs.Cipher.{rounds}
use Rattle.ossl_aes.specs.Rounds.{state_of}
use Rattle.ossl_aes.proofs.aes.AesBlock.encrypt.Given as goal

abbrev pub invariant-round : goal.invariant-round
invariant-round g l = state_of l.s ≡ rounds l.self-inside.words l.fn.block (l.n - 1)
