use Rattle.std.proofs.Common.{◌≡◌, ◌+◌, ◌-◌}
use Rattle.ossl_aes.specs.Cipher.{inv_rounds}
use Rattle.ossl_aes.specs.Rounds.{state_of}
use Rattle.ossl_aes.proofs.aes.AesBlock.decrypt.Given as goal

abbrev pub invariant-round : goal.invariant-round
invariant-round g l = state_of l.s ≡ inv_rounds l.self-inside.words (g.row.NK + 6) l.fn.block (l.n - 1)
