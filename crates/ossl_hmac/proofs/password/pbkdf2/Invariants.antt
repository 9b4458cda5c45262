use Rattle.std.proofs.Common.{◌≡◌, ◌*◌, length, take, min}
use Rattle.ossl_digests.specs.Digest.{output_len}
use Rattle.ossl_hmac.specs.Pbkdf2.{derived_blocks}
use Rattle.ossl_hmac.proofs.password.pbkdf2.Given as goal

abbrev pub invariant-loop-i : goal.invariant-loop-i
invariant-loop-i l =
    take (min (l.i * output_len l.fn.hash) (length l.fn.out)) l.out
    ≡ take (length l.fn.out) (derived_blocks l.fn.hash l.password l.salt l.rounds l.i)
