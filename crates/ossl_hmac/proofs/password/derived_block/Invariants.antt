use Rattle.std.proofs.Common.{◌≡◌, ◌-◌, ◌++◌, ℕ, List, [], take}
use Rattle.std.specs.Int.{w32, to_be_bytes}
use Rattle.ossl_digests.specs.declared.hash.Hash.{Hash}
use Rattle.ossl_digests.specs.Digest.{output_len}
use Rattle.ossl_hmac.specs.Holds.{Holds}
use Rattle.ossl_hmac.specs.Pbkdf2.{chained_code, xored_codes}
use Rattle.ossl_hmac.proofs.password.derived_block.Given as goal

abbrev pub invariant-rounds : goal.invariant-rounds
invariant-rounds l = (hash : Hash) (password : List ℕ) → Holds l.keyed hash password []
    → (l.code ≡ chained_code hash password (l.salt ++ to_be_bytes w32 l.number) (l.counter - 1))
    × (take (output_len hash) l.sum ≡ xored_codes hash password (l.salt ++ to_be_bytes w32 l.number) (l.counter - 1))
