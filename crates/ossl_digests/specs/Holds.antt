-- What a contract sees of a digester: its hash, and the bytes that it was fed.
use Rattle.std.specs.Prelude.{◌≡◌, ℕ, ◌/◌, ◌%◌, ◌^◌, List, ◌++◌, length}
use Rattle.ossl_blocks.specs.Held.{held_of}
use Rattle.ossl_digests.specs.declared.hash.Hash.{Hash}
use Rattle.ossl_digests.specs.declared.hash.Hash.TheVariants as H
use Rattle.ossl_digests.specs.declared.state.Md4.{Md4}
use Rattle.ossl_digests.specs.declared.digester.State.{State}
use Rattle.ossl_digests.specs.declared.digester.State.TheVariants.{Sha1, Sha224, Sha256, Sha384, Sha512, Sha512t224}
use Rattle.ossl_digests.specs.declared.digester.State.TheVariants.{Sha512t256, Md5, Md4 as Md4State}
use Rattle.ossl_digests.specs.declared.digester.Digester.{Digester}
use Rattle.sha1.specs.Sha1 as K1
use Rattle.sha2.specs.Hashers.{Holds224, Holds256, Holds384, Holds512, Holds512_224, Holds512_256}
use Rattle.md5.specs.Md5 as K5
use Rattle.ossl_digests.specs.Md4.{digest_from, initial_registers, registers_after}

-- MD4's registers after whole blocks, by what they were before
abbrev pub HasCompressed : List ℕ → List ℕ → List ℕ → Type 0
HasCompressed registers bytes after = after ≡ registers_after registers (length bytes / 64) bytes

-- what an MD4 state gives where p, which ends in the padding, is all that is yet to come
abbrev pub digest_with : Md4 → List ℕ → List ℕ
digest_with s p = digest_from s.registers.0 (held_of s.buffer ++ p)

-- the MD4 state s was fed the message m: with whatever comes yet it gives what MD4 gives for m and
-- that, and it has counted the bytes of m modulo 2 ^ 64
pub record HoldsMd4 (s : Md4) (m : List ℕ) : Type 0 where
  pub gives : (p : List ℕ) → digest_with s p ≡ digest_from initial_registers (m ++ p)
  pub counted : s.total ≡ length m % 2 ^ 64

-- the hash that a state is of
abbrev pub hash_of : State → Hash
hash_of (Sha1 _) = H.Sha1
hash_of (Sha224 _) = H.Sha224
hash_of (Sha256 _) = H.Sha256
hash_of (Sha384 _) = H.Sha384
hash_of (Sha512 _) = H.Sha512
hash_of (Sha512t224 _) = H.Sha512t224
hash_of (Sha512t256 _) = H.Sha512t256
hash_of (Md5 _) = H.Md5
hash_of (Md4State _) = H.Md4

-- a state was fed the message m
abbrev pub HoldsBytes : State → List ℕ → Type 0
HoldsBytes (Sha1 s) m = K1.Holds s m
HoldsBytes (Sha224 s) m = Holds224 s m
HoldsBytes (Sha256 s) m = Holds256 s m
HoldsBytes (Sha384 s) m = Holds384 s m
HoldsBytes (Sha512 s) m = Holds512 s m
HoldsBytes (Sha512t224 s) m = Holds512_224 s m
HoldsBytes (Sha512t256 s) m = Holds512_256 s m
HoldsBytes (Md5 s) m = K5.Holds s m
HoldsBytes (Md4State s) m = HoldsMd4 s m

-- the digester is one of the hash, and holds the bytes m: all that it was fed, joined
pub record Holds (d : Digester) (hash : Hash) (m : List ℕ) : Type 0 where
  pub is_of : hash_of d.0 ≡ hash
  pub was_fed : HoldsBytes d.0 m
