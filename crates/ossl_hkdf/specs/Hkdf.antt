-- HKDF (RFC 5869) as formulas over HMAC.
use Rattle.std.specs.Prelude.{ℕ, zero, suc, ◌*◌, ◌<◌, List, [], ◌∷◌, ◌++◌, take}
use Rattle.std.specs.Int.{div_ceil}
use Rattle.ossl_digests.specs.declared.hash.Hash.{Hash}
use Rattle.ossl_digests.specs.Digest.{output_len}
use Rattle.ossl_hmac.specs.Hmac.{hmac}
use Rattle.ossl_hkdf.specs.declared.mode.HkdfMode.{HkdfMode}
use Rattle.ossl_hkdf.specs.declared.mode.HkdfMode.TheVariants.{Both, Extract, Expand}

-- the pseudorandom key PRK of a salt and key material (2.2)
abbrev pub extract : Hash → List ℕ → List ℕ → List ℕ
extract hash salt key = hmac hash salt key

-- T(i): T(0) is empty, and T(i) is HMAC under the key of T(i - 1), the info and i as one byte (2.3)
unfoldable pub block : Hash → List ℕ → List ℕ → ℕ → List ℕ
block hash key info zero = []
block hash key info (suc i) = hmac hash key (block hash key info i ++ info ++ suc i ∷ [])

-- T(1), T(2) .. T(n), joined (2.3)
unfoldable pub blocks : Hash → List ℕ → List ℕ → ℕ → List ℕ
blocks hash key info zero = []
blocks hash key info (suc n) = blocks hash key info n ++ block hash key info (suc n)

-- the first len bytes of T(1), T(2) .. T(n), of which there are as many as hold them (2.3)
abbrev pub expand : Hash → List ℕ → List ℕ → ℕ → List ℕ
expand hash key info len = take len (blocks hash key info (div_ceil len (output_len hash)))

-- the greatest length of an expansion (2.3)
abbrev pub limit : Hash → ℕ
limit hash = 255 * output_len hash

-- a length is refused where it is above the limit of an expansion (2.3)
abbrev pub IsTooLong : HkdfMode → Hash → ℕ → Type 0
IsTooLong Extract hash len = ⊥
IsTooLong Expand hash len = limit hash < len
IsTooLong Both hash len = limit hash < len

-- what a mode gives of a key, a salt, an info and a length (2)
abbrev pub hkdf : HkdfMode → Hash → List ℕ → List ℕ → List ℕ → ℕ → List ℕ
hkdf Extract hash key salt info len = extract hash salt key
hkdf Expand hash key salt info len = expand hash key info len
hkdf Both hash key salt info len = expand hash (extract hash salt key) info len
