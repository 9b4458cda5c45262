-- HMAC (FIPS 198-1) as a formula over the digest of a hash.
use Rattle.std.specs.Prelude.{ℕ, ◌-◌, nat_lt, List, ◌++◌, length, map, replicate, bit_xor, if◌then◌else◌}
use Rattle.ossl_digests.specs.declared.hash.Hash.{Hash}
use Rattle.ossl_digests.specs.Digest.{digest, block_len}

-- a key that is longer than a block is hashed first (FIPS 198-1, 4, step 2)
abbrev pub short_key : Hash → List ℕ → List ℕ
short_key hash key = if nat_lt (block_len hash) (length key) then digest hash key else key

-- K0: zeros fill the key to a block (FIPS 198-1, 4, steps 1 to 3)
abbrev pub filled_key : Hash → List ℕ → List ℕ
filled_key hash key = key ++ replicate (block_len hash - length key) 0

-- each byte of K0, xored with the pad's byte (FIPS 198-1, 4, steps 4 and 7)
abbrev pub padded_key : ℕ → Hash → List ℕ → List ℕ
padded_key pad hash key = map (λ byte. bit_xor pad byte) (filled_key hash (short_key hash key))

-- the code of a text under a key: H((K0 xor opad) H((K0 xor ipad) text)) (FIPS 198-1, 4)
unfoldable pub hmac : Hash → List ℕ → List ℕ → List ℕ
hmac hash key text =
    digest hash (padded_key 0x5C hash key ++ digest hash (padded_key 0x36 hash key ++ text))
