-- PBKDF2 (RFC 8018, 5.2) as formulas over HMAC, its pseudorandom function.
use Rattle.std.specs.Prelude.{ℕ, zero, suc, ◌-◌, List, [], ◌∷◌, ◌++◌, take, bit_xor}
use Rattle.std.specs.Int.{w32, to_be_bytes, div_ceil}
use Rattle.ossl_digests.specs.declared.hash.Hash.{Hash}
use Rattle.ossl_digests.specs.Digest.{output_len}
use Rattle.ossl_hmac.specs.Hmac.{hmac}

-- a text whose first bytes are xored with those of another
unfoldable pub xored : List ℕ → List ℕ → List ℕ
xored [] ys = []
xored (x ∷ xs) [] = x ∷ xs
xored (x ∷ xs) (y ∷ ys) = bit_xor x y ∷ xored xs ys

-- U_(n + 1): U_1 is the code of a text under the password, and each next one that of the one before (5.2, step 3)
unfoldable pub chained_code : Hash → List ℕ → List ℕ → ℕ → List ℕ
chained_code hash password text zero = hmac hash password text
chained_code hash password text (suc n) = hmac hash password (chained_code hash password text n)

-- U_1, U_2 .. U_(n + 1), xored (5.2, step 3)
unfoldable pub xored_codes : Hash → List ℕ → List ℕ → ℕ → List ℕ
xored_codes hash password text zero = chained_code hash password text zero
xored_codes hash password text (suc n) =
    xored (xored_codes hash password text n) (chained_code hash password text (suc n))

-- T_i: U_1 .. U_c xored, U_1 being the code of the salt and of i as four big-endian bytes (5.2, step 3)
abbrev pub derived_block : Hash → List ℕ → List ℕ → ℕ → ℕ → List ℕ
derived_block hash password salt rounds i = xored_codes hash password (salt ++ to_be_bytes w32 i) (rounds - 1)

-- T_1, T_2 .. T_n, joined (5.2, step 4)
unfoldable pub derived_blocks : Hash → List ℕ → List ℕ → ℕ → ℕ → List ℕ
derived_blocks hash password salt rounds zero = []
derived_blocks hash password salt rounds (suc n) =
    derived_blocks hash password salt rounds n ++ derived_block hash password salt rounds (suc n)

-- the derived key: the first len bytes of as many blocks as hold them (5.2, steps 2 and 4)
abbrev pub pbkdf2 : Hash → List ℕ → List ℕ → ℕ → ℕ → List ℕ
pbkdf2 hash password salt rounds len =
    take len (derived_blocks hash password salt rounds (div_ceil len (output_len hash)))
