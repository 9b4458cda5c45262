-- The product of blocks, and GHASH (SP 800-38D, 6.3 and 6.4). A block is a number of 128 bits, its first byte the
-- highest, so that the standard's bit 0, the leftmost, is the highest bit.
use Rattle.std.specs.Prelude.{◌≡◌, ℕ, zero, suc, ◌-◌, ◌*◌, ◌/◌, ◌%◌, ◌^◌, List, ◌++◌, length, take, drop, replicate}
use Rattle.std.specs.Prelude.{nat_eq, bit_xor, if◌then◌else◌}
use Rattle.std.specs.Int.{w128, from_be_bytes}

-- moved right by a bit, with 0xe1 and 15 zero bytes added where the bit moved out was set (SP 800-38D, 6.3, step 3)
abbrev pub halved : ℕ → ℕ
halved v = if nat_eq (v % 2) 0 then v / 2 else bit_xor (v / 2) (0xe1 * 2 ^ 120)

-- the sum of what v is at each bit that is set among the n lowest of x, from the left; it is halved from bit to bit
-- (SP 800-38D, 6.3, step 3)
unfoldable pub times : ℕ → ℕ → ℕ → ℕ
times zero x v = 0
times (suc n) x v = bit_xor (if nat_eq (x / 2 ^ n % 2) 0 then 0 else v) (times n x (halved v))

-- the product of two blocks (SP 800-38D, 6.3)
abbrev pub product : ℕ → ℕ → ℕ
product x y = times 128 x y

-- a function that makes of a sum the sum of what it makes of both
abbrev pub IsAdditive : (ℕ → ℕ) → Type 0
IsAdditive f = (a b : ℕ) → f (bit_xor a b) ≡ bit_xor (f a) (f b)

-- the first n blocks of bs hashed from y on, under the hash subkey h (SP 800-38D, 6.4)
unfoldable pub hashed : ℕ → ℕ → ℕ → List ℕ → ℕ
hashed h zero y bs = y
hashed h (suc n) y bs = hashed h n (product (bit_xor y (from_be_bytes w128 (take 16 bs))) h) (drop 16 bs)

-- whole blocks hashed from y on
abbrev pub hash_from : ℕ → ℕ → List ℕ → ℕ
hash_from h y bs = hashed h (length bs / 16) y bs

-- GHASH of whole blocks (SP 800-38D, 6.4)
abbrev pub ghash : ℕ → List ℕ → ℕ
ghash h bs = hash_from h 0 bs

-- a text filled with zeros to whole blocks (SP 800-38D, 7.1, step 4)
abbrev pub filled : List ℕ → List ℕ
filled bs = bs ++ replicate ((16 - length bs % 16) % 16) 0
