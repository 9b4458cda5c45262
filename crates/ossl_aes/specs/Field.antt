-- The bytes of FIPS 197 as elements of the field GF(2^8) modulo x^8 + x^4 + x^3 + x + 1 (4), and the S-box (5.1.1).
use Rattle.std.specs.Prelude.{ℕ, zero, suc, ◌*◌, ◌/◌, ◌%◌, nat_lt, nat_eq, bit_xor, if◌then◌else◌}
use Rattle.std.specs.Int.{w8, rotate_left}

-- the byte times x (FIPS 197, 4.2.1)
abbrev pub double : ℕ → ℕ
double b = if nat_lt b 128 then 2 * b else bit_xor (2 * b % 256) 0x1b

-- the sum of the doublings of a that the n lowest bits of b pick (FIPS 197, 4.2)
unfoldable pub times : ℕ → ℕ → ℕ → ℕ
times zero a b = 0
times (suc n) a b = bit_xor (if nat_eq (b % 2) 0 then 0 else a) (times n (double a) (b / 2))

-- the product of two bytes (FIPS 197, 4.2)
abbrev pub mul : ℕ → ℕ → ℕ
mul a b = times 8 a b

-- the byte to the power n, by n products
unfoldable pub power : ℕ → ℕ → ℕ
power a zero = 1
power a (suc n) = mul a (power a n)

-- the inverse, and 0 for 0: the field has 255 elements beside 0, so the 255th power of each is 1 (FIPS 197, 4.2)
abbrev pub inverse : ℕ → ℕ
inverse a = power a 254

-- the affine map: bit i becomes the sum of the bits i, i + 4, i + 5, i + 6, i + 7 and that of 0x63 (FIPS 197, 5.1.1)
abbrev pub affine : ℕ → ℕ
affine b =
    bit_xor (bit_xor (bit_xor (bit_xor (bit_xor b (rotate_left w8 b 1)) (rotate_left w8 b 2)) (rotate_left w8 b 3))
    (rotate_left w8 b 4)) 0x63

-- the S-box: the inverse, then the affine map (FIPS 197, 5.1.1)
unfoldable pub sub : ℕ → ℕ
sub b = affine (inverse b)

-- the inverse of the affine map (FIPS 197, 5.3.2)
abbrev pub inv_affine : ℕ → ℕ
inv_affine b = bit_xor (bit_xor (bit_xor (rotate_left w8 b 1) (rotate_left w8 b 3)) (rotate_left w8 b 6)) 0x05

-- the inverse S-box: the inverse of the affine map, then the inverse (FIPS 197, 5.3.2)
unfoldable pub unsub : ℕ → ℕ
unsub b = inverse (inv_affine b)
