-- Steps of the products and powers.
use Rattle.std.proofs.Common.{◌≡◌, ℕ, zero, suc, ◌+◌, ◌-◌, ◌/◌, ◌%◌, ◌<◌, ◌≤◌, nat_eq, false, cond, bit_xor, refl, sym, ap, ◌∙◌, arith, add-one}
use Rattle.std.proofs.lemmas.Bool.Decides.{nat_tests}
use Rattle.std.proofs.lemmas.Nat.{xor_mod, xor_shr, xor_comm}
use Rattle.std.specs.Int.Bits.{xor_self, xor_zero_r}
use lib.Bits.{xor_assoc}
use Rattle.ossl_aes.specs.Cipher.{row}
use Rattle.ossl_aes.specs.Field.{double, times, power, mul}

-- a turn of the loop, where the lowest bit is set and where it is not
pub times_odd : (s i a b : ℕ) → i < 8 → 0 < b % 2 → bit_xor (bit_xor s a) (times (8 - (i + 1)) (double a) (b / 2)) ≡ bit_xor s (times (8 - i) a b)
unfolding times
times_odd s i a b h odd =
    let n : ℕ = 8 - (i + 1) in
    let e : 8 - i ≡ suc n = omega arith in
    let t : nat_eq (b % 2) 0 ≡ false = grind (arith, nat_tests) in
    rw (e, t, xor_assoc) refl

pub times_even : (s i a b : ℕ) → i < 8 → b % 2 ≡ 0 → bit_xor s (times (8 - (i + 1)) (double a) (b / 2)) ≡ bit_xor s (times (8 - i) a b)
unfolding times
times_even s i a b h even =
    let n : ℕ = 8 - (i + 1) in
    let e : 8 - i ≡ suc n = omega arith in
    rw (e, even) refl

pub times_none : (i a b : ℕ) → 8 ≤ i → times (8 - i) a b ≡ 0
unfolding times
times_none i a b h = let e : 8 - i ≡ 0 = omega arith in rw e refl

pub power_more : (a n : ℕ) → mul a (power a n) ≡ power a (n + 1)
unfolding power
power_more a n = rw add-one refl

pub power_none : (a : ℕ) → 1 ≡ power a 0
unfolding power
power_none a = refl

-- ---- products of a sum

-- the part of a product that one bit of the second byte picks
abbrev picked : ℕ → ℕ → ℕ
picked m x = cond (nat_eq x 0) 0 m

picked-xor : (m x y : ℕ) → x < 2 → y < 2 → picked m (bit_xor x y) ≡ bit_xor (picked m x) (picked m y)
picked-xor m zero zero hx hy = refl
picked-xor m zero (suc zero) hx hy = refl
picked-xor m (suc zero) zero hx hy = sym (xor_zero_r m)
picked-xor m (suc zero) (suc zero) hx hy = sym (xor_self m)
picked-xor m (suc (suc x)) y hx hy = absurd (omega arith)
picked-xor m x (suc (suc y)) hx hy = absurd (omega arith)

xor_swap : (a b c d : ℕ) → bit_xor (bit_xor a b) (bit_xor c d) ≡ bit_xor (bit_xor a c) (bit_xor b d)
xor_swap a b c d =
    xor_assoc a b (bit_xor c d) ∙ ap (bit_xor a) (sym (xor_assoc b c d) ∙ ap (λ (x : ℕ). bit_xor x d) (xor_comm b c) ∙ xor_assoc c b d)
    ∙ sym (xor_assoc a c (bit_xor b d))

times-xor : (n m a b : ℕ) → times n m (bit_xor a b) ≡ bit_xor (times n m a) (times n m b)
unfolding times
times-xor zero m a b = refl
times-xor (suc n) m a b =
    let low : bit_xor a b % 2 ≡ bit_xor (a % 2) (b % 2) = xor_mod a b 1 in
    let high : bit_xor a b / 2 ≡ bit_xor (a / 2) (b / 2) = xor_shr a b 1 in
    (λ i. bit_xor (picked m (low i)) (times n (double m) (high i)))
    ∙ (λ i. bit_xor (picked-xor m (a % 2) (b % 2) (omega arith) (omega arith) i) (times-xor n (double m) (a / 2) (b / 2) i))
    ∙ xor_swap (picked m (a % 2)) (picked m (b % 2)) (times n (double m) (a / 2)) (times n (double m) (b / 2))

-- a row of a matrix times a sum
pub row-add : (m n p q a b c d e f g h : ℕ)
    → row m n p q (bit_xor a e) (bit_xor b f) (bit_xor c g) (bit_xor d h) ≡ bit_xor (row m n p q a b c d) (row m n p q e f g h)
row-add m n p q a b c d e f g h =
    (λ i. bit_xor (bit_xor (bit_xor (times-xor 8 m a e i) (times-xor 8 n b f i)) (times-xor 8 p c g i)) (times-xor 8 q d h i))
    ∙ (λ i. bit_xor (bit_xor (xor_swap (mul m a) (mul m e) (mul n b) (mul n f) i) (bit_xor (mul p c) (mul p g))) (bit_xor (mul q d) (mul q h)))
    ∙ (λ i. bit_xor (xor_swap (bit_xor (mul m a) (mul n b)) (bit_xor (mul m e) (mul n f)) (mul p c) (mul p g) i) (bit_xor (mul q d) (mul q h)))
    ∙ xor_swap (bit_xor (bit_xor (mul m a) (mul n b)) (mul p c)) (bit_xor (bit_xor (mul m e) (mul n f)) (mul p g)) (mul q d) (mul q h)
