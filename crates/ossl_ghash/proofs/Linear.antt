-- The product is linear in each factor.
use Rattle.std.proofs.Common.{◌≡◌, ℕ, zero, suc, ◌+◌, ◌-◌, ◌*◌, ◌/◌, ◌%◌, ◌^◌, ◌<◌, ◌≤◌, Bool, true, false, cond, nat_eq, bit_xor, refl, sym, ap, ◌∙◌, arith}
use Rattle.std.proofs.lemmas.Bool.Decides.{nat_tests}
use Rattle.std.proofs.lemmas.Nat.{xor_mod, xor_shr, xor_comm}
use Rattle.std.specs.Int.Bits.{xor_self, xor_zero_r}
use lib.Bits.{xor_assoc}
use Rattle.ossl_ghash.specs.Ghash.{halved, times, product, IsAdditive}

-- what a bit x picks of v
abbrev pub picked : ℕ → ℕ → ℕ
picked v x = cond (nat_eq x 0) 0 v

pub xor_swap : (a b c d : ℕ) → bit_xor (bit_xor a b) (bit_xor c d) ≡ bit_xor (bit_xor a c) (bit_xor b d)
xor_swap a b c d =
    xor_assoc a b (bit_xor c d) ∙ ap (bit_xor a) (sym (xor_assoc b c d) ∙ ap (λ (x : ℕ). bit_xor x d) (xor_comm b c) ∙ xor_assoc c b d)
    ∙ sym (xor_assoc a c (bit_xor b d))

picked-xor : (v x y : ℕ) → x < 2 → y < 2 → picked v (bit_xor x y) ≡ bit_xor (picked v x) (picked v y)
picked-xor v zero zero hx hy = refl
picked-xor v zero (suc zero) hx hy = refl
picked-xor v (suc zero) zero hx hy = sym (xor_zero_r v)
picked-xor v (suc zero) (suc zero) hx hy = sym (xor_self v)
picked-xor v (suc (suc x)) y hx hy = absurd (omega arith)
picked-xor v x (suc (suc y)) hx hy = absurd (omega arith)

picked-sum : (a b : ℕ) (t : Bool) → cond t 0 (bit_xor a b) ≡ bit_xor (cond t 0 a) (cond t 0 b)
picked-sum a b true = refl
picked-sum a b false = refl

either_sum : (a b : ℕ) (t : Bool) → cond t a (bit_xor a b) ≡ bit_xor a (cond t 0 b)
either_sum a b true = sym (xor_zero_r a)
either_sum a b false = refl

abbrev reduced : ℕ
reduced = 0xe1 * 2 ^ 120

pub halved_sum : (v : ℕ) → halved v ≡ bit_xor (v / 2) (picked reduced (v % 2))
halved_sum v = either_sum (v / 2) reduced (nat_eq (v % 2) 0)

pub halved-xor : (a b : ℕ) → halved (bit_xor a b) ≡ bit_xor (halved a) (halved b)
halved-xor a b =
    let low : bit_xor a b % 2 ≡ bit_xor (a % 2) (b % 2) = xor_mod a b 1 in
    let high : bit_xor a b / 2 ≡ bit_xor (a / 2) (b / 2) = xor_shr a b 1 in
    halved_sum (bit_xor a b)
    ∙ (λ i. bit_xor (high i) ((ap (picked reduced) low ∙ picked-xor reduced (a % 2) (b % 2) (omega arith) (omega arith)) i))
    ∙ xor_swap (a / 2) (b / 2) (picked reduced (a % 2)) (picked reduced (b % 2))
    ∙ sym (λ i. bit_xor (halved_sum a i) (halved_sum b i))

-- a sum of two first factors
pub times_first : (n v a b : ℕ) → times n (bit_xor a b) v ≡ bit_xor (times n a v) (times n b v)
unfolding times
times_first zero v a b = refl
times_first (suc n) v a b =
    let bit : bit_xor a b / 2 ^ n % 2 ≡ bit_xor (a / 2 ^ n % 2) (b / 2 ^ n % 2) =
    ap (λ (x : ℕ). x % 2) (xor_shr a b n) ∙ xor_mod (a / 2 ^ n) (b / 2 ^ n) 1 in
    (λ i. bit_xor (picked v (bit i)) (times_first n (halved v) a b i))
    ∙ (λ i. bit_xor (picked-xor v (a / 2 ^ n % 2) (b / 2 ^ n % 2) (omega arith) (omega arith) i) (bit_xor (times n a (halved v)) (times n b (halved v))))
    ∙ xor_swap (picked v (a / 2 ^ n % 2)) (picked v (b / 2 ^ n % 2)) (times n a (halved v)) (times n b (halved v))

-- a sum of two second factors
pub times_second : (n x a b : ℕ) → times n x (bit_xor a b) ≡ bit_xor (times n x a) (times n x b)
unfolding times
times_second zero x a b = refl
times_second (suc n) x a b =
    let t : Bool = nat_eq (x / 2 ^ n % 2) 0 in
    (λ i. bit_xor (picked-sum a b t i) ((ap (times n x) (halved-xor a b) ∙ times_second n x (halved a) (halved b)) i))
    ∙ xor_swap (cond t 0 a) (cond t 0 b) (times n x (halved a)) (times n x (halved b))

halved_picked : (v : ℕ) (t : Bool) → cond t 0 (halved v) ≡ halved (cond t 0 v)
halved_picked v true = refl
halved_picked v false = refl

-- a second factor that is moved right
pub times_halved : (n x v : ℕ) → times n x (halved v) ≡ halved (times n x v)
unfolding times
times_halved zero x v = refl
times_halved (suc n) x v =
    let t : Bool = nat_eq (x / 2 ^ n % 2) 0 in
    (λ i. bit_xor (halved_picked v t i) (times_halved n x (halved v) i))
    ∙ sym (halved-xor (cond t 0 v) (times n x (halved v)))

pub is_first_additive : (y : ℕ) → IsAdditive (λ x. product x y)
is_first_additive y = times_first 128 y

pub is_second_additive : (x : ℕ) → IsAdditive (λ y. product x y)
is_second_additive x = times_second 128 x

-- a turn of the loop over the bits: where the bit is set, and where it is not
pub times_odd : (s i x v w : ℕ) → i < 128 → x / 2 ^ (127 - i) % 2 ≡ 1 → w ≡ halved v
    → bit_xor (bit_xor s v) (times (128 - (i + 1)) x w) ≡ bit_xor s (times (128 - i) x v)
unfolding times
times_odd s i x v w h odd ew =
    let n : ℕ = 127 - i in
    let e : 128 - i ≡ suc n = omega arith in
    let m : 128 - (i + 1) ≡ n = omega arith in
    let t : nat_eq (x / 2 ^ n % 2) 0 ≡ false = grind (arith, nat_tests) in
    rw (e, m, t, ew, xor_assoc) refl

pub times_even : (s i x v w : ℕ) → i < 128 → x / 2 ^ (127 - i) % 2 ≡ 0 → w ≡ halved v
    → bit_xor s (times (128 - (i + 1)) x w) ≡ bit_xor s (times (128 - i) x v)
unfolding times
times_even s i x v w h even ew =
    let n : ℕ = 127 - i in
    let e : 128 - i ≡ suc n = omega arith in
    let m : 128 - (i + 1) ≡ n = omega arith in
    rw (e, m, even, ew) refl

pub times_none : (s i x v : ℕ) → 128 ≤ i → bit_xor s (times (128 - i) x v) ≡ s
unfolding times
times_none s i x v h = let e : 128 - i ≡ 0 = omega arith in rw e (xor_zero_r s)
