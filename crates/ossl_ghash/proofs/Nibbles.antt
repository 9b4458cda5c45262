-- The product by nibbles.
use Rattle.std.proofs.Common.{◌≡◌, ℕ, zero, suc, ◌+◌, ◌*◌, ◌/◌, ◌%◌, ◌^◌, ◌<◌, bit_xor, List, [], ◌∷◌, map, slice_index, get_or, refl, sym, ap, ◌∙◌, arith}
use Rattle.std.specs.List.{range_with_len}
use Rattle.std.proofs.lemmas.List.{get_or-map}
use Rattle.std.proofs.lemmas.List.FromFn.{get_or-map-range_with_len}
use Rattle.std.proofs.lemmas.Nat.{xor_comm}
use Rattle.std.specs.Int.Bits.{xor_zero_r}
use lib.Bits.{xor_assoc, xor_shifted}
use lib.Pow.{shr-shr}
use Rattle.ossl_ghash.specs.declared.field.TheConstants.{REDUCED}
use Rattle.ossl_ghash.specs.Ghash.{halved, times}
use Rattle.ossl_ghash.specs.Nibbles.{halved_4, multiples_of}
use Rattle.ossl_ghash.proofs.Linear.{picked, halved-xor, times_halved}

-- moved right by four bits, which are picked from a table
halved_even : (m : ℕ) → halved (m * 2) ≡ m
halved_even m =
    let low : m * 2 % 2 ≡ 0 = omega arith in
    let high : m * 2 / 2 ≡ m = omega arith in
    rw (low, high) refl

halved_shifted : (q : ℕ) → halved_4 (q * 2 ^ 4) ≡ q
unfolding halved_4
halved_shifted q =
    let e : q * 2 ^ 4 ≡ q * 2 * 2 * 2 * 2 = omega arith in
    ap (λ (x : ℕ). halved (halved (halved (halved x)))) e
    ∙ ap (λ (x : ℕ). halved (halved (halved x))) (halved_even (q * 2 * 2 * 2))
    ∙ ap (λ (x : ℕ). halved (halved x)) (halved_even (q * 2 * 2)) ∙ ap halved (halved_even (q * 2)) ∙ halved_even q

halved_4-xor : (a b : ℕ) → halved_4 (bit_xor a b) ≡ bit_xor (halved_4 a) (halved_4 b)
unfolding halved_4
halved_4-xor a b =
    ap (λ (x : ℕ). halved (halved (halved x))) (halved-xor a b)
    ∙ ap (λ (x : ℕ). halved (halved x)) (halved-xor (halved a) (halved b))
    ∙ ap halved (halved-xor (halved (halved a)) (halved (halved b)))
    ∙ halved-xor (halved (halved (halved a))) (halved (halved (halved b)))

reduced_table : map (λ r. r * 2 ^ 64) REDUCED ≡ map halved_4 (range_with_len 0 16)
unfolding halved_4
reduced_table = refl

reduced_at : (r : ℕ) → r < 16 → slice_index REDUCED r * 2 ^ 64 ≡ halved_4 r
reduced_at r h =
    sym (get_or-map (λ x. x * 2 ^ 64) REDUCED r 0 0 h) ∙ ap (λ (x : List ℕ). get_or x r 0) reduced_table
    ∙ get_or-map-range_with_len halved_4 0 16 r r 0 h (omega arith)

pub reduced_sum : (v : ℕ) → bit_xor (v / 16) (slice_index REDUCED (v % 16) * 2 ^ 64) ≡ halved_4 v
reduced_sum v =
    let q : ℕ = v / 16 in
    let r : ℕ = v % 16 in
    let low : r < 2 ^ 4 = omega arith in
    let all : q * 2 ^ 4 + r ≡ v = omega arith in
    ap (bit_xor q) (reduced_at r (omega arith)) ∙ ap (λ (x : ℕ). bit_xor x (halved_4 r)) (sym (halved_shifted q))
    ∙ sym (halved_4-xor (q * 2 ^ 4) r) ∙ ap halved_4 (xor_shifted q 4 r low ∙ all)

-- the multiples of a subkey by numbers of four bits
pub multiples : (h8 h4 h2 h1 : ℕ) → h4 ≡ halved h8 → h2 ≡ halved h4 → h1 ≡ halved h2
    → 0 ∷ h1 ∷ h2 ∷ bit_xor h2 h1 ∷ h4 ∷ bit_xor h4 h1 ∷ bit_xor h4 h2 ∷ bit_xor h4 (bit_xor h2 h1)
    ∷ h8 ∷ bit_xor h8 h1 ∷ bit_xor h8 h2 ∷ bit_xor h8 (bit_xor h2 h1) ∷ bit_xor h8 h4 ∷ bit_xor h8 (bit_xor h4 h1)
    ∷ bit_xor h8 (bit_xor h4 h2) ∷ bit_xor h8 (bit_xor h4 (bit_xor h2 h1)) ∷ []
    ≡ multiples_of h8
unfolding times
multiples h8 h4 h2 h1 e4 e2 e1 =
    let z8 = xor_zero_r h8 in
    let f4 : h4 ≡ bit_xor (halved h8) 0 = e4 ∙ sym (xor_zero_r (halved h8)) in
    let k2 : h2 ≡ halved (halved h8) = e2 ∙ ap halved e4 in
    let f2 : h2 ≡ bit_xor (halved (halved h8)) 0 = k2 ∙ sym (xor_zero_r _) in
    let f1 : h1 ≡ bit_xor (halved (halved (halved h8))) 0 = e1 ∙ ap halved k2 ∙ sym (xor_zero_r _) in
    λ i. 0 ∷ f1 i ∷ f2 i ∷ bit_xor (k2 i) (f1 i) ∷ f4 i ∷ bit_xor (e4 i) (f1 i) ∷ bit_xor (e4 i) (f2 i) ∷ bit_xor (e4 i) (bit_xor (k2 i) (f1 i))
    ∷ sym z8 i ∷ bit_xor h8 (f1 i) ∷ bit_xor h8 (f2 i) ∷ bit_xor h8 (bit_xor (k2 i) (f1 i)) ∷ bit_xor h8 (f4 i) ∷ bit_xor h8 (bit_xor (e4 i) (f1 i))
    ∷ bit_xor h8 (bit_xor (e4 i) (f2 i)) ∷ bit_xor h8 (bit_xor (e4 i) (bit_xor (k2 i) (f1 i))) ∷ []

pub multiple_at : (table : List ℕ) (h n : ℕ) → table ≡ multiples_of h → n < 16 → slice_index table n ≡ times 4 n h
multiple_at table h n e low =
    ap (λ (x : List ℕ). get_or x n 0) e ∙ get_or-map-range_with_len (λ k. times 4 k h) 0 16 n n 0 low (omega arith)

-- four bits more of the first factor
bit_of_nibble : (x k j : ℕ) → j < 4 → x / 2 ^ (k + j) % 2 ≡ x / 2 ^ k % 16 / 2 ^ j % 2
bit_of_nibble x k j h = ap (λ (y : ℕ). y % 2) (sym (shr-shr x k j)) ∙ low j h (x / 2 ^ k) where
  low : (j : ℕ) → j < 4 → (w : ℕ) → w / 2 ^ j % 2 ≡ w % 16 / 2 ^ j % 2
  low zero h w = omega arith
  low (suc zero) h w = omega arith
  low (suc (suc zero)) h w = omega arith
  low (suc (suc (suc zero))) h w = omega arith
  low (suc (suc (suc (suc j)))) h w = absurd (omega arith)

times_4 : (n h : ℕ) → times 4 n h ≡ bit_xor (picked h (n / 2 ^ 3 % 2)) (bit_xor (picked (halved h) (n / 2 ^ 2 % 2)) (bit_xor (picked (halved (halved h)) (n / 2 ^ 1 % 2)) (bit_xor (picked (halved (halved (halved h))) (n / 2 ^ 0 % 2)) 0)))
unfolding times
times_4 n h = refl

times_more : (k x h : ℕ) → times (suc (suc (suc (suc k)))) x h
    ≡ bit_xor (picked h (x / 2 ^ (suc (suc (suc k))) % 2)) (bit_xor (picked (halved h) (x / 2 ^ (suc (suc k)) % 2)) (bit_xor (picked (halved (halved h)) (x / 2 ^ (suc k) % 2)) (bit_xor (picked (halved (halved (halved h))) (x / 2 ^ k % 2)) (times k x (halved_4 h)))))
unfolding times halved_4
times_more k x h = refl

times_halved_4 : (k x h : ℕ) → times k x (halved_4 h) ≡ halved_4 (times k x h)
unfolding halved_4
times_halved_4 k x h =
    times_halved k x (halved (halved (halved h)))
    ∙ ap halved (times_halved k x (halved (halved h))) ∙ ap (λ (v : ℕ). halved (halved v)) (times_halved k x (halved h))
    ∙ ap (λ (v : ℕ). halved (halved (halved v))) (times_halved k x h)

-- sums of four and what follows them
four_more : (a b c d r : ℕ) → bit_xor a (bit_xor b (bit_xor c (bit_xor d r))) ≡ bit_xor (bit_xor a (bit_xor b (bit_xor c (bit_xor d 0)))) r
four_more a b c d r =
    let e1 : bit_xor d r ≡ bit_xor (bit_xor d 0) r = ap (λ (y : ℕ). bit_xor y r) (sym (xor_zero_r d)) in
    ap (λ (y : ℕ). bit_xor a (bit_xor b (bit_xor c y))) e1
    ∙ ap (λ (y : ℕ). bit_xor a (bit_xor b y)) (sym (xor_assoc c (bit_xor d 0) r))
    ∙ ap (bit_xor a) (sym (xor_assoc b (bit_xor c (bit_xor d 0)) r))
    ∙ sym (xor_assoc a (bit_xor b (bit_xor c (bit_xor d 0))) r)

pub nibble_step : (k x h : ℕ) → times (k + 4) x h ≡ bit_xor (halved_4 (times k x h)) (times 4 (x / 2 ^ k % 16) h)
nibble_step k x h =
    let n : ℕ = x / 2 ^ k % 16 in
    let p3 : suc (suc (suc k)) ≡ k + 3 = omega arith in
    let p2 : suc (suc k) ≡ k + 2 = omega arith in
    let p1 : suc k ≡ k + 1 = omega arith in
    let p0 : k ≡ k + 0 = omega arith in
    let all : k + 4 ≡ suc (suc (suc (suc k))) = omega arith in
    let b3 : x / 2 ^ suc (suc (suc k)) % 2 ≡ n / 2 ^ 3 % 2 = ap (λ (j : ℕ). x / 2 ^ j % 2) p3 ∙ bit_of_nibble x k 3 (omega arith) in
    let b2 : x / 2 ^ suc (suc k) % 2 ≡ n / 2 ^ 2 % 2 = ap (λ (j : ℕ). x / 2 ^ j % 2) p2 ∙ bit_of_nibble x k 2 (omega arith) in
    let b1 : x / 2 ^ suc k % 2 ≡ n / 2 ^ 1 % 2 = ap (λ (j : ℕ). x / 2 ^ j % 2) p1 ∙ bit_of_nibble x k 1 (omega arith) in
    let b0 : x / 2 ^ k % 2 ≡ n / 2 ^ 0 % 2 = ap (λ (j : ℕ). x / 2 ^ j % 2) p0 ∙ bit_of_nibble x k 0 (omega arith) in
    ap (λ (j : ℕ). times j x h) all ∙ times_more k x h
    ∙ (λ i. bit_xor (picked h (b3 i)) (bit_xor (picked (halved h) (b2 i)) (bit_xor (picked (halved (halved h)) (b1 i)) (bit_xor (picked (halved (halved (halved h))) (b0 i)) (times_halved_4 k x h i)))))
    ∙ four_more (picked h (n / 2 ^ 3 % 2)) (picked (halved h) (n / 2 ^ 2 % 2)) (picked (halved (halved h)) (n / 2 ^ 1 % 2)) (picked (halved (halved (halved h))) (n / 2 ^ 0 % 2)) (halved_4 (times k x h))
    ∙ ap (λ (y : ℕ). bit_xor y (halved_4 (times k x h))) (sym (times_4 n h))
    ∙ xor_comm (times 4 n h) (halved_4 (times k x h))

-- a byte of the loop: its two nibbles
pub byte_step : (i x h rest sum half next low high : ℕ) → sum ≡ times (8 * i) x h → rest ≡ x / 2 ^ (8 * i)
    → low ≡ times 4 (rest % 256 % 16) h → high ≡ times 4 (rest % 256 / 16) h
    → half ≡ bit_xor (halved_4 sum) low → next ≡ bit_xor (halved_4 half) high → next ≡ times (8 * (i + 1)) x h
byte_step i x h rest sum half next low high es er el eh ehalf enext =
    let k : ℕ = 8 * i in
    let all : k + 4 + 4 ≡ 8 * (i + 1) = omega arith in
    let n0 : rest % 256 % 16 ≡ x / 2 ^ k % 16 = ap (λ (y : ℕ). y % 256 % 16) er ∙ omega arith in
    let up : x / 2 ^ k / 16 ≡ x / 2 ^ (k + 4) = shr-shr x k 4 in
    let n1 : rest % 256 / 16 ≡ x / 2 ^ (k + 4) % 16 = ap (λ (y : ℕ). y % 256 / 16) er ∙ nibble (x / 2 ^ k) ∙ ap (λ (y : ℕ). y % 16) up in
    let first : half ≡ times (k + 4) x h =
    ehalf ∙ (λ i. bit_xor (halved_4 (es i)) ((el ∙ ap (λ (n : ℕ). times 4 n h) n0) i)) ∙ sym (nibble_step k x h) in
    enext ∙ (λ i. bit_xor (halved_4 (first i)) ((eh ∙ ap (λ (n : ℕ). times 4 n h) n1) i)) ∙ sym (nibble_step (k + 4) x h)
    ∙ ap (λ (j : ℕ). times j x h) all where
      nibble : (w : ℕ) → w % 256 / 16 ≡ w / 16 % 16
      nibble w = omega arith

pub rest_step : (i x rest : ℕ) → rest ≡ x / 2 ^ (8 * i) → rest / 256 ≡ x / 2 ^ (8 * (i + 1))
rest_step i x rest e =
    let all : 8 * i + 8 ≡ 8 * (i + 1) = omega arith in
    ap (λ (y : ℕ). y / 256) e ∙ shr-shr x (8 * i) 8 ∙ ap (λ (j : ℕ). x / 2 ^ j) all

pub product_none : (x h : ℕ) → 0 ≡ times (8 * 0) x h
unfolding times
product_none x h = refl

pub rest_none : (x : ℕ) → x ≡ x / 2 ^ (8 * 0)
rest_none x = omega arith

-- the multiple by the number 8 is the subkey
pub eighth : (table : List ℕ) (h : ℕ) → table ≡ multiples_of h → slice_index table 8 ≡ h
unfolding times
eighth table h e = ap (λ (x : List ℕ). slice_index x 8) e ∙ xor_zero_r h
