-- Lists of known length, and texts that are cut.
use Rattle.std.proofs.Common.{◌-◌, ◌*◌, ◌∙◌, ap, take, append_assoc, ◌≡◌, ℕ, zero, suc, ◌+◌, ◌<◌, List, [], ◌∷◌, ◌++◌, length, slice_index, map, drop, bit_xor, refl, sym, arith, add-one, drop-cons}
use Rattle.std.specs.List.{range_with_len}
use Rattle.std.proofs.lemmas.List.{drop_all, length-drop, take-append-drop, take_rest}
use Rattle.ossl_aes.specs.Cipher.{add}

-- the n elements from the place k on
pub rest_of : (b : List ℕ) (n k : ℕ) → k + n ≡ length b → drop k b ≡ map (λ j. slice_index b j) (range_with_len k n)
rest_of b zero k e = drop_all k b (omega arith)
rest_of b (suc n) k e = rw (drop-cons b k 0 (omega arith), ← add-one, rest_of b n (k + 1) (omega arith)) refl

-- the sum of two blocks by their bytes
pub sum_by_bytes : (a b : List ℕ) → length a ≡ 16 → length b ≡ 16
    → bit_xor (slice_index a 0) (slice_index b 0) ∷ bit_xor (slice_index a 1) (slice_index b 1) ∷ bit_xor (slice_index a 2) (slice_index b 2) ∷ bit_xor (slice_index a 3) (slice_index b 3) ∷ bit_xor (slice_index a 4) (slice_index b 4) ∷ bit_xor (slice_index a 5) (slice_index b 5) ∷ bit_xor (slice_index a 6) (slice_index b 6) ∷ bit_xor (slice_index a 7) (slice_index b 7) ∷ bit_xor (slice_index a 8) (slice_index b 8) ∷ bit_xor (slice_index a 9) (slice_index b 9) ∷ bit_xor (slice_index a 10) (slice_index b 10) ∷ bit_xor (slice_index a 11) (slice_index b 11) ∷ bit_xor (slice_index a 12) (slice_index b 12) ∷ bit_xor (slice_index a 13) (slice_index b 13) ∷ bit_xor (slice_index a 14) (slice_index b 14) ∷ bit_xor (slice_index a 15) (slice_index b 15) ∷ []
    ≡ add a b
unfolding add
sum_by_bytes a b la lb =
    let ea = rest_of a 16 0 (sym la) in
    let eb = rest_of b 16 0 (sym lb) in
    sym (λ i. add (ea i) (eb i))

-- two blocks in a row by their bytes
pub pair_by_bytes : (a b : List ℕ) → length a ≡ 16 → length b ≡ 16
    → slice_index a 0 ∷ slice_index a 1 ∷ slice_index a 2 ∷ slice_index a 3 ∷ slice_index a 4 ∷ slice_index a 5 ∷ slice_index a 6 ∷ slice_index a 7 ∷ slice_index a 8 ∷ slice_index a 9 ∷ slice_index a 10 ∷ slice_index a 11 ∷ slice_index a 12 ∷ slice_index a 13 ∷ slice_index a 14 ∷ slice_index a 15
    ∷ slice_index b 0 ∷ slice_index b 1 ∷ slice_index b 2 ∷ slice_index b 3 ∷ slice_index b 4 ∷ slice_index b 5 ∷ slice_index b 6 ∷ slice_index b 7 ∷ slice_index b 8 ∷ slice_index b 9 ∷ slice_index b 10 ∷ slice_index b 11 ∷ slice_index b 12 ∷ slice_index b 13 ∷ slice_index b 14 ∷ slice_index b 15 ∷ []
    ≡ a ++ b
pair_by_bytes a b la lb =
    let ea = rest_of a 16 0 (sym la) in
    let eb = rest_of b 16 0 (sym lb) in
    sym (λ i. ea i ++ eb i)

-- what is left of a list at a place: its element, and the rest
pub drop_more : (b : List ℕ) (i : ℕ) → i < length b → drop i b ≡ slice_index b i ∷ drop (i + 1) b
drop_more b i h = rw (add-one, drop-cons b i 0 h) refl

pub no_elements : (b : List ℕ) → length b ≡ 0 → b ≡ []
no_elements [] h = refl
no_elements (x ∷ b) h = absurd (omega arith)

-- a text cut at a place
pub cut_at : (k : ℕ) (xs r : List ℕ) → xs ++ r ≡ take k xs ++ (drop k xs ++ r)
cut_at k xs r = ap (λ (x : List ℕ). x ++ r) (sym (take-append-drop k xs)) ∙ append_assoc (take k xs) (drop k xs) r

-- a text cut at a place into two slices
pub split : (k : ℕ) (xs r : List ℕ) → xs ++ r ≡ take k xs ++ (take (length xs - k) (drop k xs) ++ r)
split k xs r = cut_at k xs r ∙ (λ i. take k xs ++ (sym (take_rest xs k) i ++ r))

-- the length of the second
pub length-rest : (k : ℕ) (xs : List ℕ) → length (take (length xs - k) (drop k xs)) ≡ length xs - k
length-rest k xs = ap length (take_rest xs k) ∙ length-drop k xs

-- the i-th block of a text, as a slice
pub block_slice : (i : ℕ) (xs : List ℕ) → take (16 * i + 16 - 16 * i) (drop (16 * i) xs) ≡ take 16 (drop (16 * i) xs)
block_slice i xs = let n : 16 * i + 16 - 16 * i ≡ 16 = omega arith in ap (λ (k : ℕ). take k (drop (16 * i) xs)) n
