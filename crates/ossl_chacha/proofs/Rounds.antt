-- The block function is that of the generator.
use Rattle.std.proofs.Common.{◌≡◌, ℕ, zero, suc, ◌+◌, ◌*◌, ◌/◌, ◌%◌, ◌^◌, ◌<◌, List, [], ◌∷◌, length, slice_index, map, drop, drop-cons, add-one, subst, refl, sym, ap, ◌∙◌, arith}
use Rattle.std.specs.List.{range_with_len}
use Rattle.std.proofs.lemmas.List.{drop_all}
use Rattle.rand_chacha.specs.Block.{quarter_round as quarter_words, column_round as columns_of, diagonal_round as diagonals_of, double_rounds, block_word, initial_state as state_of}
use Rattle.rand_core.specs.Steps.{u32_at}
use Rattle.ossl_chacha.specs.Generator.{GivesKeyStream, generator_at}
use Rattle.ossl_chacha.specs.Block.{quarter_round, column_round, diagonal_round, inner_blocks, initial_state, added, block_words}

-- a column round of sixteen words
column_round-is : (a0 a1 a2 a3 b0 b1 b2 b3 c0 c1 c2 c3 d0 d1 d2 d3 : ℕ)
    → column_round (a0 ∷ a1 ∷ a2 ∷ a3 ∷ b0 ∷ b1 ∷ b2 ∷ b3 ∷ c0 ∷ c1 ∷ c2 ∷ c3 ∷ d0 ∷ d1 ∷ d2 ∷ d3 ∷ [])
    ≡ columns_of (a0 ∷ a1 ∷ a2 ∷ a3 ∷ b0 ∷ b1 ∷ b2 ∷ b3 ∷ c0 ∷ c1 ∷ c2 ∷ c3 ∷ d0 ∷ d1 ∷ d2 ∷ d3 ∷ [])
unfolding quarter_round column_round quarter_words columns_of
column_round-is a0 a1 a2 a3 b0 b1 b2 b3 c0 c1 c2 c3 d0 d1 d2 d3 = refl

diagonal_round-is : (a0 a1 a2 a3 b0 b1 b2 b3 c0 c1 c2 c3 d0 d1 d2 d3 : ℕ)
    → diagonal_round (a0 ∷ a1 ∷ a2 ∷ a3 ∷ b0 ∷ b1 ∷ b2 ∷ b3 ∷ c0 ∷ c1 ∷ c2 ∷ c3 ∷ d0 ∷ d1 ∷ d2 ∷ d3 ∷ [])
    ≡ diagonals_of (a0 ∷ a1 ∷ a2 ∷ a3 ∷ b0 ∷ b1 ∷ b2 ∷ b3 ∷ c0 ∷ c1 ∷ c2 ∷ c3 ∷ d0 ∷ d1 ∷ d2 ∷ d3 ∷ [])
unfolding quarter_round diagonal_round quarter_words diagonals_of
diagonal_round-is a0 a1 a2 a3 b0 b1 b2 b3 c0 c1 c2 c3 d0 d1 d2 d3 = refl

-- a list from a place on, element by element
rest_of : (b : List ℕ) (n k : ℕ) → k + n ≡ length b → drop k b ≡ map (λ j. slice_index b j) (range_with_len k n)
rest_of b zero k e = drop_all k b (omega arith)
rest_of b (suc n) k e = rw (drop-cons b k 0 (omega arith), ← add-one, rest_of b n (k + 1) (omega arith)) refl

columns-length : (x : List ℕ) → length (columns_of x) ≡ 16
unfolding columns_of
columns-length x = refl

-- what holds of sixteen words holds of each list of that length
sixteen : (P : List ℕ → Type 0)
    → ((a0 a1 a2 a3 b0 b1 b2 b3 c0 c1 c2 c3 d0 d1 d2 d3 : ℕ)
    → P (a0 ∷ a1 ∷ a2 ∷ a3 ∷ b0 ∷ b1 ∷ b2 ∷ b3 ∷ c0 ∷ c1 ∷ c2 ∷ c3 ∷ d0 ∷ d1 ∷ d2 ∷ d3 ∷ []))
    → (x : List ℕ) → length x ≡ 16 → P x
sixteen P p x h =
    subst P (sym (rest_of x 16 0 (sym h)))
    (p (slice_index x 0) (slice_index x 1) (slice_index x 2) (slice_index x 3) (slice_index x 4) (slice_index x 5) (slice_index x 6) (slice_index x 7)
    (slice_index x 8) (slice_index x 9) (slice_index x 10) (slice_index x 11) (slice_index x 12) (slice_index x 13) (slice_index x 14) (slice_index x 15))

-- the rounds are the generator's, and keep sixteen words
rounds-are : (n : ℕ) (x : List ℕ) → length x ≡ 16 → (inner_blocks n x ≡ double_rounds n x) × (length (double_rounds n x) ≡ 16)
unfolding inner_blocks double_rounds diagonals_of
rounds-are zero x h = (refl, h)
rounds-are (suc n) x h =
    let before = rounds-are n x h in (
      ap (λ (y : List ℕ). diagonal_round (column_round y)) before.0
          ∙ ap diagonal_round (sixteen (λ y. column_round y ≡ columns_of y) column_round-is (double_rounds n x) before.1)
          ∙ sixteen (λ y. diagonal_round y ≡ diagonals_of y) diagonal_round-is (columns_of (double_rounds n x)) (columns-length (double_rounds n x)),
      refl,
    )

-- a word of two states added
added-at : (x y : List ℕ) (k : ℕ) → k < length x → k < length y → slice_index (added x y) k ≡ (slice_index x k + slice_index y k) % 2 ^ 32
unfolding added
added-at [] y k h l = absurd (omega arith)
added-at (a ∷ x) [] k h l = absurd (omega arith)
added-at (a ∷ x) (b ∷ y) zero h l = refl
added-at (a ∷ x) (b ∷ y) (suc k) h l = added-at x y k (omega arith) (omega arith)

-- a word of a block is the generator's, whose counter and stream are two words each
pub block_word-is : (k0 k1 k2 k3 k4 k5 k6 k7 counter n0 n1 n2 k : ℕ) → counter < 2 ^ 32 → n0 < 2 ^ 32 → n1 < 2 ^ 32 → n2 < 2 ^ 32 → k < 16
    → slice_index (block_words (k0 ∷ k1 ∷ k2 ∷ k3 ∷ k4 ∷ k5 ∷ k6 ∷ k7 ∷ []) counter (n0 ∷ n1 ∷ n2 ∷ [])) k
    ≡ block_word 10 (k0 ∷ k1 ∷ k2 ∷ k3 ∷ k4 ∷ k5 ∷ k6 ∷ k7 ∷ []) (counter + n0 * 2 ^ 32) (n1 + n2 * 2 ^ 32) k
unfolding block_words block_word
block_word-is k0 k1 k2 k3 k4 k5 k6 k7 counter n0 n1 n2 k hc h0 h1 h2 h =
    let key = k0 ∷ k1 ∷ k2 ∷ k3 ∷ k4 ∷ k5 ∷ k6 ∷ k7 ∷ [] in
    let x = initial_state key counter (n0 ∷ n1 ∷ n2 ∷ []) in
    let e0 : (counter + n0 * 2 ^ 32) % 2 ^ 32 ≡ counter = omega arith in
    let e1 : (counter + n0 * 2 ^ 32) / 2 ^ 32 ≡ n0 = omega arith in
    let e2 : (n1 + n2 * 2 ^ 32) % 2 ^ 32 ≡ n1 = omega arith in
    let e3 : (n1 + n2 * 2 ^ 32) / 2 ^ 32 ≡ n2 = omega arith in
    let same : state_of key (counter + n0 * 2 ^ 32) (n1 + n2 * 2 ^ 32) ≡ x =
    λ i. 0x61707865 ∷ 0x3320646e ∷ 0x79622d32 ∷ 0x6b206574 ∷ k0 ∷ k1 ∷ k2 ∷ k3 ∷ k4 ∷ k5 ∷ k6 ∷ k7 ∷ e0 i ∷ e1 i ∷ e2 i ∷ e3 i ∷ [] in
    let rounds = rounds-are 10 x refl in
    added-at (inner_blocks 10 x) x k (rw rounds.0 (omega (arith, rounds.1))) h
    ∙ ap (λ (y : List ℕ). (slice_index y k + slice_index x k) % 2 ^ 32) rounds.0
    ∙ ap (λ (y : List ℕ). (slice_index (double_rounds 10 y) k + slice_index y k) % 2 ^ 32) (sym same)

-- the words of a block are the generator's at the block's place
pub gives : (key iv : List ℕ) → u32_at iv 0 < 2 ^ 32 → u32_at iv 1 < 2 ^ 32 → u32_at iv 2 < 2 ^ 32 → u32_at iv 3 < 2 ^ 32
    → GivesKeyStream key iv (generator_at key iv 0)
gives key iv b0 b1 b2 b3 n k hn hk =
    let place = 16 * (u32_at iv 0 + 0 + u32_at iv 1 * 2 ^ 32) % 2 ^ 68 + 16 * n + k in
    let block : place / 16 ≡ u32_at iv 0 + n + u32_at iv 1 * 2 ^ 32 = omega arith in
    let word : place % 16 ≡ k = omega arith in (
      omega arith,
      rw (block, word)
          (block_word-is (u32_at key 0) (u32_at key 1) (u32_at key 2) (u32_at key 3) (u32_at key 4) (u32_at key 5) (u32_at key 6) (u32_at key 7)
          (u32_at iv 0 + n) (u32_at iv 1) (u32_at iv 2) (u32_at iv 3) k (omega arith) b1 b2 b3 hk),
    )

length-added : (x y : List ℕ) → length x ≡ length y → length (added x y) ≡ length x
unfolding added
length-added [] y h = refl
length-added (a ∷ x) [] h = absurd (omega arith)
length-added (a ∷ x) (b ∷ y) h = ap suc (length-added x y (omega arith))

-- a block has sixteen words
pub length-block_words : (key : List ℕ) (counter : ℕ) (nonce : List ℕ) → length (initial_state key counter nonce) ≡ 16
    → length (block_words key counter nonce) ≡ 16
unfolding block_words
length-block_words key counter nonce h =
    let x = initial_state key counter nonce in
    let rounds = rounds-are 10 x h in
    let size : length (inner_blocks 10 x) ≡ 16 = rw rounds.0 rounds.1 in
    length-added (inner_blocks 10 x) x (size ∙ sym h) ∙ size
