-- What the generator gives in one go of sixteen words is a block.
use Rattle.std.proofs.Common.{◌≡◌, ℕ, zero, suc, ◌+◌, ◌-◌, ◌*◌, ◌/◌, ◌%◌, ◌^◌, ◌<◌, ◌≤◌, List, [], ◌++◌, length, slice_index, map, take, drop, add-one, inl, inr, append_assoc, length-append, refl, sym, ap, ◌∙◌, arith, w32}
use Rattle.std.specs.List.{range_with_len, flat_map}
use Rattle.std.specs.Int.{to_le_bytes}
use Rattle.std.proofs.lemmas.List.{flat_map_more, take_all, append-nil}
use Rattle.std.proofs.lemmas.Bool.{cases_lt}
use Rattle.std.proofs.lemmas.List.FromFn.{map-range_with_len_more, fill_by_all}
use Rattle.rand_core.specs.Steps.{word_bytes, first_bytes, fill_via_u32, u32_at}
use Rattle.rand_chacha.specs.ChaCha.{ChaCha, word_at, next_word}
use Rattle.ossl_chacha.specs.Block.{block_words}
use Rattle.ossl_chacha.specs.KeyStream.{block_at, blocks_of, words, counter_of, stream_len}
use Rattle.ossl_chacha.specs.Generator.{GivesKeyStream, generator_at, IsInStep}
use Rattle.ossl_chacha.proofs.Rounds.{length-block_words}

-- word j after the generator's place
abbrev later : ChaCha → ℕ → ℕ
later g j = word_at 10 g.key g.stream ((g.word_pos + j) % 2 ^ 68)

-- m blocks from block n on
unfoldable pub blocks_at : List ℕ → List ℕ → ℕ → ℕ → List ℕ
blocks_at key iv n zero = []
blocks_at key iv n (suc m) = block_at key iv n ++ blocks_at key iv (n + 1) m

-- the bytes of the next k words, and the generator after them
next_words : (g : ChaCha) (k : ℕ) → g.word_pos < 2 ^ 68
    → word_bytes (to_le_bytes w32) (next_word 10) k g
    ≡ (flat_map (to_le_bytes w32) (map (later g) (range_with_len 0 k)), record g { word_pos = (g.word_pos + k) % 2 ^ 68 })
unfolding word_bytes
next_words g zero h =
    let same : g.word_pos ≡ (g.word_pos + 0) % 2 ^ 68 = omega arith in
    λ i. ([], record g { word_pos = same i })
next_words g (suc k) h =
    let more : flat_map (to_le_bytes w32) (map (later g) (range_with_len 0 k)) ++ to_le_bytes w32 (later g k)
    ≡ flat_map (to_le_bytes w32) (map (later g) (range_with_len 0 (suc k))) =
    flat_map_more (to_le_bytes w32) [] (map (later g) (range_with_len 0 k)) (later g k)
    ∙ ap (flat_map (to_le_bytes w32)) (sym (map-range_with_len_more (later g) 0 k k (omega arith)) ∙ ap (λ (n : ℕ). map (later g) (range_with_len 0 n)) (add-one k)) in
    let next : ((g.word_pos + k) % 2 ^ 68 + 1) % 2 ^ 68 ≡ (g.word_pos + suc k) % 2 ^ 68 = omega arith in
    let grow : List ℕ × ChaCha → List ℕ × ChaCha = λ b. (b.0 ++ to_le_bytes w32 (next_word 10 b.1).0, (next_word 10 b.1).1) in
    ap grow (next_words g k h) ∙ (λ i. (more i, record g { word_pos = next i }))

-- a block has 64 bytes
pub length-block_at : (key iv : List ℕ) (n : ℕ) → length (block_at key iv n) ≡ 64
unfolding block_at
length-block_at key iv n =
    let bs = block_words (words key 0 8) (counter_of iv + n) (words iv 1 3) in
    let all : bs ≡ map (slice_index bs) (range_with_len 0 16) =
    fill_by_all (slice_index bs) bs 16 0 (length-block_words (words key 0 8) (counter_of iv + n) (words iv 1 3) refl) (λ k hk. refl) in
    ap (λ (x : List ℕ). length (flat_map (to_le_bytes w32) x)) all

-- sixteen words of the generator at a block are that block, and it is then at the next one
drawn_block : (key iv : List ℕ) (n : ℕ) → n < blocks_of iv → GivesKeyStream key iv (generator_at key iv 0)
    → word_bytes (to_le_bytes w32) (next_word 10) 16 (generator_at key iv n) ≡ (block_at key iv n, generator_at key iv (n + 1))
unfolding block_at
drawn_block key iv n hn law =
    let s = generator_at key iv n in
    let bs = block_words (words key 0 8) (counter_of iv + n) (words iv 1 3) in
    let all : bs ≡ map (later s) (range_with_len 0 16) =
    fill_by_all (later s) bs 16 0 (length-block_words (words key 0 8) (counter_of iv + n) (words iv 1 3) refl)
    (λ k hk. let place : (generator_at key iv 0).word_pos + 16 * n + k ≡ (s.word_pos + k) % 2 ^ 68 = omega (arith, (law n k hn hk).0) in
    (law n k hn hk).1 ∙ ap (λ (p : ℕ). word_at 10 s.key s.stream p) place) in
    let after : (s.word_pos + 16) % 2 ^ 68 ≡ 16 * (counter_of iv + (n + 1) + u32_at iv 1 * 2 ^ 32) % 2 ^ 68 = omega arith in
    next_words s 16 (omega arith) ∙ (λ i. (flat_map (to_le_bytes w32) (sym all i), record s { word_pos = after i }))

-- words in two parts
word_bytes-add : (k j : ℕ) (g : ChaCha)
    → word_bytes (to_le_bytes w32) (next_word 10) (k + j) g
    ≡ (
      (word_bytes (to_le_bytes w32) (next_word 10) k g).0 ++ (word_bytes (to_le_bytes w32) (next_word 10) j (word_bytes (to_le_bytes w32) (next_word 10) k g).1).0,
      (word_bytes (to_le_bytes w32) (next_word 10) j (word_bytes (to_le_bytes w32) (next_word 10) k g).1).1,
    )
unfolding word_bytes
word_bytes-add k zero g =
    let same : k + 0 ≡ k = omega arith in
    let first = word_bytes (to_le_bytes w32) (next_word 10) k g in
    ap (λ (n : ℕ). word_bytes (to_le_bytes w32) (next_word 10) n g) same ∙ (λ i. (sym (append-nil first.0) i, first.1))
word_bytes-add k (suc j) g =
    let next : k + suc j ≡ suc (k + j) = omega arith in
    let first = word_bytes (to_le_bytes w32) (next_word 10) k g in
    let second = word_bytes (to_le_bytes w32) (next_word 10) j first.1 in
    let grow : List ℕ × ChaCha → List ℕ × ChaCha = λ b. (b.0 ++ to_le_bytes w32 (next_word 10 b.1).0, (next_word 10 b.1).1) in
    ap (λ (n : ℕ). word_bytes (to_le_bytes w32) (next_word 10) n g) next
    ∙ ap grow (word_bytes-add k j g)
    ∙ (λ i. (append_assoc first.0 second.0 (to_le_bytes w32 (next_word 10 second.1).0) i, (next_word 10 second.1).1))

-- the words of m blocks are those blocks
drawn_blocks : (key iv : List ℕ) (m n : ℕ) → n + m ≤ blocks_of iv → GivesKeyStream key iv (generator_at key iv 0)
    → word_bytes (to_le_bytes w32) (next_word 10) (16 * m) (generator_at key iv n) ≡ (blocks_at key iv n m, generator_at key iv (n + m))
unfolding word_bytes blocks_at
drawn_blocks key iv zero n h law = let same : n ≡ n + 0 = omega arith in λ i. ([], generator_at key iv (same i))
drawn_blocks key iv (suc m) n h law =
    let more : 16 * suc m ≡ 16 + 16 * m = omega arith in
    let next : n + 1 + m ≡ n + suc m = omega arith in
    let rest : List ℕ × ChaCha → List ℕ × ChaCha =
    λ b. (b.0 ++ (word_bytes (to_le_bytes w32) (next_word 10) (16 * m) b.1).0, (word_bytes (to_le_bytes w32) (next_word 10) (16 * m) b.1).1) in
    ap (λ (k : ℕ). word_bytes (to_le_bytes w32) (next_word 10) k (generator_at key iv n)) more
    ∙ word_bytes-add 16 (16 * m) (generator_at key iv n)
    ∙ ap rest (drawn_block key iv n (omega arith) law)
    ∙ ap (λ (b : List ℕ × ChaCha). (block_at key iv n ++ b.0, b.1)) (drawn_blocks key iv m (n + 1) (omega arith) law)
    ∙ (λ i. (block_at key iv n ++ blocks_at key iv (n + 1) m, generator_at key iv (next i)))

-- m blocks have 64 bytes each
pub length-blocks_at : (key iv : List ℕ) (n m : ℕ) → length (blocks_at key iv n m) ≡ 64 * m
unfolding blocks_at
length-blocks_at key iv n zero = refl
length-blocks_at key iv n (suc m) =
    omega (arith, length-append (block_at key iv n) (blocks_at key iv (n + 1) m), length-block_at key iv n, length-blocks_at key iv (n + 1) m)

-- the generator at a block gives m blocks, and is then behind them
pub drawn : (key iv bytes : List ℕ) (g h : ChaCha) (n m size : ℕ) → size ≡ 64 * m → n + m ≤ blocks_of iv → GivesKeyStream key iv (generator_at key iv 0)
    → g ≡ generator_at key iv n → (bytes, h) ≡ fill_via_u32 (next_word 10) size g
    → (bytes ≡ blocks_at key iv n m) × (h ≡ generator_at key iv (n + m))
drawn key iv bytes g h n m size is hn law at filled =
    let count : (size + 3) / 4 ≡ 16 * m = omega arith in
    let steps = filled ∙ ap (λ (x : ChaCha). fill_via_u32 (next_word 10) size x) at
    ∙ ap (λ (k : ℕ). first_bytes size (word_bytes (to_le_bytes w32) (next_word 10) k (generator_at key iv n))) count
    ∙ ap (λ (p : List ℕ × ChaCha). (take size p.0, p.1)) (drawn_blocks key iv m n hn law) in (
      ap (λ (p : List ℕ × ChaCha). p.0) steps ∙ take_all size (blocks_at key iv n m) (omega (arith, is, length-blocks_at key iv n m)),
      ap (λ (p : List ℕ × ChaCha). p.1) steps,
    )

-- one block drawn is that block
pub one_block : (key iv : List ℕ) (n : ℕ) → blocks_at key iv n 1 ≡ block_at key iv n
unfolding blocks_at
one_block key iv n = append-nil (block_at key iv n)

-- what stays in step where some bytes of the current block are used
pub in_step_after : (key iv held : List ℕ) (used count : ℕ) (g : ChaCha) → GivesKeyStream key iv (generator_at key iv 0)
    → held ≡ block_at key iv (used / 64) → g ≡ generator_at key iv (used / 64 + 1)
    → 0 < count → count ≤ 64 - used % 64 → used + count ≤ stream_len iv → IsInStep key iv held (used + count) g
in_step_after key iv held used count g law now next some room fits =
    let drawn : (used + count + 63) / 64 ≡ used / 64 + 1 = omega arith in record {
      within = fits;
      words_are = law;
      place = next ∙ ap (generator_at key iv) (sym drawn);
      current = λ part. let same : used / 64 ≡ (used + count) / 64 = omega arith in now ∙ ap (block_at key iv) same;
    }

-- what stays in step where m blocks were drawn at a block, and all of them are used, or a part of one
pub in_step_drawn : (key iv held bytes : List ℕ) (used count m : ℕ) (g : ChaCha) → GivesKeyStream key iv (generator_at key iv 0)
    → used % 64 ≡ 0 → bytes ≡ blocks_at key iv (used / 64) m → g ≡ generator_at key iv (used / 64 + m)
    → held ≡ drop (64 * m - 64) bytes → 0 < count → count ≤ 64 * m → (1 < m → count ≡ 64 * m)
    → used + count ≤ stream_len iv → IsInStep key iv held (used + count) g
in_step_drawn key iv held bytes used count m g law at are next kept some room whole fits =
    let drawn : (used + count + 63) / 64 ≡ used / 64 + m = elim (cases_lt 1 m) [
      | inl more ↦ omega (arith, whole more, at)
      | inr less ↦ omega arith
    ] in record {
      within = fits;
      words_are = law;
      place = next ∙ ap (generator_at key iv) (sym drawn);
      current = λ part. elim (cases_lt 1 m) [
        | inl more ↦ absurd (omega (arith, whole more, part, at))
        | inr less ↦
            let one : m ≡ 1 = omega arith in
            let same : used / 64 ≡ (used + count) / 64 = omega (arith, part, at) in
            kept ∙ ap (λ (k : ℕ). drop (64 * k - 64) bytes) one ∙ are ∙ ap (blocks_at key iv (used / 64)) one
            ∙ one_block key iv (used / 64) ∙ ap (block_at key iv) same
      ];
    }
