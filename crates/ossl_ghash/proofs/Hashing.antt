-- GHASH goes on from block to block.
use Rattle.std.proofs.Common.{◌≡◌, ℕ, zero, suc, ◌+◌, ◌-◌, ◌*◌, ◌/◌, ◌%◌, ◌<◌, List, [], ◌++◌, length, take, drop, replicate, bit_xor, refl, sym, ap, ◌∙◌, arith, length-append, append_assoc}
use Rattle.std.proofs.lemmas.List.{take_all, take-append-le, drop-append-le, append-nil, length-drop, drop-drop, length-replicate, drop-replicate}
use borrow.Rule.Slice.PartMut.{put_mid}
use Rattle.std.specs.Int.{w128, from_be_bytes}
use Rattle.ossl_aes.proofs.Lists.{no_elements}
use Rattle.ossl_ghash.specs.Ghash.{product, hashed, hash_from, filled}

module _ (h : ℕ) where
  -- a loop over the blocks: at its start, and a turn of it
  pub hashed_none : (y : ℕ) (bs : List ℕ) → y ≡ hashed h 0 y bs
  unfolding hashed
  hashed_none y bs = refl

  hashed_then : (n y : ℕ) (bs : List ℕ) → hashed h (suc n) y bs ≡ product (bit_xor (hashed h n y bs) (from_be_bytes w128 (take 16 (drop (16 * n) bs)))) h
  unfolding hashed
  hashed_then zero y bs = refl
  hashed_then (suc n) y bs =
      let w : ℕ = product (bit_xor y (from_be_bytes w128 (take 16 bs))) h in
      let at : drop (16 * n) (drop 16 bs) ≡ drop (16 * suc n) bs = drop-drop (16 * n) 16 bs ∙ ap (λ (k : ℕ). drop k bs) (omega arith) in
      hashed_then n w (drop 16 bs) ∙ (λ i. product (bit_xor (hashed h n w (drop 16 bs)) (from_be_bytes w128 (take 16 (at i)))) h)

  pub hashed_more : (i y : ℕ) (bs : List ℕ) (w n : ℕ) (b : List ℕ) (next : ℕ) → w ≡ hashed h i y bs → b ≡ take 16 (drop (16 * i) bs)
      → n ≡ from_be_bytes w128 b → next ≡ product (bit_xor w n) h → next ≡ hashed h (i + 1) y bs
  hashed_more i y bs w n b next ew eb en enext =
      let more : suc i ≡ i + 1 = omega arith in
      enext ∙ (λ j. product (bit_xor (ew j) ((en ∙ ap (from_be_bytes w128) eb) j)) h) ∙ sym (hashed_then i y bs)
      ∙ ap (λ (k : ℕ). hashed h k y bs) more

  -- two runs of blocks are one
  hashed_twice : (n m y : ℕ) (xs bs : List ℕ) → length xs ≡ 16 * n → hashed h (n + m) y (xs ++ bs) ≡ hashed h m (hashed h n y xs) bs
  unfolding hashed
  hashed_twice zero m y xs bs len =
      let none : xs ≡ [] = no_elements xs (omega arith) in
      let same : 0 + m ≡ m = omega arith in
      λ i. hashed h (same i) y (none i ++ bs)
  hashed_twice (suc n) m y xs bs len =
      let first : take 16 (xs ++ bs) ≡ take 16 xs = take-append-le 16 xs bs (omega arith) in
      let rest : drop 16 (xs ++ bs) ≡ drop 16 xs ++ bs = drop-append-le 16 xs bs (omega arith) in
      let all : suc n + m ≡ suc (n + m) = omega arith in
      let w : List ℕ → ℕ = λ b. product (bit_xor y (from_be_bytes w128 b)) h in
      ap (λ (k : ℕ). hashed h k y (xs ++ bs)) all
      ∙ (λ i. hashed h (n + m) (w (first i)) (rest i))
      ∙ hashed_twice n m (w (take 16 xs)) (drop 16 xs) bs (length-drop 16 xs ∙ omega arith)

  pub hash_append : (y : ℕ) (xs bs : List ℕ) → length xs % 16 ≡ 0 → hash_from h y (xs ++ bs) ≡ hash_from h (hash_from h y xs) bs
  hash_append y xs bs whole =
      let n : length (xs ++ bs) / 16 ≡ length xs / 16 + length bs / 16 = omega (arith, length-append xs bs) in
      ap (λ (k : ℕ). hashed h k y (xs ++ bs)) n ∙ hashed_twice (length xs / 16) (length bs / 16) y xs bs (omega arith)

  -- one block
  pub hash_one : (y : ℕ) (b : List ℕ) → length b ≡ 16 → hash_from h y b ≡ product (bit_xor y (from_be_bytes w128 b)) h
  unfolding hashed
  hash_one y b len =
      let n : length b / 16 ≡ 1 = omega arith in
      let all : take 16 b ≡ b = take_all 16 b (omega arith) in
      ap (λ (k : ℕ). hashed h k y b) n ∙ (λ i. product (bit_xor y (from_be_bytes w128 (all i))) h)

-- a text of whole blocks is filled already
pub filled_whole : (bs : List ℕ) → length bs % 16 ≡ 0 → filled bs ≡ bs
filled_whole bs whole =
    let none : (16 - length bs % 16) % 16 ≡ 0 = omega arith in
    ap (λ (k : ℕ). bs ++ replicate k 0) none ∙ append-nil bs

-- whole blocks in front of a text
pub filled-append : (xs bs : List ℕ) → length xs % 16 ≡ 0 → filled (xs ++ bs) ≡ xs ++ filled bs
filled-append xs bs whole =
    let n : length (xs ++ bs) % 16 ≡ length bs % 16 = omega (arith, length-append xs bs) in
    ap (λ (k : ℕ). (xs ++ bs) ++ replicate ((16 - k) % 16) 0) n ∙ append_assoc xs bs _

-- a filled text has whole blocks
pub length-filled : (bs : List ℕ) → length (filled bs) % 16 ≡ 0
length-filled bs =
    let k : ℕ = (16 - length bs % 16) % 16 in
    omega (arith, length-append bs (replicate k 0), length-replicate {A = ℕ} k 0)

-- whole blocks of a text, and the rest of it
pub text_hashed : (h y : ℕ) (text blocks rest : List ℕ) → text ≡ blocks ++ rest → length blocks % 16 ≡ 0
    → hash_from h y (filled text) ≡ hash_from h (hash_from h y blocks) (filled rest)
text_hashed h y text blocks rest e whole =
    ap (λ (x : List ℕ). hash_from h y (filled x)) e ∙ ap (hash_from h y) (filled-append blocks rest whole) ∙ hash_append h y blocks (filled rest) whole

-- a short text in front of a block of zeros is filled
pub short_filled : (rest ys zeros : List ℕ) (k : ℕ) → k ≡ length rest → ys ≡ rest → zeros ≡ replicate 16 0 → 0 < length rest → length rest < 16
    → put_mid 0 k zeros ys ≡ filled rest
short_filled rest ys zeros k ek ey ez some short =
    let n : 16 - k ≡ (16 - length rest % 16) % 16 = omega arith in
    let zero : drop k zeros ≡ replicate (16 - k) 0 = ap (drop k) ez ∙ drop-replicate k 16 0 in
    (λ i. ey i ++ zero i) ∙ ap (λ (m : ℕ). rest ++ replicate m 0) n

-- a whole text, by its whole blocks and a block of the rest
pub text_ends : (h y : ℕ) (text blocks rest b : List ℕ) (w n z : ℕ) → text ≡ blocks ++ rest → length blocks % 16 ≡ 0 → w ≡ hash_from h y blocks
    → b ≡ filled rest → 0 < length rest → length rest < 16 → n ≡ from_be_bytes w128 b → z ≡ product (bit_xor w n) h
    → z ≡ hash_from h y (filled text)
text_ends h y text blocks rest b w n z e whole ew eb some short en ez =
    let k : ℕ = (16 - length rest % 16) % 16 in
    let fill : k ≡ 16 - length rest = omega arith in
    let len : length b ≡ 16 = omega (arith, ap length eb, length-append rest (replicate k 0), length-replicate {A = ℕ} k 0) in
    ez ∙ (λ i. product (bit_xor w (en i)) h) ∙ sym (hash_one h w b len) ∙ (λ i. hash_from h (ew i) (eb i)) ∙ sym (text_hashed h y text blocks rest e whole)

-- where there is no rest
pub text_ends_whole : (h y : ℕ) (text blocks rest : List ℕ) (w : ℕ) → text ≡ blocks ++ rest → length blocks % 16 ≡ 0 → w ≡ hash_from h y blocks
    → length rest ≡ 0 → w ≡ hash_from h y (filled text)
text_ends_whole h y text blocks rest w e whole ew none =
    let empty : rest ≡ [] = no_elements rest none in
    ew ∙ hashed_none h (hash_from h y blocks) [] ∙ ap (λ (r : List ℕ). hash_from h (hash_from h y blocks) (filled r)) (sym empty)
    ∙ sym (text_hashed h y text blocks rest e whole)
