-- CBC with padding brings a text back, block by block.
use Rattle.std.proofs.Common.{◌≡◌, ℕ, zero, suc, ◌+◌, ◌-◌, ◌*◌, ◌/◌, ◌%◌, ◌<◌, ◌≤◌, true, false, cond, nat_eq, nat_le, List, [], ◌∷◌, ◌++◌, length, take, drop, replicate, slice_index, Result, Ok, Err, refl, sym, ap, ◌∙◌, arith, length-append}
use Rattle.std.specs.List.{All, list_all}
use Rattle.std.proofs.lemmas.List.{append-nil, drop-append-le, drop_at, get_or-drop, get_or-replicate, length-drop, length-replicate, length-take-le, take-append-drop, take-append-le, take_all, take_at}
use Rattle.std.proofs.lemmas.Bool.Decides.{nat_tests}
use Rattle.ossl_aes.specs.Cipher.{add}
use Rattle.ossl_aes.specs.Inverse.{IsBlock, IsUndoneBy}
use Rattle.ossl_aes.proofs.Undoing.{AreBytes, IsByte, Block, add_twice, added_block, bytes-append, bytes_by_place, places_of_bytes}
use Rattle.ossl_modes.specs.declared.kinds.ModeKind.TheVariants.{Cbc}
use Rattle.ossl_modes.specs.declared.kinds.FinishRefused.{FinishRefused}
use Rattle.ossl_modes.specs.declared.kinds.FinishRefused.TheVariants.{WrongFinalBlock}
use Rattle.ossl_modes.specs.Modes.{blocks, before, checked, equations, padded, unpadded}
use Rattle.ossl_modes.specs.Return.{ComesBack}

-- ---- texts of bytes

bytes_front : (n : ℕ) (xs : List ℕ) → AreBytes xs → AreBytes (take n xs)
bytes_front zero xs h = tt
bytes_front (suc n) [] h = tt
bytes_front (suc n) (x ∷ xs) h = (h.0, bytes_front n xs h.1)

bytes_back : (n : ℕ) (xs : List ℕ) → AreBytes xs → AreBytes (drop n xs)
bytes_back zero xs h = h
bytes_back (suc n) [] h = tt
bytes_back (suc n) (x ∷ xs) h = bytes_back n xs h.1

bytes_of_one : (n b : ℕ) → b < 256 → AreBytes (replicate n b)
bytes_of_one zero b h = tt
bytes_of_one (suc n) b h = (h, bytes_of_one n b h)

-- ---- the padding of the last block

-- a text of n + 1 blocks without the padding of its last block
unpadded_after : ℕ → List ℕ → Result (List ℕ) FinishRefused
unpadded_after zero t = unpadded t
unpadded_after (suc n) t = before (take 16 t) (unpadded_after n (drop 16 t))

unpadded_is : (b : List ℕ) (n : ℕ) → slice_index b 15 ≡ n → 1 ≤ n → n ≤ 16 → list_all (λ x. nat_eq x n) (drop (16 - n) b) ≡ true
    → unpadded b ≡ Ok (take (16 - n) b)
unpadded_is b n last low high all =
    let l : nat_le 1 n ≡ true = grind (arith, nat_tests) in
    let h : nat_le n 16 ≡ true = grind (arith, nat_tests) in
    rw (last, l, h, all) refl

all_of_one : (m n : ℕ) → list_all (λ x. nat_eq x n) (replicate m n) ≡ true
all_of_one zero n = refl
all_of_one (suc m) n = let same : nat_eq n n ≡ true = grind (arith, nat_tests) in rw (same, all_of_one m n) refl

unpadded_block : (p : List ℕ) (k : ℕ) → length p + k ≡ 16 → 1 ≤ k → unpadded (p ++ replicate k k) ≡ Ok p
unpadded_block p k len low =
    let b : List ℕ = p ++ replicate k k in
    let at : length p ≡ 16 - k = omega arith in
    let rest : drop (16 - k) b ≡ replicate k k = drop_at p (replicate k k) (16 - k) at in
    let place : 16 - k + (k - 1) ≡ 15 = omega arith in
    let last : slice_index b 15 ≡ k =
    ap (slice_index b) (sym place) ∙ sym (get_or-drop (16 - k) b (k - 1) 0) ∙ ap (λ (xs : List ℕ). slice_index xs (k - 1)) rest
    ∙ get_or-replicate k (k - 1) k 0 (omega arith) in
    unpadded_is b k last low (omega arith) (ap (list_all (λ x. nat_eq x k)) rest ∙ all_of_one k k) ∙ ap Ok (take_at p (replicate k k) (16 - k) at)

unpadded_text : (n : ℕ) (p : List ℕ) (k : ℕ) → length p + k ≡ 16 * suc n → 1 ≤ k → k ≤ 16 → unpadded_after n (p ++ replicate k k) ≡ Ok p
unfolding unpadded_after
unpadded_text zero p k len low high = unpadded_block p k (omega arith) low
unpadded_text (suc n) p k len low high =
    let front : take 16 (p ++ replicate k k) ≡ take 16 p = take-append-le 16 p (replicate k k) (omega arith) in
    let rest : drop 16 (p ++ replicate k k) ≡ drop 16 p ++ replicate k k = drop-append-le 16 p (replicate k k) (omega arith) in
    (λ i. before (front i) (unpadded_after n (rest i)))
    ∙ ap (before (take 16 p)) (unpadded_text n (drop 16 p) k (omega (arith, length-drop 16 p)) low high)
    ∙ ap Ok (take-append-drop 16 p)

-- ---- the blocks

module _ (e d : List ℕ → List ℕ) (undone : IsUndoneBy e d) where
  -- a block of the text, encrypted
  sealed_block : (v b : List ℕ) → Block v → Block b → Block (e (add b v))
  sealed_block v b hv hb =
      let sum = added_block b v hb hv in
      let is = (undone (add b v) (sum.0, places_of_bytes (add b v) sum.1)).0 in
      (is.0, bytes_by_place (e (add b v)) is.1)

  -- and decrypted again
  block_back : (v b : List ℕ) → Block v → Block b → add (d (e (add b v))) v ≡ b
  block_back v b hv hb =
      let sum = added_block b v hb hv in
      ap (λ (t : List ℕ). add t v) (undone (add b v) (sum.0, places_of_bytes (add b v) sum.1)).1 ∙ add_twice b v (hb.0 ∙ sym hv.0)

  front_block : (n : ℕ) (t : List ℕ) → length t ≡ 16 * suc n → AreBytes t → Block (take 16 t)
  front_block n t len h = (length-take-le 16 t (omega arith), bytes_front 16 t h)

  pub length-sealed : (n : ℕ) (v t : List ℕ) → Block v → length t ≡ 16 * n → AreBytes t → length (blocks e d Cbc false n v t) ≡ 16 * n
  unfolding blocks
  length-sealed zero v t hv len ht = refl
  length-sealed (suc n) v t hv len ht =
      let b = front_block n t len ht in
      let c : List ℕ = e (add (take 16 t) v) in
      let hc = sealed_block v (take 16 t) hv b in
      omega (
        arith,
        length-append c (blocks e d Cbc false n c (drop 16 t)),
        hc.0,
        length-sealed n c (drop 16 t) hc (length-drop 16 t ∙ omega arith) (bytes_back 16 t ht),
      )

  -- the blocks decrypted, and the last without its padding
  blocks_back : (n : ℕ) (v t : List ℕ) → Block v → length t ≡ 16 * suc n → AreBytes t
      → checked e d Cbc true (suc n) v (blocks e d Cbc false (suc n) v t) ≡ unpadded_after n t
  unfolding blocks checked unpadded_after
  blocks_back zero v t hv len ht =
      let whole : take 16 t ≡ t = take_all 16 t (omega arith) in
      ap (λ (c : List ℕ). unpadded (add (d c) v)) (append-nil (e (add (take 16 t) v)))
      ∙ ap unpadded (block_back v (take 16 t) hv (front_block 0 t len ht))
      ∙ ap unpadded whole
  blocks_back (suc n) v t hv len ht =
      let b = front_block (suc n) t len ht in
      let c : List ℕ = e (add (take 16 t) v) in
      let hc = sealed_block v (take 16 t) hv b in
      let rest : List ℕ = blocks e d Cbc false (suc n) c (drop 16 t) in
      let front : take 16 (c ++ rest) ≡ c = take_at c rest 16 hc.0 in
      let back : drop 16 (c ++ rest) ≡ rest = drop_at c rest 16 hc.0 in
      (λ i. before (add (d (front i)) v) (checked e d Cbc true (suc n) (front i) (back i)))
      ∙ (λ i. before (block_back v (take 16 t) hv b i) (checked e d Cbc true (suc n) c rest))
      ∙ ap (before (take 16 t)) (blocks_back n c (drop 16 t) hc (length-drop 16 t ∙ omega arith) (bytes_back 16 t ht))

  -- CBC with padding brings a text back
  pub text_comes_back : (iv text : List ℕ) → IsBlock iv → All IsByte text → ComesBack e d iv text
  text_comes_back iv text hiv htext =
      let k : ℕ = 16 - length text % 16 in
      let n : ℕ = length text / 16 in
      let p : List ℕ = padded text in
      let v : Block iv = (hiv.0, bytes_by_place iv hiv.1) in
      let len : length p ≡ 16 * suc n = omega (arith, length-append text (replicate k k), length-replicate k k) in
      let bytes : AreBytes p = bytes-append text (replicate k k) (bytes_by_place text htext) (bytes_of_one k k (omega arith)) in
      let count : (length p + 15) / 16 ≡ suc n = omega (arith, len) in
      let c : List ℕ = equations e d Cbc false iv p in
      let blocks_are : c ≡ blocks e d Cbc false (suc n) iv p = ap (λ m. blocks e d Cbc false m iv p) count in
      let len_c : length c ≡ 16 * suc n = ap length blocks_are ∙ length-sealed (suc n) iv p v len bytes in
      let count_c : (length c + 15) / 16 ≡ suc n = omega (arith, len_c) in
      let whole : nat_eq (length c % 16) 0 ≡ true = grind (arith, nat_tests, len_c) in
      record {
        encrypted = c;
        is_encrypted = refl;
        comes_back = (λ i. cond (whole i) (checked e d Cbc true (count_c i) iv c) (Err (WrongFinalBlock (length c % 16))))
            ∙ ap (checked e d Cbc true (suc n) iv) blocks_are
            ∙ blocks_back n iv p v len bytes
            ∙ unpadded_text n text k (omega arith) (omega arith) (omega arith);
      }
