-- A text that is counted through goes on from block to block.
use Rattle.std.proofs.Common.{◌≡◌, ℕ, zero, suc, ◌+◌, ◌-◌, ◌*◌, ◌/◌, ◌<◌, ◌≤◌, List, [], ◌∷◌, ◌++◌, length, take, drop, bit_xor, refl, sym, ap, ◌∙◌, arith, length-append, append_assoc}
use Rattle.std.proofs.lemmas.List.{take_at, drop_at, take_all, drop_all, append-nil, length-take-le, length-drop, take-append-drop, take_rest}
use Rattle.std.proofs.lemmas.Slice.{take-put_mid}
use borrow.Rule.Slice.PartMut.{put_mid}
use Rattle.ossl_aes.specs.Cipher.{add}
use Rattle.ossl_aes.proofs.Lists.{cut_at, no_elements}
use Rattle.ossl_blocks.specs.Cut.{IsCut}
use Rattle.ossl_modes.specs.Steps.{stepped, value_by}
use Rattle.ossl_gcm.specs.Gcm.{next_counter, blocks_from, counter_after, counted}

take-add : (n : ℕ) (a b : List ℕ) → take n (add a b) ≡ add (take n a) b
unfolding add
take-add zero a b = refl
take-add (suc n) [] b = refl
take-add (suc n) (x ∷ a) [] = refl
take-add (suc n) (x ∷ a) (y ∷ b) = ap (λ (t : List ℕ). bit_xor x y ∷ t) (take-add n a b)

-- the rest of a text, by a block that begins with it
pub rest_through : (rest ys zeros mask text new : List ℕ) → ys ≡ rest → text ≡ add (put_mid 0 (length rest) zeros ys) mask
    → new ≡ take (length rest) text → new ≡ add rest mask
rest_through rest ys zeros mask text new ey et en =
    let n : ℕ = length rest in
    en ∙ ap (take n) et ∙ take-add n (put_mid 0 n zeros ys) mask
    ∙ ap (λ (t : List ℕ). add t mask) (take-put_mid 0 n zeros ys n (sym (ap length ey) ∙ omega arith) (omega arith) ∙ ey)

module _ (e : List ℕ → List ℕ) where
  counted_more : (v b r : List ℕ) → length b ≡ 16 → counted e v (b ++ r) ≡ add b (e v) ++ counted e (next_counter v) r
  unfolding stepped
  counted_more v b r h =
      let n : (length (b ++ r) + 15) / 16 ≡ suc ((length r + 15) / 16) = omega (arith, length-append b r) in
      let t : take 16 (b ++ r) ≡ b = take_at b r 16 h in
      let l : drop 16 (b ++ r) ≡ r = drop_at b r 16 h in
      ap (λ (k : ℕ). blocks_from e k v (b ++ r)) n
      ∙ (λ i. add (t i) (e v) ++ blocks_from e ((length r + 15) / 16) (next_counter v) (l i))

  -- n whole blocks in front of a text
  pub counted_after : (n : ℕ) (v bs r : List ℕ) → length bs ≡ 16 * n → counted e v (bs ++ r) ≡ blocks_from e n v bs ++ counted e (counter_after e n v bs) r
  unfolding stepped value_by
  counted_after zero v bs r h =
      let none : bs ≡ [] = no_elements bs (omega arith) in
      ap (λ (x : List ℕ). counted e v (x ++ r)) none
  counted_after (suc n) v bs r h =
      let b : List ℕ = take 16 bs in
      let t : List ℕ = drop 16 bs in
      let lb : length b ≡ 16 = length-take-le 16 bs (omega arith) in
      let lt : length t ≡ 16 * n = length-drop 16 bs ∙ omega arith in
      ap (counted e v) (cut_at 16 bs r) ∙ counted_more v b (t ++ r) lb
      ∙ ap (λ (x : List ℕ). add b (e v) ++ x) (counted_after n (next_counter v) t r lt)
      ∙ sym (append_assoc (add b (e v)) (blocks_from e n (next_counter v) t) _)

  -- a text that is cut: what is counted of it, and what is left
  pub counted_fed : (v text bytes done held held_old r : List ℕ) → text ≡ held_old ++ bytes → IsCut 16 0 text done held
      → counted e v (held_old ++ (bytes ++ r)) ≡ blocks_from e (length done / 16) v done ++ counted e (counter_after e (length done / 16) v done) (held ++ r)
  counted_fed v text bytes done held held_old r et cut =
      let whole : length done ≡ 16 * (length done / 16) = omega (arith, cut.len) in
      ap (counted e v) (sym (append_assoc held_old bytes r) ∙ ap (λ (x : List ℕ). x ++ r) (sym et ∙ cut.joined) ∙ append_assoc done held r)
      ∙ counted_after (length done / 16) v done (held ++ r) whole

  counted_none : (v : List ℕ) → counted e v [] ≡ []
  unfolding stepped
  counted_none v = refl

  counted_short : (v r : List ℕ) → 0 < length r → length r < 16 → counted e v r ≡ add r (e v)
  unfolding stepped
  counted_short v r some short =
      let n : (length r + 15) / 16 ≡ 1 = omega arith in
      let all : take 16 r ≡ r = take_all 16 r (omega arith) in
      ap (λ (k : ℕ). blocks_from e k v r) n ∙ ap (λ (t : List ℕ). add t (e v) ++ []) all ∙ append-nil (add r (e v))

  -- a whole text, by its whole blocks and the rest
  pub through_whole : (v text front : List ℕ) (k : ℕ) → k ≡ length text / 16 * 16 → length text ≤ k
      → front ≡ blocks_from e (length (take k text) / 16) v (take k text) → front ++ drop k text ≡ counted e v text
  through_whole v text front k ek all ef =
      let len : length (take k text) ≡ k = length-take-le k text (omega arith) in
      let none : drop k text ≡ [] = drop_all k text all in
      (λ i. ef i ++ none i) ∙ ap (λ (x : List ℕ). blocks_from e (length (take k text) / 16) v (take k text) ++ x) (sym (counted_none _))
      ∙ sym (counted_after (length (take k text) / 16) v (take k text) [] (omega arith))
      ∙ ap (counted e v) (append-nil (take k text) ∙ take_all k text all)

  pub through_parts : (v text front value rest new : List ℕ) (k : ℕ) → k ≡ length text / 16 * 16 → k < length text
      → length front ≡ k → front ≡ blocks_from e (length (take k text) / 16) v (take k text) → value ≡ counter_after e (length (take k text) / 16) v (take k text)
      → rest ≡ take (length (front ++ drop k text) - k) (drop k (front ++ drop k text)) → new ≡ add rest (e value)
      → put_mid k (length (front ++ drop k text) - k) (front ++ drop k text) new ≡ counted e v text
  through_parts v text front value rest new k ek some lf ef ev er en =
      let now : List ℕ = front ++ drop k text in
      let len : length (take k text) ≡ k = length-take-le k text (omega arith) in
      let head : take k now ≡ front = take_at front (drop k text) k lf in
      let tail : drop k now ≡ drop k text = drop_at front (drop k text) k lf in
      let past : drop (length now - k) (drop k now) ≡ [] = drop_all (length now - k) (drop k now) (omega (arith, length-drop k now)) in
      let left : rest ≡ drop k text = er ∙ take_rest now k ∙ tail in
      let short : length (drop k text) < 16 = omega (arith, length-drop k text) in
      let more : 0 < length (drop k text) = omega (arith, length-drop k text) in
      (λ i. head i ++ (new ++ past i)) ∙ ap (λ (x : List ℕ). front ++ x) (append-nil new)
      ∙ (λ i. ef i ++ (en ∙ (λ j. add (left j) (e (ev j))) ∙ sym (counted_short _ (drop k text) more short)) i)
      ∙ sym (counted_after (length (take k text) / 16) v (take k text) (drop k text) (omega arith))
      ∙ ap (counted e v) (take-append-drop k text)
