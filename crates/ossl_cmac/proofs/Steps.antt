-- A message goes on from block to block: the laws by which it may be cut anywhere.
use Rattle.std.proofs.Common.{◌≡◌, ℕ, zero, suc, ◌+◌, ◌-◌, ◌*◌, ◌/◌, ◌<◌, ◌≤◌, List, [], ◌∷◌, ◌++◌, length, take, drop, refl, sym, ap, ◌∙◌, arith, length-append, append_assoc, replicate, nat_eq, false, inl, inr}
use Rattle.std.proofs.lemmas.Bool.{cases_lt}
use Rattle.std.proofs.lemmas.Bool.Decides.{nat_tests}
use Rattle.std.proofs.lemmas.List.{take_at, drop_at, take_all, take-append-le, drop-append-le, append-nil, length-take-le, length-drop, drop-drop}
use Rattle.ossl_aes.specs.Cipher.{add}
use Rattle.ossl_aes.proofs.Lists.{cut_at, no_elements}
use Rattle.ossl_blocks.specs.Cut.{IsCut}
use Rattle.ossl_cmac.specs.Cmac.{chained, mac_from, last_block, subkey_1, subkey_2}

module _ (e : List ℕ → List ℕ) where
  -- a whole block in front of a message that is not empty
  pub mac_more : (v b r : List ℕ) → length b ≡ 16 → 0 < length r → mac_from e v (b ++ r) ≡ mac_from e (e (add b v)) r
  unfolding chained mac_from
  mac_more v b r h some =
      let k : ℕ = (length r - 1) / 16 in
      let n : (length (b ++ r) - 1) / 16 ≡ suc k = omega (arith, length-append b r) in
      let t : take 16 (b ++ r) ≡ b = take_at b r 16 h in
      let l : drop 16 (b ++ r) ≡ r = drop_at b r 16 h in
      let at : drop (16 * suc k) (b ++ r) ≡ drop (16 * k) r =
      ap (λ (j : ℕ). drop j (b ++ r)) (omega arith) ∙ sym (drop-drop (16 * k) 16 (b ++ r)) ∙ ap (drop (16 * k)) l in
      (λ i. e (add (last_block e (drop (16 * n i) (b ++ r))) (chained e (n i) v (b ++ r))))
      ∙ (λ i. e (add (last_block e (at i)) (chained e k (e (add (t i) v)) (l i))))

  -- n whole blocks in front of a message that is not empty
  pub mac_after : (n : ℕ) (v bs r : List ℕ) → length bs ≡ 16 * n → 0 < length r → mac_from e v (bs ++ r) ≡ mac_from e (chained e n v bs) r
  unfolding chained
  mac_after zero v bs r h some = let none : bs ≡ [] = no_elements bs (omega arith) in ap (λ (x : List ℕ). mac_from e v (x ++ r)) none
  mac_after (suc n) v bs r h some =
      let b : List ℕ = take 16 bs in
      let t : List ℕ = drop 16 bs in
      let lb : length b ≡ 16 = length-take-le 16 bs (omega arith) in
      let lt : length t ≡ 16 * n = length-drop 16 bs ∙ omega arith in
      ap (mac_from e v) (cut_at 16 bs r) ∙ mac_more v b (t ++ r) lb (omega (arith, length-append t r)) ∙ mac_after n (e (add b v)) t r lt some

  -- a loop over the blocks: at its start, and a turn of it
  pub chained_none : (v bs : List ℕ) → v ≡ chained e 0 v bs
  unfolding chained
  chained_none v bs = refl

  chained_then : (n : ℕ) (v bs : List ℕ) → chained e (suc n) v bs ≡ e (add (take 16 (drop (16 * n) bs)) (chained e n v bs))
  unfolding chained
  chained_then zero v bs = refl
  chained_then (suc n) v bs =
      let w : List ℕ = e (add (take 16 bs) v) in
      let at : drop (16 * n) (drop 16 bs) ≡ drop (16 * suc n) bs = drop-drop (16 * n) 16 bs ∙ ap (λ (k : ℕ). drop k bs) (omega arith) in
      chained_then n w (drop 16 bs) ∙ (λ i. e (add (take 16 (at i)) (chained e n w (drop 16 bs))))

  pub chained_more : (i : ℕ) (v bs w b x next : List ℕ) → w ≡ chained e i v bs → b ≡ take 16 (drop (16 * i) bs) → x ≡ add b w → next ≡ e x
      → next ≡ chained e (i + 1) v bs
  chained_more i v bs w b x next ew eb ex en =
      let more : suc i ≡ i + 1 = omega arith in
      en ∙ ap e (ex ∙ (λ j. add (eb j) (ew j))) ∙ sym (chained_then i v bs) ∙ ap (λ (k : ℕ). chained e k v bs) more

  -- a message that is cut: what is chained of it, and what is left
  pub chained_fed : (v text bytes done held held_old r : List ℕ) → text ≡ held_old ++ bytes → IsCut 16 1 text done held
      → mac_from e v (held_old ++ (bytes ++ r)) ≡ mac_from e (chained e (length done / 16) v done) (held ++ r)
  unfolding chained
  chained_fed v text bytes done held held_old r et cut =
      let all = ap length cut.joined ∙ length-append done held in
      let whole : length done ≡ 16 * (length done / 16) = omega (arith, cut.len) in
      ap (mac_from e v) (sym (append_assoc held_old bytes r) ∙ ap (λ (x : List ℕ). x ++ r) (sym et ∙ cut.joined) ∙ append_assoc done held r)
      ∙ elim (cases_lt 0 (length held)) [
        | inl some ↦ mac_after (length done / 16) v done (held ++ r) whole (omega (arith, some, length-append held r))
        | inr none ↦
            let nothing : done ≡ [] = no_elements done (omega (arith, cut.len, all)) in
            ap (λ (x : List ℕ). mac_from e v (x ++ (held ++ r))) nothing
            ∙ sym (λ i. mac_from e (chained e (length (nothing i) / 16) v (nothing i)) (held ++ r))
      ]

  -- two runs of blocks are one
  pub chained_twice : (n m k : ℕ) (v xs bs : List ℕ) → length xs ≡ 16 * n → k ≡ n + m → chained e m (chained e n v xs) bs ≡ chained e k v (xs ++ bs)
  unfolding chained
  chained_twice zero m k v xs bs len ek =
      let none : xs ≡ [] = no_elements xs (omega arith) in
      let same : m ≡ k = omega arith in
      λ i. chained e (same i) v (sym none i ++ bs)
  chained_twice (suc n) m zero v xs bs len ek = absurd (omega arith)
  chained_twice (suc n) m (suc k) v xs bs len ek =
      let first : take 16 (xs ++ bs) ≡ take 16 xs = take-append-le 16 xs bs (omega arith) in
      let rest : drop 16 (xs ++ bs) ≡ drop 16 xs ++ bs = drop-append-le 16 xs bs (omega arith) in
      chained_twice n m k (e (add (take 16 xs) v)) (drop 16 xs) bs (length-drop 16 xs ∙ omega arith) (omega arith)
      ∙ sym (λ i. chained e k (e (add (first i) v)) (rest i))

  mac_last : (v b : List ℕ) → length b ≤ 16 → mac_from e v b ≡ e (add (last_block e b) v)
  unfolding chained mac_from
  mac_last v b h =
      let n : (length b - 1) / 16 ≡ 0 = omega arith in
      λ i. e (add (last_block e (drop (16 * n i) b)) (chained e (n i) v b))

  -- the end, where a whole block is held
  pub ends_whole : (v held b k x y t : List ℕ) → length held ≡ 16 → b ≡ held
      → k ≡ subkey_1 e → x ≡ add b k → y ≡ add x v → t ≡ e y → t ≡ mac_from e v (held ++ [])
  ends_whole v held b k x y t len eb ek ex ey et =
      let full : last_block e held ≡ add held (subkey_1 e) = rw len refl in
      et ∙ ap e (ey ∙ ap (λ (z : List ℕ). add z v) (ex ∙ (λ i. add (eb i) (ek i)) ∙ sym full))
      ∙ sym (ap (mac_from e v) (append-nil held) ∙ mac_last v held (omega arith))

  -- the end, where a short block is held or none
  pub ends_short : (v held b k x y t : List ℕ) → length held < 16
      → b ≡ held ++ 0x80 ∷ replicate (15 - length held) 0 → k ≡ subkey_2 e → x ≡ add b k → y ≡ add x v → t ≡ e y → t ≡ mac_from e v (held ++ [])
  ends_short v held b k x y t fits eb ek ex ey et =
      let z : nat_eq (length held) 16 ≡ false = grind (arith, nat_tests) in
      let short : last_block e held ≡ add b (subkey_2 e) = rw (z, eb) refl in
      et ∙ ap e (ey ∙ ap (λ (z : List ℕ). add z v) (ex ∙ ap (add b) ek ∙ sym short))
      ∙ sym (ap (mac_from e v) (append-nil held) ∙ mac_last v held (omega arith))
