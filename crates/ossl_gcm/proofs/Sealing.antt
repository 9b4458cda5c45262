-- An encryption goes on from block to block, and ends.
use Rattle.std.proofs.Common.{◌≡◌, ℕ, ◌+◌, ◌-◌, ◌*◌, ◌/◌, ◌%◌, ◌^◌, ◌<◌, ◌≤◌, true, false, nat_lt, min, List, ◌++◌, length, Result, Ok, Err, refl, sym, ap, ◌∙◌, arith, length-append, append_assoc, inl, inr}
use Rattle.std.proofs.lemmas.Bool.{cases_lt}
use Rattle.std.proofs.lemmas.Bool.Decides.{nat_tests}
use Rattle.ossl_blocks.specs.Cut.{IsCut}
use Rattle.ossl_ghash.specs.Ghash.{hash_from}
use Rattle.ossl_gcm.specs.declared.kinds.GcmRefused.{GcmRefused}
use Rattle.ossl_gcm.specs.declared.kinds.GcmRefused.TheVariants.{StreamEnd}
use Rattle.ossl_gcm.specs.Gcm.{blocks_from, counter_after, counted, if_fits}
use Rattle.ossl_gcm.specs.Run.{before, tag_from}
use Rattle.ossl_gcm.proofs.Counting.{counted_fed}
use Rattle.ossl_gcm.proofs.Tags.{tag_more}

-- a test that saturation does not change
over_later : (n m k s : ℕ) → s ≡ min (n + m) (2 ^ 64 - 1) → 16 * (2 ^ 32 - 2) < n + (m + k) → 16 * (2 ^ 32 - 2) < s + k
over_later n m k s e over = omega arith

same_later : (n m k s : ℕ) → s ≡ min (n + m) (2 ^ 64 - 1) → n + (m + k) ≤ 16 * (2 ^ 32 - 2) → s + k ≡ n + (m + k)
same_later n m k s e fits = omega arith

-- a ciphertext of which a part c is given, after n bytes, and r is left: h, mask and a are the tag's, y the hash value
module _ (h : ℕ) (mask : List ℕ) (a : ℕ) where
  abbrev pub whole_text : ℕ → ℕ → List ℕ → Result (List ℕ) GcmRefused
  whole_text z n c = if_fits n (Ok (c ++ tag_from h mask a z n c))

  pub part_given : (y : ℕ) (old c r : List ℕ) (n s : ℕ) → length c % 16 ≡ 0 → s ≡ min (n + length c) (2 ^ 64 - 1)
      → before old (whole_text y (n + length (c ++ r)) (c ++ r)) ≡ before (old ++ c) (whole_text (hash_from h y c) (s + length r) r)
  part_given y old c r n s whole es =
      let all : n + length (c ++ r) ≡ n + (length c + length r) = ap (λ (k : ℕ). n + k) (length-append c r) in
      elim (cases_lt (16 * (2 ^ 32 - 2)) (n + (length c + length r))) [
        | inl over ↦
            let first : nat_lt (16 * (2 ^ 32 - 2)) (n + length (c ++ r)) ≡ true = grind (arith, nat_tests, all, over) in
            let later = over_later n (length c) (length r) s es over in
            let second : nat_lt (16 * (2 ^ 32 - 2)) (s + length r) ≡ true = grind (arith, nat_tests, later) in
            rw (first, second) refl
        | inr fits ↦
            let first : nat_lt (16 * (2 ^ 32 - 2)) (n + length (c ++ r)) ≡ false = grind (arith, nat_tests, all, fits) in
            let same = same_later n (length c) (length r) s es fits in
            let second : nat_lt (16 * (2 ^ 32 - 2)) (s + length r) ≡ false = grind (arith, nat_tests, same, fits) in
            let tags : tag_from h mask a y (n + length (c ++ r)) (c ++ r) ≡ tag_from h mask a (hash_from h y c) (s + length r) r =
            tag_more h mask a y (n + length (c ++ r)) c r whole ∙ ap (λ (k : ℕ). tag_from h mask a (hash_from h y c) k r) (all ∙ sym same) in
            let texts : old ++ ((c ++ r) ++ tag_from h mask a y (n + length (c ++ r)) (c ++ r)) ≡ (old ++ c) ++ (r ++ tag_from h mask a (hash_from h y c) (s + length r) r) =
            (λ i. old ++ ((c ++ r) ++ tags i)) ∙ ap (λ (x : List ℕ). old ++ x) (append_assoc c r _) ∙ sym (append_assoc old c _) in
            rw (first, second) (ap Ok texts)
      ]

-- a text that is cut: what is given of it, and what is left
module _ (e : List ℕ → List ℕ) (h : ℕ) (mask : List ℕ) (a y : ℕ) where
  pub sealed_fed : (n s count : ℕ) (v text bytes done held held_old r old new : List ℕ) → text ≡ held_old ++ bytes → IsCut 16 0 text done held
      → length (blocks_from e (length done / 16) v done) ≡ length done → new ≡ old ++ blocks_from e (length done / 16) v done
      → count ≡ length done → s ≡ min (n + count) (2 ^ 64 - 1)
      → before old (whole_text h mask a y (n + length (counted e v (held_old ++ (bytes ++ r)))) (counted e v (held_old ++ (bytes ++ r))))
      ≡ before new (whole_text h mask a (hash_from h y (blocks_from e (length done / 16) v done)) (s + length (counted e (counter_after e (length done / 16) v done) (held ++ r))) (counted e (counter_after e (length done / 16) v done) (held ++ r)))
  sealed_fed n s count v text bytes done held held_old r old new et cut same enew ec es =
      let c : List ℕ = blocks_from e (length done / 16) v done in
      let w : List ℕ = counter_after e (length done / 16) v done in
      let whole : length c % 16 ≡ 0 = omega (arith, same, cut.len) in
      let sum : s ≡ min (n + length c) (2 ^ 64 - 1) = es ∙ ap (λ (k : ℕ). min (n + k) (2 ^ 64 - 1)) (ec ∙ sym same) in
      ap (λ (x : List ℕ). before old (whole_text h mask a y (n + length x) x)) (counted_fed e v text bytes done held held_old r et cut)
      ∙ part_given h mask a y old c (counted e w (held ++ r)) n s whole sum
      ∙ ap (λ (x : List ℕ). before x (whole_text h mask a (hash_from h y c) (s + length (counted e w (held ++ r))) (counted e w (held ++ r)))) (sym enew)

  pub given_fed : (v text bytes done held held_old r old new : List ℕ) → text ≡ held_old ++ bytes → IsCut 16 0 text done held
      → new ≡ old ++ blocks_from e (length done / 16) v done
      → old ++ counted e v (held_old ++ (bytes ++ r)) ≡ new ++ counted e (counter_after e (length done / 16) v done) (held ++ r)
  given_fed v text bytes done held held_old r old new et cut enew =
      ap (λ (x : List ℕ). old ++ x) (counted_fed e v text bytes done held held_old r et cut)
      ∙ sym (append_assoc old (blocks_from e (length done / 16) v done) _)
      ∙ ap (λ (x : List ℕ). x ++ counted e (counter_after e (length done / 16) v done) (held ++ r)) (sym enew)

-- the end: c is the rest of the ciphertext x, of s bytes in all
module _ (h : ℕ) (mask : List ℕ) (a y n s : ℕ) (x c : List ℕ) (ec : c ≡ x) (es : s ≡ min (n + length c) (2 ^ 64 - 1)) where
  pub ends_over : 16 * (2 ^ 32 - 2) < s → whole_text h mask a y (n + length x) x ≡ Err (StreamEnd (2 ^ 32 - 2))
  ends_over over =
      let later : 16 * (2 ^ 32 - 2) < n + length x = omega (arith, ap length ec) in
      let test : nat_lt (16 * (2 ^ 32 - 2)) (n + length x) ≡ true = grind (arith, nat_tests, later) in
      rw test refl

  pub ends_well : (old t new : List ℕ) → s ≤ 16 * (2 ^ 32 - 2) → t ≡ tag_from h mask a y s c → new ≡ (old ++ c) ++ t
      → before old (whole_text h mask a y (n + length x) x) ≡ Ok new
  ends_well old t new fits et en =
      let same : s ≡ n + length x = omega (arith, ap length ec) in
      let test : nat_lt (16 * (2 ^ 32 - 2)) (n + length x) ≡ false = grind (arith, nat_tests, same, fits) in
      let texts : old ++ (x ++ tag_from h mask a y (n + length x) x) ≡ new =
      (λ i. old ++ (sym ec i ++ sym (et ∙ (λ j. tag_from h mask a y (same j) (ec j))) i)) ∙ sym (append_assoc old c t) ∙ sym en in
      rw test (ap Ok texts)
