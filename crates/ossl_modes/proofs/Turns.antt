-- A loop over the blocks of a text: at its start, a turn of it, and what it makes in each mode.
use Rattle.std.proofs.Common.{◌≡◌, ℕ, zero, suc, ◌+◌, ◌*◌, List, [], ◌++◌, take, drop, Bool, refl, sym, ap, ◌∙◌, arith, append_assoc}
use Rattle.std.proofs.lemmas.List.{append-nil, drop-drop}
use Rattle.ossl_modes.specs.declared.kinds.ModeKind.{ModeKind}
use Rattle.ossl_modes.specs.Modes.{block_out, block_next, blocks, value_after}
use Rattle.ossl_modes.specs.Steps.{stepped, value_by}

module _ (out next : List ℕ → List ℕ → List ℕ) where
  next_place : (n : ℕ) (bs : List ℕ) → drop (16 * n) (drop 16 bs) ≡ drop (16 * suc n) bs
  next_place n bs = drop-drop (16 * n) 16 bs ∙ ap (λ (k : ℕ). drop k bs) (omega arith)

  -- the block after n blocks
  stepped_then : (n : ℕ) (v bs : List ℕ)
      → stepped out next (suc n) v bs ≡ stepped out next n v bs ++ out (value_by out next n v bs) (take 16 (drop (16 * n) bs))
  unfolding stepped value_by
  stepped_then zero v bs = append-nil (out v (take 16 bs))
  stepped_then (suc n) v bs =
      let w : List ℕ = next v (take 16 bs) in
      ap (λ (x : List ℕ). out v (take 16 bs) ++ x) (stepped_then n w (drop 16 bs))
      ∙ sym (append_assoc (out v (take 16 bs)) (stepped out next n w (drop 16 bs)) _)
      ∙ (λ i. (out v (take 16 bs) ++ stepped out next n w (drop 16 bs)) ++ out (value_by out next n w (drop 16 bs)) (take 16 (next_place n bs i)))

  -- what stands for the IV after it
  value_then : (n : ℕ) (v bs : List ℕ) → value_by out next (suc n) v bs ≡ next (value_by out next n v bs) (take 16 (drop (16 * n) bs))
  unfolding value_by
  value_then zero v bs = refl
  value_then (suc n) v bs =
      let w : List ℕ = next v (take 16 bs) in
      value_then n w (drop 16 bs) ∙ (λ i. next (value_by out next n w (drop 16 bs)) (take 16 (next_place n bs i)))

  pub stepped_none : (v bs : List ℕ) → [] ≡ stepped out next 0 v bs
  unfolding stepped
  stepped_none v bs = refl

  pub value_none : (v bs : List ℕ) → v ≡ value_by out next 0 v bs
  unfolding value_by
  value_none v bs = refl

  pub stepped_more : (i : ℕ) (v bs now new t w b : List ℕ) → now ≡ stepped out next i v bs → w ≡ value_by out next i v bs
      → b ≡ take 16 (drop (16 * i) bs) → t ≡ out w b → new ≡ now ++ t → new ≡ stepped out next (i + 1) v bs
  stepped_more i v bs now new t w b enow ew eb et enew =
      let more : suc i ≡ i + 1 = omega arith in
      enew ∙ (λ j. enow j ++ (et ∙ (λ k. out (ew k) (eb k))) j) ∙ sym (stepped_then i v bs) ∙ ap (λ (k : ℕ). stepped out next k v bs) more

  pub value_more : (i : ℕ) (v bs w b after : List ℕ) → w ≡ value_by out next i v bs → b ≡ take 16 (drop (16 * i) bs)
      → after ≡ next w b → after ≡ value_by out next (i + 1) v bs
  value_more i v bs w b after ew eb en =
      let more : suc i ≡ i + 1 = omega arith in
      en ∙ (λ j. next (ew j) (eb j)) ∙ sym (value_then i v bs) ∙ ap (λ (k : ℕ). value_by out next k v bs) more

-- the modes are their steps
module _ (e d : List ℕ → List ℕ) (kind : ModeKind) (decrypt : Bool) where
  pub blocks_stepped : (n : ℕ) (v bs : List ℕ) → stepped (block_out e d kind decrypt) (block_next e kind decrypt) n v bs ≡ blocks e d kind decrypt n v bs
  unfolding stepped blocks
  blocks_stepped zero v bs = refl
  blocks_stepped (suc n) v bs =
      ap (λ (x : List ℕ). block_out e d kind decrypt v (take 16 bs) ++ x) (blocks_stepped n (block_next e kind decrypt v (take 16 bs)) (drop 16 bs))

  pub value_stepped : (n : ℕ) (v bs : List ℕ) → value_by (block_out e d kind decrypt) (block_next e kind decrypt) n v bs ≡ value_after e d kind decrypt n v bs
  unfolding value_by value_after
  value_stepped zero v bs = refl
  value_stepped (suc n) v bs = value_stepped n (block_next e kind decrypt v (take 16 bs)) (drop 16 bs)
