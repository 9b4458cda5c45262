-- Laws of the modes: ECB has no use for an initial value, OFB and CTR none for the direction, and what ends with which
-- refusal.
use Rattle.std.proofs.Common.{mod-lt, ◌≡◌, ℕ, zero, suc, ◌+◌, ◌/◌, ◌%◌, ◌<◌, ◌++◌, List, length, take, drop, Bool, true}
use Rattle.std.proofs.Common.{false, nat_eq, Result, Ok, Err, IfErr, if◌then◌else◌, refl, ap, ap₂, ◌∙◌, arith}
use Rattle.ossl_modes.specs.declared.kinds.FinishRefused.{FinishRefused}
use Rattle.ossl_modes.specs.declared.kinds.FinishRefused.TheVariants.{WrongFinalBlock, BadDecrypt}
use Rattle.ossl_modes.specs.declared.kinds.ModeKind.{ModeKind}
use Rattle.ossl_modes.specs.declared.kinds.ModeKind.TheVariants.{Ecb, Cbc, Cfb, Ofb, Ctr}
use Rattle.ossl_modes.specs.Modes.{block_out, block_next, before, padded, blocks, checked, equations, outcome}

module _ (e d : List ℕ → List ℕ) where
  pub blocks-ecb : (decrypt : Bool) (n : ℕ) (v w bs : List ℕ)
      → blocks e d Ecb decrypt n v bs ≡ blocks e d Ecb decrypt n w bs
  unfolding blocks
  blocks-ecb decrypt zero v w bs = refl
  blocks-ecb false (suc n) v w bs = ap (λ rest. e (take 16 bs) ++ rest) (blocks-ecb false n v w (drop 16 bs))
  blocks-ecb true (suc n) v w bs = ap (λ rest. d (take 16 bs) ++ rest) (blocks-ecb true n v w (drop 16 bs))

  checked-ecb : (n : ℕ) (v w bs : List ℕ) → checked e d Ecb true n v bs ≡ checked e d Ecb true n w bs
  unfolding checked
  checked-ecb zero v w bs = refl
  checked-ecb (suc zero) v w bs = refl
  checked-ecb (suc (suc n)) v w bs = ap (before (d (take 16 bs))) (checked-ecb (suc n) v w (drop 16 bs))

  -- ECB has no use for an initial value
  pub outcome-ecb : (decrypt pad : Bool) (v w bs : List ℕ)
      → outcome e d Ecb decrypt pad v bs ≡ outcome e d Ecb decrypt pad w bs
  outcome-ecb true true v w bs =
      ap (λ text. if nat_eq (length bs % 16) 0 then text else Err (WrongFinalBlock (length bs % 16)))
      (checked-ecb ((length bs + 15) / 16) v w bs)
  outcome-ecb true false v w bs =
      ap (λ text. if nat_eq (length bs % 16) 0 then Ok text else Err (WrongFinalBlock (length bs % 16)))
      (blocks-ecb true ((length bs + 15) / 16) v w bs)
  outcome-ecb false true v w bs = ap Ok (blocks-ecb false ((length (padded bs) + 15) / 16) v w (padded bs))
  outcome-ecb false false v w bs =
      ap (λ text. if nat_eq (length bs % 16) 0 then Ok text else Err (WrongFinalBlock (length bs % 16)))
      (blocks-ecb false ((length bs + 15) / 16) v w bs)

  -- a mode whose blocks come out and go on alike in both directions does the same work in both
  pub blocks-undirected : (kind : ModeKind) (x y : Bool)
      → ((v b : List ℕ) → block_out e d kind x v b ≡ block_out e d kind y v b)
      → ((v b : List ℕ) → block_next e kind x v b ≡ block_next e kind y v b)
      → (n : ℕ) (v bs : List ℕ) → blocks e d kind x n v bs ≡ blocks e d kind y n v bs
  unfolding blocks
  blocks-undirected kind x y out next zero v bs = refl
  blocks-undirected kind x y out next (suc n) v bs =
      ap₂ (λ first rest. first ++ rest) (out v (take 16 bs))
      (blocks-undirected kind x y out next n (block_next e kind x v (take 16 bs)) (drop 16 bs)
      ∙ ap (λ w. blocks e d kind y n w (drop 16 bs)) (next v (take 16 bs)))

  module _ (P : FinishRefused → Type 0) (bad : P BadDecrypt)
      (wrong : (rest : ℕ) → rest < 16 → P (WrongFinalBlock rest)) where
    before-ends : (text : List ℕ) (r : Result (List ℕ) FinishRefused) → IfErr r P → IfErr (before text r) P
    before-ends text (Ok x) ends = tt
    before-ends text (Err refusal) ends = ends

    padding-ends : (good : Bool) (text : List ℕ) → IfErr {T = List ℕ} (if good then Ok text else Err BadDecrypt) P
    padding-ends true text = tt
    padding-ends false text = bad

    checked-ends : (kind : ModeKind) (n : ℕ) (v bs : List ℕ) → IfErr (checked e d kind true n v bs) P
    unfolding checked
    checked-ends kind zero v bs = wrong 0 (omega arith)
    checked-ends kind (suc zero) v bs = padding-ends _ _
    checked-ends kind (suc (suc n)) v bs = before-ends _ _ (checked-ends kind (suc n) _ _)

    length-ends : (whole : Bool) (rest : ℕ) (r : Result (List ℕ) FinishRefused) → rest < 16 → IfErr r P
        → IfErr (if whole then r else Err (WrongFinalBlock rest)) P
    length-ends true rest r low ends = ends
    length-ends false rest r low ends = wrong rest low

    whole-ends : (bs : List ℕ) (r : Result (List ℕ) FinishRefused) → IfErr r P
        → IfErr (if nat_eq (length bs % 16) 0 then r else Err (WrongFinalBlock (length bs % 16))) P
    whole-ends bs r ends =
        length-ends (nat_eq (length bs % 16) 0) (length bs % 16) r (mod-lt (length bs) (omega arith)) ends

    -- a text of ECB or CBC ends well, without its padding, or without a whole block
    pub outcome-ends : (kind : ModeKind) (decrypt pad : Bool) (v bs : List ℕ)
        → IfErr (outcome e d kind decrypt pad v bs) P
    outcome-ends Ecb true true v bs =
        whole-ends bs (checked e d Ecb true ((length bs + 15) / 16) v bs) (checked-ends Ecb _ v bs)
    outcome-ends Ecb false true v bs = tt
    outcome-ends Ecb true false v bs = whole-ends bs (Ok (equations e d Ecb true v bs)) tt
    outcome-ends Ecb false false v bs = whole-ends bs (Ok (equations e d Ecb false v bs)) tt
    outcome-ends Cbc true true v bs =
        whole-ends bs (checked e d Cbc true ((length bs + 15) / 16) v bs) (checked-ends Cbc _ v bs)
    outcome-ends Cbc false true v bs = tt
    outcome-ends Cbc true false v bs = whole-ends bs (Ok (equations e d Cbc true v bs)) tt
    outcome-ends Cbc false false v bs = whole-ends bs (Ok (equations e d Cbc false v bs)) tt
    outcome-ends Cfb decrypt pad v bs = tt
    outcome-ends Ofb decrypt pad v bs = tt
    outcome-ends Ctr decrypt pad v bs = tt
