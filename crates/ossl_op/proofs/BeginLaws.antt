-- How an operation in a mode of AES begins.
use Rattle.std.proofs.Common.{◌≡◌, ◌⊎◌, inl, inr, ℕ, List, [], length, ◌/◌, Bool, Option, Result, Ok, Err, refl, sym}
use Rattle.std.proofs.Common.{ap, ◌∙◌}
use Rattle.ossl_aes.specs.declared.block.Block.{Ghosts}
use Rattle.ossl_codes.specs.declared.code.AesMode.{AesMode}
use Rattle.ossl_codes.specs.declared.code.AesMode.TheVariants.{Ecb}
use Rattle.ossl_codes.specs.declared.code.Bits.{Bits}
use Rattle.ossl_codes.specs.declared.code.Code.{Code}
use Rattle.ossl_codes.specs.declared.code.Code.TheVariants.{Aes}
use Rattle.ossl_modes.specs.declared.kinds.FinishRefused.{FinishRefused}
use Rattle.ossl_modes.specs.declared.state.Mode.{Mode}
use Rattle.ossl_modes.specs.Modes.{before, outcome, whole_blocks}
use Rattle.ossl_modes.specs.Run.{outcome_of, whole_blocks_of}
use Rattle.ossl_op.specs.declared.params.Params.{Params}
use Rattle.ossl_op.specs.Running.{RunsMode}
use Rattle.ossl_op.specs.Standard.{aes_blocks, aes_outcome}
use Rattle.ossl_op.specs.Tables.{key_words, kind_of}
use Rattle.ossl_op.specs.Work.{begun}
use Rattle.ossl_op.proofs.ModeLaws.{blocks-ecb, outcome-ecb}

module _ (e d : List ℕ → List ℕ) (mode : AesMode) (decrypt : Bool) (v w u bs : List ℕ)
    (is : (mode ≡ Ecb) ⊎ (v ≡ w)) (same : w ≡ u) where
  -- the initial value is the one given, or not looked at
  pub outcome-iv : (pad : Bool)
      → outcome e d (kind_of mode) decrypt pad v bs ≡ outcome e d (kind_of mode) decrypt pad u bs
  outcome-iv pad =
      elim is [
        | inl ecb ↦ rw ecb (outcome-ecb e d decrypt pad v u bs)
        | inr given ↦ ap
            (λ (x : List ℕ). outcome e d (kind_of mode) decrypt pad x bs) (given ∙ same)
      ]

  pub blocks-iv : whole_blocks e d (kind_of mode) decrypt v bs ≡ whole_blocks e d (kind_of mode) decrypt u bs
  blocks-iv =
      elim is [
        | inl ecb ↦ rw ecb (blocks-ecb e d decrypt (length bs / 16) v u bs)
        | inr given ↦ ap
            (λ (x : List ℕ). whole_blocks e d (kind_of mode) decrypt x bs) (given ∙ same)
      ]

before-nothing : (r : Result (List ℕ) FinishRefused) → r ≡ before [] r
before-nothing (Ok x) = refl
before-nothing (Err x) = refl

-- a mode of AES before any byte
pub aes_begun : {C : Type 0} {g : Ghosts C} (m : Mode C g) (bits : Bits) (nk : ℕ) (mode : AesMode)
    (inner : Option Code) (params : Params)
    → key_words bits ≡ nk
    → ((bytes : List ℕ) → outcome_of m bytes ≡ aes_outcome nk mode params bytes)
    → ((bytes : List ℕ) → whole_blocks_of m bytes ≡ aes_blocks nk mode params bytes)
    → RunsMode m (begun (Aes bits mode) inner params)
aes_begun m bits nk mode inner params size text unchecked = record {
  text_is = λ rest. ap (λ (n : ℕ). aes_outcome n mode params rest) size ∙ sym (text rest)
      ∙ before-nothing (outcome_of m rest);
  unchecked_is = λ rest. ap (λ (n : ℕ). aes_blocks n mode params rest) size ∙ sym (unchecked rest);
}
