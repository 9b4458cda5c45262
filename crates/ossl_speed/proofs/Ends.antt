-- The end of what a context gives of a message.
use Rattle.std.proofs.Common.{◌≡◌, ℕ, List, ◌++◌, Option, sym, ap, ◌∙◌}
use Rattle.ossl_codes.specs.declared.code.Code.{Code}
use Rattle.ossl_op.specs.declared.context.OpCtx.{OpCtx}
use Rattle.ossl_op.specs.declared.params.Params.{Params}
use Rattle.ossl_op.specs.Running.{Runs}
use Rattle.ossl_op.specs.Work.{Appends, EndsWell, begun, carried_on}
use Rattle.ossl_speed.specs.Contexts.{IsEndOf, Keeps}
use Rattle.ossl_speed.specs.Values.{last}
use Rattle.ossl_speed.proofs.Texts.{last-last}

-- what is kept goes on to end as all text given
pub kept_more : (out kept new given text : List ℕ) → kept ≡ last 64 out → new ≡ kept ++ text → last 64 out ≡ last 64 given
    → last 64 new ≡ last 64 (given ++ text)
kept_more out kept new given text is more same =
    ap (last 64) more ∙ ap (λ (k : List ℕ). last 64 (k ++ text)) (is ∙ same) ∙ last-last 64 given text

-- a context that was fed a message, and ended well
pub end_of_context : (context : OpCtx) (out new : List ℕ) (code : Code) (inner : Option Code) (params : Params) (m : List ℕ)
    → (text : List ℕ) × Keeps context out (carried_on (begun code inner params) m text)
    → Appends out new → EndsWell (Runs context) out new → IsEndOf code inner params m (last 64 new)
end_of_context context out new code inner params m fed more ends = (
  fed.0 ++ more.0,
  ends (carried_on (begun code inner params) m fed.0) more.0 more.1 fed.1.0,
  ap (last 64) more.1 ∙ sym (last-last 64 out more.0)
      ∙ ap (λ (kept : List ℕ). last 64 (kept ++ more.0)) fed.1.1 ∙ last-last 64 fed.0 more.0,
)
