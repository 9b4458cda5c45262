-- The results of callers, one by one.
use Rattle.std.proofs.Common.{◌≡◌, suc, List, [], ◌∷◌, ◌++◌, map, sym, ap, subst, ◌∙◌, append_assoc, arith}
use Rattle.std.proofs.lemmas.List.{map-append}
use Rattle.ossl_crew.specs.Crew.{AreEnded}
use Rattle.ossl_script.specs.declared.caller.LineResult.{LineResult}
use Rattle.ossl_script.specs.View.{ScriptCallerView, printed_of}

-- the results of one more caller are taken from the callers that are left
pub results_more : {A : Type 0} (items : A → List LineResult) (done now : List A) (taken : A)
    (script : ScriptCallerView) (before left : List ScriptCallerView) (all : List (List LineResult))
    → now ≡ done ++ taken ∷ []
    → items taken ≡ printed_of script → before ≡ script ∷ left
    → map items done ++ map printed_of before ≡ all
    → map items now ++ map printed_of left ≡ all
results_more items done now taken script before left all grown is first told =
    ap (λ l. map items l ++ map printed_of left) grown
    ∙ ap (λ l. l ++ map printed_of left) (map-append items done (taken ∷ []))
    ∙ append_assoc (map items done) (items taken ∷ []) (map printed_of left)
    ∙ ap (λ rs. map items done ++ rs ∷ map printed_of left) is
    ∙ ap (λ l. map items done ++ map printed_of l) (sym first)
    ∙ told

pub ended_left : (script : ScriptCallerView) (before left : List ScriptCallerView) → before ≡ script ∷ left
    → AreEnded before → AreEnded left
ended_left script before left first are k other below =
    let all : AreEnded (script ∷ left) = subst AreEnded first are in
    all (suc k) other (omega (arith, below))
