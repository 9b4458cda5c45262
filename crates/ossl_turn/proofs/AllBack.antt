-- Passes that were split off one after the other, with the first pass behind them, are all passes: what a caller of `close` shows.
use Rattle.std.proofs.Common.{◌≡◌, ℕ, zero, suc, ◌+◌, ◌<◌, List, [], ◌∷◌, ◌++◌, All, Contains, length, get_or, sym, ap, ◌∙◌, subst, arith, length-append}
use mathlib.Core.Logic.{dite}
use native.Mathlib.Decide.{ℕ_discrete}
use Rattle.std.proofs.Math.ListN.{get_or-append}
use Rattle.std.proofs.lemmas.List.{get_or_default}
use Rattle.std.proofs.Math.Seq.{get_or-append_seam}
use Rattle.ossl_turn.specs.Passes.{PassFacts, AreAll, AreNumbered}
use Rattle.ossl_turn.proofs.Views.{all_front}

module _ {C R F : Type 0} (first : PassFacts C R F) (others : List (PassFacts C R F)) where
  abbrev all : List (PassFacts C R F)
  all = others ++ first ∷ []

  one_more : length all ≡ length others + 1
  one_more = length-append others (first ∷ [])

  -- each number below the count is that of some pass
  covered : AreNumbered others → first.number ≡ 0 → (n : ℕ) → n < length all → (p : PassFacts C R F) × Contains all p × (p.number ≡ n)
  covered are is_first zero h = (first, (length others, omega (arith, one_more), get_or-append_seam others first [] first), is_first)
  covered are is_first (suc m) h = let inside : m < length others = omega (arith, one_more) in let p : PassFacts C R F = get_or others m first in
      let same : get_or others m p ≡ p = get_or_default others m p first inside in (p, (m, omega (arith, one_more), get_or-append others (first ∷ []) p m inside ∙ same), (are m first inside).0 ∙ omega arith)

  -- passes with the numbers 1, 2, 3 and so on, with the first behind them, are all passes
  pub all_back : AreNumbered others → first.number ≡ 0 → first.made ≡ length others → AreAll all
  all_back are is_first made = record {
    some_pass = omega (arith, one_more);
    made = λ k d h. dite (ℕ_discrete k (length others))
        (λ e. subst (λ (p : PassFacts C R F). p.number ≡ 0 → p.made + 1 ≡ length all) (sym (ap (λ (n : ℕ). get_or all n d) e ∙ get_or-append_seam others first [] d)) (λ _. omega (arith, one_more)))
        (λ ne. let inside : k < length others = omega (arith, one_more) in
        subst (λ (p : PassFacts C R F). p.number ≡ 0 → p.made + 1 ≡ length all) (sym (get_or-append others (first ∷ []) d k inside)) (λ q. let n : (get_or others k d).number ≡ k + 1 = (are k d inside).0 in absurd (omega arith)));
    numbers = covered are is_first;
  }

  -- the same of a list that is equal to that
  pub all_back_at : (passes : List (PassFacts C R F)) → passes ≡ all → AreNumbered others → first.number ≡ 0 → first.made ≡ length others → AreAll passes
  all_back_at passes same are is_first made = subst (λ (ps : List (PassFacts C R F)). AreAll ps) (sym same) (all_back are is_first made)

  -- what holds of all of them holds of the first and of the others
  pub parts : (P : PassFacts C R F → Type 0) (passes : List (PassFacts C R F)) → passes ≡ all → All P passes → P first × All P others
  parts P passes same every = let here : All P all = subst (All P) same every in
      (subst P (get_or-append_seam others first [] first) (here (length others) first (omega (arith, one_more))), all_front P others (first ∷ []) here)
