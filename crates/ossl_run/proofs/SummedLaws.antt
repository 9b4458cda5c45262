-- What is told of a finished run: the results of its lines, and how many of them are good.
use Rattle.std.proofs.Common.{◌≡◌, ℕ, ◌+◌, ◌-◌, ◌<◌, ◌≤◌, suc, List, [], ◌∷◌, length, map, get_or, refl, sym, ◌∙◌, ap, arith, Vec, Global}
use Rattle.std.specs.List.{range_with_len, sum_by}
use Rattle.std.proofs.lemmas.List.Sums.{sum_by-cons}
use Rattle.ossl_base.specs.declared.entry.Entry.{Entry}
use Rattle.ossl_commands.specs.Counts.{callers_of}
use Rattle.ossl_script.specs.declared.caller.LineResult.{LineResult}
use Rattle.ossl_state.specs.declared.call.Call.{Call}
use Rattle.ossl_state.specs.declared.call.Reply.{Reply}
use Rattle.ossl_ordered.specs.Run.{own_numbers}
use Rattle.ossl_print.specs.Batched.{Batch, replies_to, results_of}
use Rattle.ossl_print.specs.Output.{AreResults}
use Rattle.ossl_print.specs.Results.{AreTold, batch_results, results_by, told_to}
use Rattle.ossl_print.proofs.ResultsLaws.{results_same}
use Rattle.ossl_run.specs.Ending.{good_after, good_among}
use Rattle.ossl_run.proofs.CallerLaws.{own_number}

-- a sum over vectors is one over their items
abbrev items_of : Vec LineResult Global → List LineResult
items_of results = results.items

pub sum_items : (f : List LineResult → ℕ) (vs : List (Vec LineResult Global))
    → sum_by (λ v. f (items_of v)) vs ≡ sum_by f (map items_of vs)
sum_items f [] = refl
sum_items f (v ∷ vs) =
    sum_by-cons (λ w. f (items_of w)) v vs
    ∙ ap (λ n. f v.items + n) (sum_items f vs)
    ∙ sym (sum_by-cons f v.items (map items_of vs))

-- a sum over a list is one over its places
sum_places : {X : Type 0} (f : X → ℕ) (g : ℕ → X) (first : ℕ) (d : X) (xs : List X)
    → ((i : ℕ) → i < length xs → get_or xs i d ≡ g (first + i))
    → sum_by f xs ≡ sum_by (λ c. f (g c)) (range_with_len first (length xs))
sum_places f g first d [] same = refl
sum_places f g first d (x ∷ xs) same =
    let here : x ≡ g first = same 0 (omega arith) ∙ ap g (omega arith) in
    let later = sum_places f g (first + 1) d xs
    (λ i within. same (suc i) (omega (arith, within)) ∙ ap g (omega arith)) in
    sum_by-cons f x xs
    ∙ ap (λ n. f x + n) later
    ∙ ap (λ y. f y + sum_by (λ c. f (g c)) (range_with_len (first + 1) (length xs))) here
    ∙ sym (sum_by-cons (λ c. f (g c)) first (range_with_len (first + 1) (length xs)))

module _ (batch : Batch) (entries : List (Entry Call Reply)) (results : List (List LineResult))
    (are : AreResults batch (own_numbers batch) entries results) (each : length results ≡ callers_of batch.lines) where
  abbrev own_of : ℕ → List LineResult
  own_of caller = results_of batch caller (replies_to caller entries)

  -- a caller of the batch has the results of the replies to it
  own_results : (c : ℕ) → 0 < c → c ≤ length results → told_to results c ≡ own_of c
  own_results c some few =
      are c some few
      ∙ ap (λ n. results_of batch c (replies_to n entries)) (own_number batch c some (omega (arith, few, each)))

  pub results_are : AreTold batch.lines results
      → results_by batch.lines (told_to results) ≡ batch_results batch (λ caller. replies_to caller entries)
  results_are told = results_same batch.lines (length results) (told_to results) own_of told.callers own_results

  pub good_are : sum_by good_among results ≡ good_after batch entries
  good_are =
      sum_places good_among own_of 1 [] results at
      ∙ ap (λ n. sum_by (λ caller. good_among (own_of caller)) (range_with_len 1 n)) each
    where
      at : (i : ℕ) → i < length results → get_or results i [] ≡ own_of (1 + i)
      at i within =
          let place : i ≡ 1 + i - 1 = omega arith in
          ap (λ j. get_or results j []) place ∙ own_results (1 + i) (omega arith) (omega (arith, within))
