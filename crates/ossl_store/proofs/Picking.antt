-- The rows that stand in the runs of an operation and a number are the candidates of all offerings.
use Rattle.std.proofs.Common.{◌≡◌, ◌∙◌, ℕ, refl, sym, ap, List, [], ◌∷◌, ◌++◌, map, filter, Vec, Option, Some, None}
use Rattle.std.specs.List.{flat_map}
use Rattle.std.specs.declared.alloc.Global.{Global}
use Rattle.ossl_codes.specs.declared.code.Operation.{Operation}
use Rattle.ossl_store.specs.declared.choice.Offer.{Offer}
use Rattle.ossl_store.specs.Best.{Candidate, candidate, candidates, candidates_of, is_under}
use Rattle.ossl_store.specs.Shelves.{items_of, positions}
use Rattle.ossl_store.specs.Stored.{Offers, offering, offerings, rows_of}
use Rattle.ossl_store.specs.Choice.{picked, offer_candidates, run_candidates}
use Rattle.ossl_store.proofs.Positions.{picked-positions}
use Rattle.ossl_store.proofs.Ascending.{Above, find_at, made, made_of, flat_map-agree}

module _ (offers : Offers) (op : Operation) (number : ℕ) where
  -- what one offering has
  abbrev offered : ℕ × Offer → List Candidate
  offered e = candidates_of op number (offering e)

  from_run : (k : ℕ) (o : Option Offer) → offer_candidates o (positions (is_under op number) (rows_of o)) ≡ made_of offered k o
  from_run k None = refl
  from_run k (Some offer) = ap (map (candidate offer.instance)) (picked-positions (is_under op number) offer.rows.items)

  no_places : (o : Option Offer) → offer_candidates o [] ≡ []
  no_places None = refl
  no_places (Some offer) = refl

  run_made : (k : ℕ) (run : Option (Vec ℕ Global)) → made_of (run_candidates offers) k run ≡ offer_candidates (find_at k offers.entries) (items_of run)
  run_made k None = sym (no_places (find_at k offers.entries))
  run_made k (Some places) = refl

  all-offered : (es : List (ℕ × Offer)) → flat_map offered es ≡ candidates op number (map offering es)
  all-offered [] = refl
  all-offered (e ∷ es) = ap (λ cs. offered e ++ cs) (all-offered es)

  pub runs-candidates : (runs : List (ℕ × Vec ℕ Global)) → Above 0 runs → Above 0 offers.entries
      → ((k : ℕ) → items_of (find_at k runs) ≡ positions (is_under op number) (rows_of (find_at k offers.entries)))
      → flat_map (run_candidates offers) runs ≡ candidates op number (offerings offers)
  runs-candidates runs rise rising shelved =
      flat_map-agree (run_candidates offers) offered runs offers.entries rise rising
      (λ k. run_made k (find_at k runs) ∙ ap (offer_candidates (find_at k offers.entries)) (shelved k) ∙ from_run k (find_at k offers.entries))
      ∙ all-offered offers.entries
