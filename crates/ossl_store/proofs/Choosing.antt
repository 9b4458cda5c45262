-- The best of rows that are taken one after another, and what it costs.
use Rattle.std.proofs.Common.{◌≡◌, ◌∙◌, ◌<◌, ◌≤◌, ◌+◌, ◌*◌, ℕ, suc, refl, sym, ap, List, [], ◌∷◌, ◌++◌, map, length, drop, Option, Some, None, slice_get, get_or, arith, add-one}
use Rattle.std.proofs.Math.Nat.{mul-suc}
use Rattle.std.proofs.Math.Seq.{drop-cons}
use Rattle.ossl_property.specs.declared.clause.Clause.{Clause}
use Rattle.ossl_store.specs.declared.choice.Scored.{Scored}
use Rattle.ossl_store.specs.declared.offered.Offered.{Offered}
use Rattle.ossl_store.specs.Best.{Candidate, candidate, scored, better, best_from}
use Rattle.ossl_store.specs.Choice.{picked}

pub best_from-append : (query : List Clause) (best : Option Scored) (cs ds : List Candidate) → best_from best query (cs ++ ds) ≡ best_from (best_from best query cs) query ds
best_from-append query best [] ds = refl
best_from-append query best (c ∷ cs) ds = best_from-append query (better best (scored query c)) cs ds

pub cost-append : {C : Type 0} (n : ℕ) (cs ds : List C) → n * length (cs ++ ds) ≡ n * length cs + n * length ds
cost-append n [] ds = omega arith
cost-append n (c ∷ cs) ds = omega (arith, mul-suc n (length (cs ++ ds)), mul-suc n (length cs), cost-append n cs ds)

-- so many steps for what was taken leave so many for the rest
pub cost-step : (before later n taken a b all : ℕ) → later ≡ before + n * taken → n * a ≡ n * taken + n * b → before + n * a ≡ all → later + n * b ≡ all
cost-step before later n taken a b all spent split so_far = omega arith

next_place : (places : List ℕ) (i : ℕ) → i < length places → drop i places ≡ get_or places i 0 ∷ drop (i + 1) places
next_place places i within = drop-cons places i 0 within ∙ ap (λ k. get_or places i 0 ∷ drop k places) (sym (add-one i))

module _ (rows : List Offered) (places : List ℕ) (i : ℕ) (within : i < length places) where
  abbrev rest : List Offered
  rest = picked rows (drop (i + 1) places)

  -- a row stands at the next place
  pub picked-row : (row : Offered) → Some row ≡ slice_get rows (get_or places i 0) → picked rows (drop i places) ≡ row ∷ rest
  picked-row row found = ap (picked rows) (next_place places i within) ∙ rw (← found) refl

  -- none does
  pub picked-none : None ≡ slice_get rows (get_or places i 0) → picked rows (drop i places) ≡ rest
  picked-none missing = ap (picked rows) (next_place places i within) ∙ rw (← missing) refl
