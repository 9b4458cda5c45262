-- A further offering has its own instance and rank, and the others keep theirs.
use Rattle.std.proofs.Common.{◌≡◌, ◌∙◌, ◌≤◌, ◌+◌, ℕ, refl, sym, ap, Bool, true, false, ◌||◌, List, [], ◌∷◌, cond, nat_eq, nat_lt, arith}
use Rattle.std.specs.List.{list_any}
use Rattle.std.proofs.lemmas.Bool.{ne_eqb}
use Rattle.ossl_store.specs.Offering.{Offering, placed, has_instance, has_rank}

any-placed : (test : Offering → Bool) (o : Offering) (ps : List Offering) → list_any test (placed o ps) ≡ (test o || list_any test ps)
any-placed test o [] = refl
any-placed test o (p ∷ ps) = (elim (nat_lt o.rank p.rank) as (λ b. list_any test (cond b (o ∷ p ∷ ps) (p ∷ placed o ps)) ≡ (test o || (test p || list_any test ps))) [
  | true ↦ refl
  | false ↦ ap (λ b. test p || b) (any-placed test o ps) ∙ swapped (test p) (test o) (list_any test ps)
])
  where
    swapped : (a b c : Bool) → (a || (b || c)) ≡ (b || (a || c))
    swapped true true c = refl
    swapped true false c = refl
    swapped false b c = refl

-- after the offering of n, no greater number is taken
pub free-instances : (n : ℕ) (o : Offering) (ps : List Offering) → o.instance ≡ n → ((k : ℕ) → n ≤ k → has_instance k ps ≡ false) → (k : ℕ) → n + 1 ≤ k → has_instance k (placed o ps) ≡ false
free-instances n o ps is free k more =
    let other : nat_eq o.instance k ≡ false = ne_eqb o.instance k (λ same. omega arith) in
    any-placed (λ p. nat_eq p.instance k) o ps ∙ rw (other) (free k (omega arith))

pub free-ranks : (n : ℕ) (o : Offering) (ps : List Offering) → o.rank ≡ n → ((k : ℕ) → n ≤ k → has_rank k ps ≡ false) → (k : ℕ) → n + 1 ≤ k → has_rank k (placed o ps) ≡ false
free-ranks n o ps is free k more =
    let other : nat_eq o.rank k ≡ false = ne_eqb o.rank k (λ same. omega arith) in
    any-placed (λ p. nat_eq p.rank k) o ps ∙ rw (other) (free k (omega arith))
