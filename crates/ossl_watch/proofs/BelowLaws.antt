-- Counts of uses that stay below a bound.
use Rattle.std.proofs.Common.{◌≡◌, ℕ, ◌+◌, ◌<◌, ◌≤◌, Bool, true, false, ◌&&◌, nat_eq, nat_lt, List, [], ◌∷◌, ◌++◌, length, map, get_or, refl, sym, ◌∙◌, ap, arith, suc, zero, cond, inl, inr}
use Rattle.std.specs.List.{list_all}
use Rattle.std.specs.Prelude.{None, Some}
use Rattle.std.specs.declared.option.Option.{Option}
use Rattle.std.proofs.lemmas.Bool.{cases_Bool, and_parts, ltb-true, lt-ltb}
use Rattle.std.proofs.lemmas.List.Folds.{list_all-append}
use Rattle.ossl_state.proofs.ListLaws.{all_more}
use Rattle.ossl_watch.specs.declared.running.Running.{Running}
use Rattle.ossl_watch.specs.declared.token.Use.{Use}
use Rattle.ossl_watch.specs.declared.token.Use.TheVariants.{Activated}
use Rattle.ossl_watch.specs.Watched.{activated, after_use, are_below, born_at, has_box, is_box_of, with_box}
use Rattle.ossl_watch.proofs.CountLaws.{all-map}

abbrev is_below : ℕ → Running → Bool
is_below n r = nat_lt r.activations n && nat_lt r.holders n

both_below : (n a h : ℕ) → a < n → h < n → (nat_lt a n && nat_lt h n) ≡ true
both_below n a h less fewer = rw (lt-ltb a n less, lt-ltb h n fewer) refl

pub below_parts : (n : ℕ) (r : Running) → is_below n r ≡ true → (r.activations < n) × (r.holders < n)
below_parts n r h =
    let parts = and_parts (nat_lt r.activations n) (nat_lt r.holders n) h in
    (ltb-true r.activations n parts.0, ltb-true r.holders n parts.1)

-- a greater bound
pub below_more : (n m : ℕ) (rs : List Running) → n ≤ m → are_below n rs ≡ true → are_below m rs ≡ true
below_more n m rs more h = all_more (is_below n) (is_below m) (λ r small.
    let parts = below_parts n r small in both_below m r.activations r.holders (omega (arith, parts.0, more)) (omega (arith, parts.1, more))) rs h

-- the instance at an index
pub below_at : (n : ℕ) (rs : List Running) (i : ℕ) (d : Running) → are_below n rs ≡ true → i < length rs → is_below n (get_or rs i d) ≡ true
below_at n [] i d h within = absurd (omega arith)
below_at n (r ∷ rs) zero d h within = (and_parts (is_below n r) (are_below n rs) h).0
below_at n (r ∷ rs) (suc i) d h within = below_at n rs i d (and_parts (is_below n r) (are_below n rs) h).1 (omega arith)

-- once a box has one activation more
pub below_activated : (n m number l k : ℕ) (rs : List Running) → n < m → 0 < n → are_below n rs ≡ true → are_below m (activated number l k rs) ≡ true
below_activated n m number l k rs less some h =
    all-map (is_below m) (after_use (Activated l k)) (with_box number l k rs)
    ∙ all_more (is_below n) (λ r. is_below m (after_use (Activated l k) r)) one (with_box number l k rs) (with (has_box l k rs))
  where
    one : (r : Running) → is_below n r ≡ true → is_below m (after_use (Activated l k) r) ≡ true
    one r small = of (is_box_of l k r) (below_parts n r small)
      where
        of : (b : Bool) → (r.activations < n) × (r.holders < n) → is_below m (cond b (record r { activations = r.activations + 1 }) r) ≡ true
        of true parts = both_below m (r.activations + 1) r.holders (omega (arith, parts.0, less)) (omega (arith, parts.1, less))
        of false parts = both_below m r.activations r.holders (omega (arith, parts.0, less)) (omega (arith, parts.1, less))

    with : (b : Bool) → are_below n (cond b rs (rs ++ born_at number l k ∷ [])) ≡ true
    with true = h
    with false = rw (list_all-append (is_below n) rs (born_at number l k ∷ []), h, lt-ltb 0 n some) refl
