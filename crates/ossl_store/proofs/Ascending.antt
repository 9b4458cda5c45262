-- Entries whose keys are numbers in order: what a look-up finds among them.
use Rattle.std.proofs.Common.{◌≡◌, ◌∙◌, ◌<◌, ◌≤◌, ◌+◌, ℕ, suc, zero, refl, sym, ap, ap₂, subst, Bool, true, false, List, [], ◌∷◌, ◌++◌, length, Option, Some, None, cond, nat_eq, nat_lt, true≢false, arith}
use Rattle.std.specs.List.{flat_map, AllByRecursion}
use Rattle.std.specs.List.Sorted.{IsStrictlySortedBy}
use Rattle.std.specs.Map.{keys_of, lookup}
use Rattle.std.specs.BTreeMap.{is_at}
use Rattle.std.specs.Ordering.{nat_cmp, is_eq}
use Rattle.std.specs.declared.cmp.Ordering.{Ordering}
use Rattle.std.specs.declared.cmp.Ordering.TheVariants.{Less, Equal, Greater}
use Rattle.std.proofs.lemmas.Bool.{eqb-true, eq-eqb, ne_eqb, ltb-true, ltb-false, lt-ltb}
use Rattle.std.proofs.lemmas.Map.Keys.{sorted_head, sorted_tail}

-- a number is found by its equal alone
pub is_at-nat : (k q : ℕ) → is_at (nat_cmp k) q ≡ nat_eq k q
is_at-nat k q = by (nat_lt k q) (nat_eq k q) refl refl
  where
    by : (l e : Bool) → nat_lt k q ≡ l → nat_eq k q ≡ e → is_eq (cond l Less (cond e Equal Greater)) ≡ e
    by true true less same = let a : k < q = ltb-true k q less in let b : k ≡ q = eqb-true k q same in absurd (omega arith)
    by true false less same = refl
    by false true less same = refl
    by false false less same = refl

less_than : (k q : ℕ) → nat_cmp k q ≡ Less → k + 1 ≤ q
less_than k q h = by (nat_lt k q) refl
  where
    by : (l : Bool) → nat_lt k q ≡ l → k + 1 ≤ q
    by true less = let a : k < q = ltb-true k q less in omega arith
    by false less = absurd (not_less (nat_eq k q) (rw (less) at h))
      where
        not_less : (e : Bool) → cond e Equal Greater ≡ Less → ⊥
        not_less true bad = true≢false (ap is_eq bad)
        not_less false bad = true≢false (ap is_greater bad)
          where
            is_greater : Ordering → Bool
            is_greater Greater = true
            is_greater o = false

-- the keys rise, from b on
abbrev pub Above : {X : Type 0} → ℕ → List (ℕ × X) → Type 0
Above b [] = Unit {0}
Above b (e ∷ es) = (b ≤ e.0) × Above (e.0 + 1) es

heads : (k : ℕ) (ks : List ℕ) → AllByRecursion (λ y. nat_cmp k y ≡ Less) ks → AllByRecursion (λ y. k + 1 ≤ y) ks
heads k [] all = tt
heads k (q ∷ ks) all = (less_than k q all.0, heads k ks all.1)

from_zero : (ks : List ℕ) → AllByRecursion (λ y. 0 ≤ y) ks
from_zero [] = tt
from_zero (k ∷ ks) = (omega arith, from_zero ks)

module _ {X : Type 0} where
  above : (b : ℕ) (es : List (ℕ × X)) → IsStrictlySortedBy nat_cmp (keys_of es) → AllByRecursion (λ y. b ≤ y) (keys_of es) → Above b es
  above b [] sorted all = tt
  above b (e ∷ es) sorted all = (all.0, above (e.0 + 1) es (sorted_tail nat_cmp e.0 (keys_of es) sorted) (heads e.0 (keys_of es) (sorted_head nat_cmp e.0 (keys_of es) sorted)))

  pub above_from_sorted : (es : List (ℕ × X)) → IsStrictlySortedBy nat_cmp (keys_of es) → Above 0 es
  above_from_sorted es sorted = above 0 es sorted (from_zero (keys_of es))

  -- the value at a key
  abbrev pub find_at : ℕ → List (ℕ × X) → Option X
  find_at k es = lookup (is_at (nat_cmp k)) es

  pub find_at-head : (e : ℕ × X) (es : List (ℕ × X)) → find_at e.0 (e ∷ es) ≡ Some e.1
  find_at-head e es = rw (is_at-nat e.0 e.0, eq-eqb e.0 e.0 refl) refl

  pub find_at-tail : (k : ℕ) (e : ℕ × X) (es : List (ℕ × X)) → nat_eq k e.0 ≡ false → find_at k (e ∷ es) ≡ find_at k es
  find_at-tail k e es other = rw (is_at-nat k e.0, other) refl

  pub find_at-below : (k b : ℕ) (es : List (ℕ × X)) → k < b → Above b es → find_at k es ≡ None
  find_at-below k b [] less rise = refl
  find_at-below k b (e ∷ es) less rise =
      let other : nat_eq k e.0 ≡ false = ne_eqb k e.0 (λ same. omega (arith, rise.0)) in
      find_at-tail k e es other ∙ find_at-below k (e.0 + 1) es (omega (arith, rise.0)) rise.1

  -- a value that is found later stands at a greater key
  pub find_at-later : (k : ℕ) (e : ℕ × X) (es : List (ℕ × X)) (x : X) → Above (e.0 + 1) es → find_at k es ≡ Some x → nat_eq k e.0 ≡ false
  find_at-later k e es x rise found = by (nat_eq k e.0) refl
    where
      by : (b : Bool) → nat_eq k e.0 ≡ b → nat_eq k e.0 ≡ false
      by false h = h
      by true h =
          let same : k ≡ e.0 = eqb-true k e.0 h in
          let none : find_at k es ≡ None = find_at-below k (e.0 + 1) es (omega arith) rise in
          let bad : Some x ≡ None = sym found ∙ none in
          cc

-- ---- two lists of entries that make the same at each key make the same list
module _ {X C : Type 0} (f : ℕ × X → List C) where
  abbrev pub made_of : ℕ → Option X → List C
  made_of k None = []
  made_of k (Some x) = f (k, x)

  -- what the entries make at a key
  abbrev pub made : ℕ → List (ℕ × X) → List C
  made k es = made_of k (find_at k es)

  made-head : (e : ℕ × X) (es : List (ℕ × X)) → made e.0 (e ∷ es) ≡ f e
  made-head e es = ap (made_of e.0) (find_at-head e es)

  made-tail : (k : ℕ) (e : ℕ × X) (es : List (ℕ × X)) → e.0 + 1 ≤ k → made k (e ∷ es) ≡ made k es
  made-tail k e es more = ap (made_of k) (find_at-tail k e es (ne_eqb k e.0 (λ same. omega arith)))

  made-below : (k b : ℕ) (es : List (ℕ × X)) → k < b → Above b es → made k es ≡ []
  made-below k b es less rise = ap (made_of k) (find_at-below k b es less rise)

module _ {X Y C : Type 0} (f : ℕ × X → List C) (g : ℕ × Y → List C) where
  -- they make the same at each key from b on
  abbrev Agree : ℕ → List (ℕ × X) → List (ℕ × Y) → Type 0
  Agree b xs ys = (k : ℕ) → b ≤ k → made f k xs ≡ made g k ys

  -- that this makes them one list, for lists of so many entries in all
  abbrev Merges : ℕ → Type 0
  Merges n = (b : ℕ) (xs : List (ℕ × X)) (ys : List (ℕ × Y)) → length xs + length ys ≤ n → Above b xs → Above b ys → Agree b xs ys → flat_map f xs ≡ flat_map g ys

  module _ (n b : ℕ) (merge : Merges n) where
    merged-left : (x : ℕ × X) (xs : List (ℕ × X)) (ys : List (ℕ × Y)) → suc (length xs) + length ys ≤ suc n → Above b (x ∷ xs) → Above (x.0 + 1) ys → Agree b (x ∷ xs) ys → flat_map f (x ∷ xs) ≡ flat_map g ys
    merged-left x xs ys size rx ry agree =
        let none : f x ≡ [] = sym (made-head f x xs) ∙ agree x.0 rx.0 ∙ made-below g x.0 (x.0 + 1) ys (omega arith) ry in
        let rest = merge (x.0 + 1) xs ys (omega arith) rx.1 ry (λ k more. sym (made-tail f k x xs more) ∙ agree k (omega (arith, rx.0))) in
        ap (λ zs. zs ++ flat_map f xs) none ∙ rest

    merged-right : (xs : List (ℕ × X)) (y : ℕ × Y) (ys : List (ℕ × Y)) → length xs + suc (length ys) ≤ suc n → Above (y.0 + 1) xs → Above b (y ∷ ys) → Agree b xs (y ∷ ys) → flat_map f xs ≡ flat_map g (y ∷ ys)
    merged-right xs y ys size rx ry agree =
        let none : g y ≡ [] = sym (made-head g y ys) ∙ sym (agree y.0 ry.0) ∙ made-below f y.0 (y.0 + 1) xs (omega arith) rx in
        let rest = merge (y.0 + 1) xs ys (omega arith) rx ry.1 (λ k more. agree k (omega (arith, ry.0)) ∙ made-tail g k y ys more) in
        rest ∙ ap (λ zs. zs ++ flat_map g ys) (sym none)

    merged-both : (x : ℕ × X) (xs : List (ℕ × X)) (y : ℕ × Y) (ys : List (ℕ × Y)) → x.0 ≡ y.0 → suc (length xs) + suc (length ys) ≤ suc n → Above b (x ∷ xs) → Above b (y ∷ ys) → Agree b (x ∷ xs) (y ∷ ys)
        → flat_map f (x ∷ xs) ≡ flat_map g (y ∷ ys)
    merged-both x xs y ys at size rx ry agree =
        let same : f x ≡ g y = sym (made-head f x xs) ∙ agree x.0 rx.0 ∙ ap (λ k. made g k (y ∷ ys)) at ∙ made-head g y ys in
        let rest = merge (x.0 + 1) xs ys (omega arith) rx.1 (subst (λ k. Above (k + 1) ys) (sym at) ry.1)
        (λ k more. sym (made-tail f k x xs more) ∙ agree k (omega (arith, rx.0)) ∙ made-tail g k y ys (omega arith)) in
        ap₂ (λ zs ws. zs ++ ws) same rest

    merged-any : (x : ℕ × X) (xs : List (ℕ × X)) (y : ℕ × Y) (ys : List (ℕ × Y)) → suc (length xs) + suc (length ys) ≤ suc n → Above b (x ∷ xs) → Above b (y ∷ ys) → Agree b (x ∷ xs) (y ∷ ys)
        → flat_map f (x ∷ xs) ≡ flat_map g (y ∷ ys)
    merged-any x xs y ys size rx ry agree = by (nat_lt x.0 y.0) (nat_lt y.0 x.0) refl refl
      where
        by : (l m : Bool) → nat_lt x.0 y.0 ≡ l → nat_lt y.0 x.0 ≡ m → flat_map f (x ∷ xs) ≡ flat_map g (y ∷ ys)
        by true m less h = let below : x.0 < y.0 = ltb-true x.0 y.0 less in merged-left x xs (y ∷ ys) size rx (omega arith, ry.1) agree
        by false true less h = let below : y.0 < x.0 = ltb-true y.0 x.0 h in merged-right (x ∷ xs) y ys size (omega arith, rx.1) ry agree
        by false false less h = merged-both x xs y ys (omega (arith, ltb-false x.0 y.0 less, ltb-false y.0 x.0 h)) size rx ry agree

  merged : (n : ℕ) → Merges n
  merged n b [] [] size rx ry agree = refl
  merged zero b (x ∷ xs) ys size rx ry agree = absurd (omega arith)
  merged zero b [] (y ∷ ys) size rx ry agree = absurd (omega arith)
  merged (suc n) b [] (y ∷ ys) size rx ry agree = merged-right n b (merged n) [] y ys size tt ry agree
  merged (suc n) b (x ∷ xs) [] size rx ry agree = merged-left n b (merged n) x xs [] size rx tt agree
  merged (suc n) b (x ∷ xs) (y ∷ ys) size rx ry agree = merged-any n b (merged n) x xs y ys size rx ry agree

  pub flat_map-agree : (xs : List (ℕ × X)) (ys : List (ℕ × Y)) → Above 0 xs → Above 0 ys → ((k : ℕ) → made f k xs ≡ made g k ys) → flat_map f xs ≡ flat_map g ys
  flat_map-agree xs ys rx ry agree = merged (length xs + length ys) 0 xs ys (omega arith) rx ry (λ k h. agree k)
