-- Counts and first elements of lists.
use Rattle.std.proofs.Common.{◌≡◌, ℕ, ◌+◌, ◌<◌, ◌≤◌, Bool, true, false, not, ◌||◌, ◌&&◌, nat_eq, List, [], ◌∷◌, ◌++◌, length, map, take, drop, get_or, refl, sym, ◌∙◌, ap, arith, suc, zero, cond, zero-add, ◌⊎◌, inl, inr}
use Rattle.std.proofs.Math.ListN.{set}
use Rattle.std.specs.List.{list_any, list_all, filter, find, count_by}
use Rattle.std.specs.Prelude.{None, Some}
use Rattle.std.specs.declared.option.Option.{Option}
use Rattle.std.proofs.lemmas.Bool.{cases_Bool, and_parts, eqb-true, eq-eqb, ne_eqb, true≢false, both_ways}
use Rattle.std.proofs.lemmas.Grind.{common_steps}
use Rattle.std.proofs.lemmas.List.Folds.{list_any-append, list_all-append, find-append}
use Rattle.std.proofs.lemmas.List.Sums.{sum_by-append, sum_by-cons, count_by-le-length}
use Rattle.ossl_provider.specs.Members.{is_in, is_distinct}
use Rattle.ossl_state.proofs.ListLaws.{IsAmong}

module _ {X : Type 0} where
  pub among_later : (x y : X) (xs : List X) → IsAmong xs y → IsAmong (x ∷ xs) y
  among_later x y xs among q passes = rw (among q passes) (grind (arith, common_steps))

  pub among_first : (x : X) (xs : List X) → IsAmong (x ∷ xs) x
  among_first x xs q passes = rw passes refl

  pub among_kept : (p : X → Bool) (xs : List X) (x : X) → IsAmong xs x → p x ≡ true → IsAmong (filter p xs) x
  among_kept p xs x among passes q holds = rw (both q xs) (among (λ y. p y && q y) (rw (passes, holds) refl))
    where
      both : (q : X → Bool) (ys : List X) → list_any q (filter p ys) ≡ list_any (λ y. p y && q y) ys
      both q [] = refl
      both q (y ∷ ys) = grind (arith, common_steps, both q ys)

  pub among_filtered : (p : X → Bool) (xs : List X) (x : X) → IsAmong (filter p xs) x → (IsAmong xs x) × (p x ≡ true)
  among_filtered p xs x among = (
    λ q holds. fewer q xs (among q holds),
    elim (cases_Bool (p x)) [
      | inl passes ↦ passes
      | inr fails ↦ absurd (none xs (among (λ y. not (p y)) (rw fails refl)))
    ],
  )
    where
      fewer : (q : X → Bool) (ys : List X) → list_any q (filter p ys) ≡ true → list_any q ys ≡ true
      fewer q [] h = h
      fewer q (y ∷ ys) h = grind (arith, common_steps, fewer q ys)

      none : (ys : List X) → list_any (λ y. not (p y)) (filter p ys) ≡ true → ⊥
      none [] h = true≢false (sym h)
      none (y ∷ ys) h = elim (cases_Bool (p y)) [
        | inl passes ↦ none ys (rw (passes, passes) at h)
        | inr fails ↦ none ys (rw fails at h)
      ]

  -- one element more is looked at
  pub count-cons : (p : X → Bool) (x : X) (xs : List X) → count_by p (x ∷ xs) ≡ cond (p x) 1 0 + count_by p xs
  count-cons p x xs = sum_by-cons (λ y. cond (p y) 1 0) x xs

  pub count-append : (p : X → Bool) (xs ys : List X) → count_by p (xs ++ ys) ≡ count_by p xs + count_by p ys
  count-append p xs ys = sum_by-append (λ x. cond (p x) 1 0) xs ys

  -- some element passes where the count is not 0
  pub count_any : (p : X → Bool) (xs : List X) → not (nat_eq (count_by p xs) 0) ≡ list_any p xs
  count_any p [] = refl
  count_any p (x ∷ xs) = rw (count-cons p x xs) (by (p x) (count_any p xs))
    where
      by : (b : Bool) → not (nat_eq (count_by p xs) 0) ≡ list_any p xs → not (nat_eq (cond b 1 0 + count_by p xs) 0) ≡ (b || list_any p xs)
      by true rest = ap not (ne_eqb (1 + count_by p xs) 0 (λ e. absurd (omega arith)))
      by false rest = rw zero-add rest

  pub count-same : (p q : X → Bool) (xs : List X) → ((x : X) → p x ≡ q x) → count_by p xs ≡ count_by q xs
  count-same p q [] same = refl
  count-same p q (x ∷ xs) same = rw (count-cons p x xs, count-cons q x xs, same x, count-same p q xs same) refl

  pub count-le : (p : X → Bool) (xs : List X) → count_by p xs ≤ length xs
  count-le p xs = count_by-le-length p xs

  -- the first element that passes, once one more stands behind
  pub find-push : (p : X → Bool) (xs : List X) (y z : X) → find p (xs ++ y ∷ []) ≡ Some z →
      (find p xs ≡ Some z) ⊎ ((p y ≡ true) × (y ≡ z))
  find-push p [] y z h = elim (cases_Bool (p y)) [
    | inl passes ↦ let found = (rw passes at h) in inr (passes, cc)
    | inr fails ↦ let none = (rw fails at h) in cc
  ]
  find-push p (x ∷ xs) y z h = elim (cases_Bool (p x)) [
    | inl passes ↦ inl (rw passes (rw passes at h))
    | inr fails ↦ rw fails (find-push p xs y z (rw fails at h))
  ]

  -- and where others are left out
  pub find-kept : (p q : X → Bool) (xs : List X) (z : X) → ((x : X) → p x ≡ true → q x ≡ true) →
      find p (filter q xs) ≡ Some z → find p xs ≡ Some z
  find-kept p q [] z more h = h
  find-kept p q (x ∷ xs) z more h = elim (cases_Bool (p x)) [
    | inl passes ↦ rw passes (rw (more x passes, passes) at h)
    | inr fails ↦ elim (cases_Bool (q x)) [
      | inl kept ↦ rw fails (find-kept p q xs z more (rw (kept, fails) at h))
      | inr left ↦ rw fails (find-kept p q xs z more (rw left at h))
    ]
  ]

  -- none that passes is kept
  pub find-gone : (p q : X → Bool) (xs : List X) → ((x : X) → q x ≡ true → p x ≡ false) → find p (filter q xs) ≡ None
  find-gone p q [] none = refl
  find-gone p q (x ∷ xs) none = elim (cases_Bool (q x)) [
    | inl kept ↦ rw (kept, none x kept) (find-gone p q xs none)
    | inr left ↦ rw left (find-gone p q xs none)
  ]

module _ {X Y : Type 0} where
  pub map-same : (f g : X → Y) (xs : List X) → ((x : X) → IsAmong xs x → f x ≡ g x) → map f xs ≡ map g xs
  map-same f g [] same = refl
  map-same f g (x ∷ xs) same =
      rw (same x (among_first x xs), map-same f g xs (λ y among. same y (among_later x y xs among))) refl

  pub filter-map : (p : Y → Bool) (f : X → Y) (xs : List X) → filter p (map f xs) ≡ map f (filter (λ x. p (f x)) xs)
  filter-map p f [] = refl
  filter-map p f (x ∷ xs) = elim (cases_Bool (p (f x))) [
    | inl passes ↦ rw passes (ap (λ ys. f x ∷ ys) (filter-map p f xs))
    | inr fails ↦ rw fails (filter-map p f xs)
  ]

  pub map-map : {Z : Type 0} (g : Y → Z) (f : X → Y) (xs : List X) → map g (map f xs) ≡ map (λ x. g (f x)) xs
  map-map g f [] = refl
  map-map g f (x ∷ xs) = ap (λ ys. g (f x) ∷ ys) (map-map g f xs)

  pub any-map : (p : Y → Bool) (f : X → Y) (xs : List X) → list_any p (map f xs) ≡ list_any (λ x. p (f x)) xs
  any-map p f [] = refl
  any-map p f (x ∷ xs) = rw (any-map p f xs) refl

  pub all-map : (p : Y → Bool) (f : X → Y) (xs : List X) → list_all p (map f xs) ≡ list_all (λ x. p (f x)) xs
  all-map p f [] = refl
  all-map p f (x ∷ xs) = rw (all-map p f xs) refl

module _ {X : Type 0} (f : X → ℕ) where
  -- a number that none has: nothing is left out by it
  pub filter-absent : (t : ℕ) (xs : List X) → is_in t (map f xs) ≡ false → filter (λ x. not (nat_eq (f x) t)) xs ≡ xs
  filter-absent t [] h = refl
  filter-absent t (x ∷ xs) h = grind (arith, common_steps, filter-absent t xs)

  -- of distinct numbers, without the element of one number the count is by that element less
  pub count-without : (p : X → Bool) (t : ℕ) (xs : List X) (y : X) → is_distinct (map f xs) ≡ true → find (λ x. nat_eq (f x) t) xs ≡ Some y →
      count_by p xs ≡ count_by p (filter (λ x. not (nat_eq (f x) t)) xs) + cond (p y) 1 0
  count-without p t [] y d h = cc
  count-without p t (x ∷ xs) y d h =
      let parts = and_parts (not (is_in (f x) (map f xs))) (is_distinct (map f xs)) d in
      elim (cases_Bool (nat_eq (f x) t)) [
        | inl same ↦
            let found = (rw same at h) in
            let is : x ≡ y = cc in
            let absent : is_in t (map f xs) ≡ false = rw (← eqb-true (f x) t same) (grind (arith, common_steps)) in
            rw (count-cons p x xs, same, filter-absent t xs absent, is) (omega arith)
        | inr other ↦
            let later = count-without p t xs y parts.1 (rw other at h) in
            let others = filter (λ z. not (nat_eq (f z) t)) xs in
            rw (count-cons p x xs, other, count-cons p x others) (omega (arith, later))
      ]

-- a list that is changed from the front
module _ {X : Type 0} (f : X → X) where
  pub changed_at : (xs : List X) (i : ℕ) (d : X) → i < length xs → get_or (map f (take i xs) ++ drop i xs) i d ≡ get_or xs i d
  changed_at [] i d h = absurd (omega arith)
  changed_at (x ∷ xs) zero d h = refl
  changed_at (x ∷ xs) (suc i) d h = changed_at xs i d (omega arith)

  pub changed_set : (xs : List X) (i : ℕ) (d : X) → i < length xs →
      set (map f (take i xs) ++ drop i xs) i (f (get_or xs i d)) ≡ map f (take (suc i) xs) ++ drop (suc i) xs
  changed_set [] i d h = absurd (omega arith)
  changed_set (x ∷ xs) zero d h = refl
  changed_set (x ∷ xs) (suc i) d h = ap (λ ys. f x ∷ ys) (changed_set xs i d (omega arith))
