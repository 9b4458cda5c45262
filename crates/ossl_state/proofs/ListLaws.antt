-- Tests, filters and counts over lists.
use Rattle.std.proofs.Common.{◌≡◌, ℕ, ◌<◌, ◌≤◌, Bool, true, false, not, ◌&&◌, nat_eq, nat_lt, List, [], ◌∷◌, length, map, refl, sym, ap, arith, suc, zero, inl, inr}
use Rattle.std.proofs.Math.ListN.{set}
use Rattle.std.specs.List.{list_any, list_all, filter, find, position, prefix_len}
use Rattle.std.specs.Prelude.{None, Some}
use Rattle.std.proofs.lemmas.List.{length-map}
use Rattle.std.proofs.lemmas.Grind.{common_steps}
use Rattle.std.proofs.lemmas.Bool.{cases_Bool, and_parts, eqb-true, true≢false, both_ways}
use Rattle.ossl_provider.specs.Members.{is_in, is_distinct}

-- each test that an element passes is passed by one of the list
abbrev pub IsAmong : {X : Type 0} → List X → X → Type 0
IsAmong {X} xs x = (q : X → Bool) → q x ≡ true → list_any q xs ≡ true

module _ {X : Type 0} where
  among_later : (x y : X) (xs : List X) → IsAmong xs y → IsAmong (x ∷ xs) y
  among_later x y xs among q passes = rw (among q passes) (grind (arith, common_steps))

  among_first : (x : X) (xs : List X) → IsAmong (x ∷ xs) x
  among_first x xs q passes = rw passes refl

  -- two tests that agree on the list's elements
  pub filter_same-among : (p q : X → Bool) (xs : List X) → ((x : X) → IsAmong xs x → p x ≡ q x) → filter p xs ≡ filter q xs
  filter_same-among p q [] same = refl
  filter_same-among p q (x ∷ xs) same =
      rw (same x (among_first x xs), filter_same-among p q xs (λ y among. same y (among_later x y xs among))) refl

  pub all_among : (p : X → Bool) (xs : List X) → ((x : X) → IsAmong xs x → p x ≡ true) → list_all p xs ≡ true
  all_among p [] each = refl
  all_among p (x ∷ xs) each = rw (each x (among_first x xs), all_among p xs (λ y among. each y (among_later x y xs among))) refl

  -- an element that passes, and what its membership says
  pub any_witness : (p : X → Bool) (xs : List X) → list_any p xs ≡ true → (x : X) × (p x ≡ true) × IsAmong xs x
  any_witness p [] h = absurd (true≢false (sym h))
  any_witness p (x ∷ xs) h = elim (cases_Bool (p x)) [
    | inl holds ↦ (x, holds, λ q passes. rw passes refl)
    | inr fails ↦
        let later = any_witness p xs (rw fails at h) in
        (later.0, later.1, λ q passes. rw (later.2 q passes) (grind (arith, common_steps)))
  ]

  -- what all pass, each does
  pub all_at_among : (p : X → Bool) (xs : List X) (x : X) → list_all p xs ≡ true → IsAmong xs x → p x ≡ true
  all_at_among p xs x all among = elim (cases_Bool (p x)) [
    | inl holds ↦ holds
    | inr fails ↦ absurd (none_fails xs all (among (λ y. not (p y)) (rw fails refl)))
  ]
    where
      none_fails : (ys : List X) → list_all p ys ≡ true → list_any (λ y. not (p y)) ys ≡ true → ⊥
      none_fails [] all some = true≢false (sym some)
      none_fails (y ∷ ys) all some =
          let parts = and_parts (p y) (list_all p ys) all in
          none_fails ys parts.1 (rw parts.0 at some)

  -- what one test passes, another one does
  pub any_more : (p q : X → Bool) → ((x : X) → p x ≡ true → q x ≡ true) → (xs : List X) → list_any p xs ≡ true → list_any q xs ≡ true
  any_more p q more xs h = let w = any_witness p xs h in w.2 q (more w.0 w.1)

  pub any_same : (p q : X → Bool) → ((x : X) → p x ≡ q x) → (xs : List X) → list_any p xs ≡ list_any q xs
  any_same p q same [] = refl
  any_same p q same (x ∷ xs) = rw (same x, any_same p q same xs) refl

  pub all_more : (p q : X → Bool) → ((x : X) → p x ≡ true → q x ≡ true) → (xs : List X) → list_all p xs ≡ true → list_all q xs ≡ true
  all_more p q more [] h = refl
  all_more p q more (x ∷ xs) h = let parts = and_parts (p x) (list_all p xs) h in rw (more x parts.0, all_more p q more xs parts.1) refl

  pub filter_same : (p q : X → Bool) → ((x : X) → p x ≡ q x) → (xs : List X) → filter p xs ≡ filter q xs
  filter_same p q same [] = refl
  filter_same p q same (x ∷ xs) = rw (same x, filter_same p q same xs) refl

  -- the same where all elements pass a third test
  pub filter_same-where : (r p q : X → Bool) → ((x : X) → r x ≡ true → p x ≡ q x) → (xs : List X) → list_all r xs ≡ true → filter p xs ≡ filter q xs
  filter_same-where r p q same [] all = refl
  filter_same-where r p q same (x ∷ xs) all = let parts = and_parts (r x) (list_all r xs) all in rw (same x parts.0, filter_same-where r p q same xs parts.1) refl

  pub find_none : (p : X → Bool) (xs : List X) → find p xs ≡ None → list_any p xs ≡ false
  find_none p [] h = refl
  find_none p (x ∷ xs) h = elim (cases_Bool (p x)) [
    | inl holds ↦ let found = (rw holds at h) in cc
    | inr fails ↦ rw fails (find_none p xs (rw fails at h))
  ]

  pub find_some : (p : X → Bool) (xs : List X) (x : X) → find p xs ≡ Some x → (p x ≡ true) × IsAmong xs x
  find_some p [] x h = cc
  find_some p (y ∷ xs) x h = elim (cases_Bool (p y)) [
    | inl holds ↦
        let same : y ≡ x = let found = (rw holds at h) in cc in
        (rw (← same) holds, λ q passes. rw (same, passes) refl)
    | inr fails ↦
        let later = find_some p xs x (rw fails at h) in
        (later.0, λ q passes. rw (later.1 q passes) (grind (arith, common_steps)))
  ]

  -- no element passes all three tests of a filter of a filter of a filter
  pub filters_empty : (p q r : X → Bool) (xs : List X) → list_any (λ x. p x && q x && r x) xs ≡ false → filter p (filter q (filter r xs)) ≡ []
  filters_empty p q r [] h = refl
  filters_empty p q r (x ∷ xs) h = grind (arith, common_steps, filters_empty p q r xs)

  pub list_any-filter : (p q : X → Bool) (xs : List X) → list_any p (filter q xs) ≡ list_any (λ x. q x && p x) xs
  list_any-filter p q [] = refl
  list_any-filter p q (x ∷ xs) = grind (arith, common_steps, list_any-filter p q xs)

  -- what passes after a filter passed before
  pub any_fewer : (p q : X → Bool) (xs : List X) → list_any p (filter q xs) ≡ true → list_any p xs ≡ true
  any_fewer p q [] h = h
  any_fewer p q (x ∷ xs) h = grind (arith, common_steps, any_fewer p q xs)

  pub all_fewer : (p q : X → Bool) (xs : List X) → list_all p xs ≡ true → list_all p (filter q xs) ≡ true
  all_fewer p q [] h = refl
  all_fewer p q (x ∷ xs) h = grind (arith, common_steps, all_fewer p q xs)

  pub length-filter : (q : X → Bool) (xs : List X) → length (filter q xs) ≤ length xs
  length-filter q [] = omega arith
  length-filter q (x ∷ xs) = grind (arith, common_steps, length-filter q xs)

  -- a filter that some element does not pass leaves fewer
  pub length-filter_less : (q : X → Bool) (xs : List X) → list_any q xs ≡ true → length (filter (λ x. not (q x)) xs) < length xs
  length-filter_less q [] h = cc
  length-filter_less q (x ∷ xs) h = elim (cases_Bool (q x)) [
    | inl holds ↦ rw holds (omega (arith, length-filter (λ x. not (q x)) xs))
    | inr fails ↦ rw fails (omega (arith, length-filter_less q xs (rw fails at h)))
  ]

module _ {X : Type 0} (f : X → ℕ) where
  -- a number that no element has
  pub any_absent : (n : ℕ) (p : X → Bool) (xs : List X) → is_in n (map f xs) ≡ false → list_any (λ x. nat_eq (f x) n && p x) xs ≡ false
  any_absent n p [] h = refl
  any_absent n p (x ∷ xs) h = grind (arith, common_steps, any_absent n p xs)

  -- of distinct numbers, two elements of one number are one
  pub any_both : (n : ℕ) (p q : X → Bool) (xs : List X) → is_distinct (map f xs) ≡ true → list_any (λ x. nat_eq (f x) n && p x) xs ≡ true → list_any (λ x. nat_eq (f x) n && q x) xs ≡ true →
      list_any (λ x. nat_eq (f x) n && (p x && q x)) xs ≡ true
  any_both n p q [] d h g = h
  any_both n p q (x ∷ xs) d h g =
      let parts = and_parts (not (is_in (f x) (map f xs))) (is_distinct (map f xs)) d in
      elim (cases_Bool (nat_eq (f x) n)) [
        | inl same ↦
            let absent : is_in n (map f xs) ≡ false = rw (← eqb-true (f x) n same) (grind (arith, common_steps)) in
            let no_p = any_absent n p xs absent in
            let no_q = any_absent n q xs absent in
            grind (arith, common_steps)
        | inr other ↦ rw other (any_both n p q xs parts.1 (rw other at h) (rw other at g))
      ]

  is_in_fewer : (n : ℕ) (q : X → Bool) (xs : List X) → is_in n (map f xs) ≡ false → is_in n (map f (filter q xs)) ≡ false
  is_in_fewer n q [] h = refl
  is_in_fewer n q (x ∷ xs) h = grind (arith, common_steps, is_in_fewer n q xs)

  -- distinct numbers stay so under a filter
  pub distinct_fewer : (q : X → Bool) (xs : List X) → is_distinct (map f xs) ≡ true → is_distinct (map f (filter q xs)) ≡ true
  distinct_fewer q [] d = refl
  distinct_fewer q (x ∷ xs) d =
      let parts = and_parts (not (is_in (f x) (map f xs))) (is_distinct (map f xs)) d in
      let later = distinct_fewer q xs parts.1 in
      let absent : is_in (f x) (map f xs) ≡ false = grind (arith, common_steps) in
      let fewer = is_in_fewer (f x) q xs absent in
      grind (arith, common_steps)

  -- each number is below a bound, so that the bound is none of them
  pub is_in_below : (n : ℕ) (xs : List X) → list_all (λ x. nat_lt (f x) n) xs ≡ true → is_in n (map f xs) ≡ false
  is_in_below n [] all = refl
  is_in_below n (x ∷ xs) all = grind (arith, common_steps, is_in_below n xs)

-- a filter of a filter that passes fewer
pub filter-filter : {X : Type 0} (p q : X → Bool) → ((x : X) → q x ≡ true → p x ≡ true) → (xs : List X) → filter q (filter p xs) ≡ filter q xs
filter-filter p q less [] = refl
filter-filter p q less (x ∷ xs) = elim (cases_Bool (p x)) [
  | inl holds ↦ rw holds (grind (arith, common_steps, filter-filter p q less xs))
  | inr fails ↦ elim (cases_Bool (q x)) [
    | inl passes ↦ absurd (both_ways (p x) fails (less x passes))
    | inr misses ↦ rw (fails, misses) (filter-filter p q less xs)
  ]
]

-- two filters in either order
pub filter-swap : {X : Type 0} (p q : X → Bool) (xs : List X) → filter p (filter q xs) ≡ filter q (filter p xs)
filter-swap p q [] = refl
filter-swap p q (x ∷ xs) = grind (arith, common_steps, filter-swap p q xs)

prefix_len-map : {X Y : Type 0} (p : Y → Bool) (f : X → Y) (xs : List X) → prefix_len p (map f xs) ≡ prefix_len (λ x. p (f x)) xs
prefix_len-map p f [] = refl
prefix_len-map p f (x ∷ xs) = rw (prefix_len-map p f xs) refl

-- the first of the changed elements that passes
pub position-map : {X Y : Type 0} (p : Y → Bool) (f : X → Y) (xs : List X) → position p (map f xs) ≡ position (λ x. p (f x)) xs
position-map p f xs = rw (length-map, prefix_len-map (λ y. not (p y)) f xs) refl

-- an element replaced twice
pub set_twice : {X : Type 0} (xs : List X) (i : ℕ) (a b : X) → set (set xs i a) i b ≡ set xs i b
set_twice [] i a b = refl
set_twice (x ∷ xs) zero a b = refl
set_twice (x ∷ xs) (suc i) a b = ap (λ l. x ∷ l) (set_twice xs i a b)
