-- An order that names each place once: that it names all 64, what moving a place to the front keeps, and the place for a new answer.
use Rattle.std.proofs.Common.{◌≡◌, ◌≢◌, ◌∙◌, ◌<◌, ◌≤◌, ◌-◌, ℕ, suc, refl, sym, ap, subst, Bool, true, false, not, ◌&&◌, ◌||◌, List, [], ◌∷◌, map, Option, Some, None, is_some, find, length, take, cond, nat_eq, nat_lt, slice_set, arith, true≢false, unwrap_or, get_or-set_other, get_or-set_same}
use Rattle.std.specs.List.{list_any, AllByRecursion, IsDistinct}
use Rattle.std.specs.Map.{lookup_entry, remove_entry}
use Rattle.std.proofs.lemmas.List.{take_all, length-map}
use Rattle.std.proofs.lemmas.Bool.{and_parts, eq-eqb, ne_eqb, eqb-true, ltb-true, lt-ltb}
use Rattle.std.proofs.lemmas.Map.Steps.{length-le_from_distinct_below}
use Rattle.lru.specs.LruCache.{promoted}
use Rattle.ossl_cache.specs.Recent.{Answer, most}
use Rattle.ossl_cache.specs.Places.{Order, held_at, and_shown, shown, are_places, is_free, last_place, next_place}

-- the order names the place
abbrev pub is_named : ℕ → Order → Bool
is_named i es = list_any (λ other. nat_eq i other.0) es

not_true : (b : Bool) → not b ≡ true → b ≡ false
not_true true e = cc
not_true false e = refl

or_false : (a b : Bool) → (a || b) ≡ false → (a ≡ false) × (b ≡ false)
or_false true b e = cc
or_false false true e = cc
or_false false false e = (refl, refl)

record Parts (e : ℕ × Unit {0}) (es : Order) : Type 0 where
  pub below : nat_lt e.0 most ≡ true
  pub apart : is_named e.0 es ≡ false
  pub rest : are_places es ≡ true

parts_of : (e : ℕ × Unit {0}) (es : Order) → are_places (e ∷ es) ≡ true → Parts e es
parts_of e es h =
    let outer = and_parts (nat_lt e.0 most && not (is_named e.0 es)) (are_places es) h in
    let inner = and_parts (nat_lt e.0 most) (not (is_named e.0 es)) outer.0 in
    record { below = inner.0; apart = not_true (is_named e.0 es) inner.1; rest = outer.1 }

pub are_places-more : (i : ℕ) (es : Order) → nat_lt i most ≡ true → is_named i es ≡ false → are_places es ≡ true → are_places ((i, tt) ∷ es) ≡ true
are_places-more i es below apart rest = rw (below, apart, rest) refl

-- ---- all of 64 places

others : (i : ℕ) (es : Order) → is_named i es ≡ false → AllByRecursion (λ y. nat_eq i y ≡ false) (map (λ e. e.0) es)
others i [] h = tt
others i (e ∷ es) h = let p = or_false (nat_eq i e.0) (is_named i es) h in (p.0, others i es p.1)

distinct : (es : Order) → are_places es ≡ true → IsDistinct nat_eq (map (λ e. e.0) es)
unfolding IsDistinct
distinct [] h = tt
distinct (e ∷ es) h = let p = parts_of e es h in (others e.0 es p.apart, distinct es p.rest)

below : (es : Order) → are_places es ≡ true → (q : ℕ) → list_any (nat_eq q) (map (λ e. e.0) es) ≡ true → q < most
below [] h q named = absurd (true≢false (sym named))
below (e ∷ es) h q named =
    let p = parts_of e es h in
    (elim (nat_eq q e.0) as (λ b. nat_eq q e.0 ≡ b → (b || list_any (nat_eq q) (map (λ x. x.0) es)) ≡ true → q < most) [
      | true ↦ λ same _. subst (λ k. k < most) (sym (eqb-true q e.0 same)) (ltb-true e.0 most p.below)
      | false ↦ λ _ later. below es p.rest q later
    ]) refl named

-- 64 places that differ are all that there are
pub all_named : (i : ℕ) (es : Order) → i < most → length es ≡ most → are_places es ≡ true → is_named i es ≡ true
all_named i es within all h = go (is_named i es) refl
  where
    go : (b : Bool) → is_named i es ≡ b → is_named i es ≡ true
    go true e = e
    go false e =
        let more = (i, tt) ∷ es in
        let places = are_places-more i es (lt-ltb i most within) e h in
        let few : length (map (λ x. x.0) more) ≤ most = length-le_from_distinct_below (map (λ x. x.0) more) most (distinct more places) (below more places) in
        absurd (omega (arith, few, all, length-map es (λ x. x.0)))

-- a place that is not named has no entry
pub entry-unnamed : (i : ℕ) (es : Order) → is_named i es ≡ false → lookup_entry (nat_eq i) es ≡ None
entry-unnamed i [] h = refl
entry-unnamed i (e ∷ es) h = let p = or_false (nat_eq i e.0) (is_named i es) h in rw (p.0) (entry-unnamed i es p.1)

-- a place whose entry is found differs from one that is not named
other_place : (i j : ℕ) (es : Order) → lookup_entry (nat_eq i) es ≡ Some (i, tt) → is_named j es ≡ false → nat_eq i j ≡ false
other_place i j es found apart = ne_eqb i j (λ same. none (subst (λ k. is_named k es ≡ false) (sym same) apart))
  where
    none : is_named i es ≡ false → ⊥
    none h = true≢false (ap is_some (sym found ∙ entry-unnamed i es h))

module _ (i : ℕ) where
  named-removed : (j : ℕ) (es : Order) → is_named j es ≡ false → is_named j (remove_entry (nat_eq i) es) ≡ false
  named-removed j [] h = refl
  named-removed j (e ∷ es) h =
      let p = or_false (nat_eq j e.0) (is_named j es) h in
      (elim (nat_eq i e.0) as (λ b. is_named j (cond b es (e ∷ remove_entry (nat_eq i) es)) ≡ false) [
        | true ↦ p.1
        | false ↦ rw (p.0) (named-removed j es p.1)
      ])

  pub removed-unnamed : (es : Order) → are_places es ≡ true → is_named i (remove_entry (nat_eq i) es) ≡ false
  removed-unnamed [] h = refl
  removed-unnamed (e ∷ es) h =
      let p = parts_of e es h in
      (elim (nat_eq i e.0) as (λ b. nat_eq i e.0 ≡ b → is_named i (cond b es (e ∷ remove_entry (nat_eq i) es)) ≡ false) [
        | true ↦ λ same. let at : i ≡ e.0 = eqb-true i e.0 same in subst (λ k. is_named k es ≡ false) (sym at) p.apart
        | false ↦ λ other. rw (other) (removed-unnamed es p.rest)
      ]) refl

  places-removed : (es : Order) → are_places es ≡ true → are_places (remove_entry (nat_eq i) es) ≡ true
  places-removed [] h = refl
  places-removed (e ∷ es) h =
      let p = parts_of e es h in
      (elim (nat_eq i e.0) as (λ b. are_places (cond b es (e ∷ remove_entry (nat_eq i) es)) ≡ true) [
        | true ↦ p.rest
        | false ↦ rw (p.below, named-removed e.0 es p.apart, places-removed es p.rest) refl
      ])

  length-removed : (es : Order) → lookup_entry (nat_eq i) es ≡ Some (i, tt) → suc (length (remove_entry (nat_eq i) es)) ≡ length es
  length-removed [] found = cc
  length-removed (e ∷ es) found =
      (elim (nat_eq i e.0) as (λ b. nat_eq i e.0 ≡ b → suc (length (cond b es (e ∷ remove_entry (nat_eq i) es))) ≡ suc (length es)) [
        | true ↦ λ same. refl
        | false ↦ λ other. let later : lookup_entry (nat_eq i) es ≡ Some (i, tt) = rw (other) at found in ap suc (length-removed es later)
      ]) refl

  pub below_most : (es : Order) → are_places es ≡ true → lookup_entry (nat_eq i) es ≡ Some (i, tt) → nat_lt i most ≡ true
  below_most [] h found = cc
  below_most (e ∷ es) h found =
      let p = parts_of e es h in
      (elim (nat_eq i e.0) as (λ b. nat_eq i e.0 ≡ b → nat_lt i most ≡ true) [
        | true ↦ λ same. let at : i ≡ e.0 = eqb-true i e.0 same in subst (λ k. nat_lt k most ≡ true) (sym at) p.below
        | false ↦ λ other. let later : lookup_entry (nat_eq i) es ≡ Some (i, tt) = rw (other) at found in below_most es p.rest later
      ]) refl

  -- a place that goes to the front leaves each place named once
  pub promoted_places : (es : Order) → are_places es ≡ true → lookup_entry (nat_eq i) es ≡ Some (i, tt) → are_places (promoted (nat_eq i) es) ≡ true
  promoted_places es h found = rw (found) (are_places-more i (remove_entry (nat_eq i) es) (below_most es h found) (removed-unnamed es h) (places-removed es h))

  pub promoted_length : (es : Order) → lookup_entry (nat_eq i) es ≡ Some (i, tt) → length (promoted (nat_eq i) es) ≡ length es
  promoted_length es found = rw (found) (length-removed es found)

-- ---- the place for a new answer

module _ (slots : List (Option Answer)) where
  length-and_shown : (o : Option Answer) (as' : List Answer) (n : ℕ) → length as' ≤ n → length (and_shown o as') ≤ suc n
  length-and_shown None as' n h = omega arith
  length-and_shown (Some a) as' n h = omega arith

  length-shown : (es : Order) → length (shown slots es) ≤ length es
  length-shown [] = omega arith
  length-shown (e ∷ es) = length-and_shown (held_at slots e.0) (shown slots es) (length es) (length-shown es)

  -- the place holds nothing the longest, or is free: the others show all but the last answer of a full order
  pub record IsNext (es : Order) (n i : ℕ) : Type 0 where
    pub entry : lookup_entry (nat_eq i) es ≡ Some (i, tt)
    pub rest : shown slots (remove_entry (nat_eq i) es) ≡ take n (shown slots es)

  next-step : (e f : ℕ × Unit {0}) (es : Order) → next_place slots (e ∷ f ∷ es) ≡ cond (is_free slots e.0) e.0 (next_place slots (f ∷ es))
  next-step e f es =
      let fewer : suc (suc (length es)) - 1 ≡ suc (length es) = omega arith in
      let fewer' : suc (length es) - 1 ≡ length es = omega arith in
      (elim (is_free slots e.0) as (λ b. unwrap_or (cond b (Some e.0) (find (is_free slots) (map (λ x. x.0) (f ∷ es)))) (last_place (e ∷ f ∷ es)) ≡ cond b e.0 (next_place slots (f ∷ es))) [
        | true ↦ refl
        | false ↦ rw (fewer, fewer') refl
      ])

  free_none : (o : Option Answer) → not (is_some o) ≡ true → o ≡ None
  free_none None h = refl
  free_none (Some a) h = cc

  pub next_is : (e : ℕ × Unit {0}) (es : Order) → are_places (e ∷ es) ≡ true → IsNext (e ∷ es) (length es) (next_place slots (e ∷ es))
  next_is e [] h =
      (elim (is_free slots e.0) as (λ b. IsNext (e ∷ []) 0 (unwrap_or (cond b (Some e.0) None) e.0)) [
        | true ↦ only
        | false ↦ only
      ])
    where
      only : IsNext (e ∷ []) 0 e.0
      only = record { entry = rw (eq-eqb e.0 e.0 refl) refl; rest = rw (eq-eqb e.0 e.0 refl) refl }
  next_is e (f ∷ es) h = subst (IsNext (e ∷ f ∷ es) (length (f ∷ es))) (sym (next-step e f es)) ((elim (is_free slots e.0) as (λ b. is_free slots e.0 ≡ b → IsNext (e ∷ f ∷ es) (length (f ∷ es)) (cond b e.0 (next_place slots (f ∷ es)))) [
    | true ↦ λ free.
        let none : held_at slots e.0 ≡ None = free_none (held_at slots e.0) free in
        record {
          entry = rw (eq-eqb e.0 e.0 refl) refl;
          rest = rw (eq-eqb e.0 e.0 refl, none) (sym (take_all (length (f ∷ es)) (shown slots (f ∷ es)) (length-shown (f ∷ es))));
        }
    | false ↦ λ full.
        let p = parts_of e (f ∷ es) h in
        let on = next_is f es p.rest in
        let other = other_place (next_place slots (f ∷ es)) e.0 (f ∷ es) on.entry p.apart in
        record {
          entry = rw (other) on.entry;
          rest = rw (other) (ap (and_shown (held_at slots e.0)) on.rest ∙ pushed (held_at slots e.0) full);
        }
  ]) refl)
    where
      pushed : (o : Option Answer) → not (is_some o) ≡ false → and_shown o (take (length es) (shown slots (f ∷ es))) ≡ take (suc (length es)) (and_shown o (shown slots (f ∷ es)))
      pushed None h = cc
      pushed (Some a) h = refl

  -- a write to a place that is not named changes nothing that is shown
  untouched : (i : ℕ) (o : Option Answer) (es : Order) → is_named i es ≡ false → shown (slice_set slots i o) es ≡ shown slots es
  untouched i o [] h = refl
  untouched i o (e ∷ es) h =
      let p = or_false (nat_eq i e.0) (is_named i es) h in
      let differs : e.0 ≢ i = λ same. true≢false (sym (eq-eqb i e.0 (sym same)) ∙ p.0) in
      let same : held_at (slice_set slots i o) e.0 ≡ held_at slots e.0 = rw get_or-set_other refl in
      rw (same, untouched i o es p.1) refl

  -- an answer that is put at a place, which goes to the front
  pub shown-put : (i : ℕ) (a : Answer) (es : Order) → i < length slots → are_places es ≡ true → lookup_entry (nat_eq i) es ≡ Some (i, tt)
      → shown (slice_set slots i (Some a)) (promoted (nat_eq i) es) ≡ a ∷ shown slots (remove_entry (nat_eq i) es)
  shown-put i a es within h found =
      let here : held_at (slice_set slots i (Some a)) i ≡ Some a = rw get_or-set_same refl in
      rw (found, here) (ap (λ as'. a ∷ as') (untouched i (Some a) (remove_entry (nat_eq i) es) (removed-unnamed i es h)))

  -- of 64 places
  pub next_of : (es : Order) → length es ≡ most → are_places es ≡ true → IsNext es 63 (next_place slots es)
  next_of [] all h = absurd (omega arith)
  next_of (e ∷ es) all h =
      let rest : length es ≡ 63 = omega arith in
      subst (λ n. IsNext (e ∷ es) n (next_place slots (e ∷ es))) rest (next_is e es h)

  pub next_below : (es : Order) → length es ≡ most → are_places es ≡ true → next_place slots es < most
  next_below es all h = ltb-true (next_place slots es) most (below_most (next_place slots es) es h (next_of es all h).entry)

  -- a new answer shows first, before all but the last of 64
  pub shown-new : (a : Answer) (es : Order) → length slots ≡ most → length es ≡ most → are_places es ≡ true
      → shown (slice_set slots (next_place slots es) (Some a)) (promoted (nat_eq (next_place slots es)) es) ≡ a ∷ take 63 (shown slots es)
  shown-new a es room all h =
      let next = next_of es all h in
      let below = next_below es all h in
      shown-put (next_place slots es) a es (omega arith) h next.entry ∙ ap (λ as'. a ∷ as') next.rest
