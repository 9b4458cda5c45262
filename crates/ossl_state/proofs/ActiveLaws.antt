-- What is up once a library context has changed, and when a box may be started in one.
use Rattle.std.proofs.Common.{◌≡◌, ℕ, ◌<◌, Bool, true, false, not, ◌||◌, ◌&&◌, nat_eq, List, [], ◌∷◌, length, map, refl, sym, ◌∙◌, arith, inl, inr}
use Rattle.std.specs.List.{list_any, list_all, filter, find}
use Rattle.std.specs.Prelude.{None, Some}
use Rattle.std.specs.declared.option.Option.{Option}
use Rattle.std.specs.Option.{option_map}
use Rattle.std.proofs.lemmas.Bool.{cases_Bool, cases_eq, and_parts, eqb-true, eq-eqb, ne_eqb, true≢false, both_ways, false_from_ne_true}
use Rattle.std.proofs.Math.Bool.{or-false}
use Rattle.std.proofs.lemmas.Grind.{common_steps}
use Rattle.std.proofs.lemmas.List.{get_or-set_same, get_or-set_other}
use Rattle.std.proofs.lemmas.List.Folds.{list_any-append}
use Rattle.ossl_provider.specs.Members.{is_distinct}
use Rattle.ossl_state.specs.declared.state.Active.{Active}
use Rattle.ossl_state.specs.declared.state.Born.{Born}
use Rattle.ossl_state.specs.declared.state.LibCtx.{LibCtx}
use Rattle.ossl_state.specs.declared.state.State.{State}
use Rattle.ossl_state.specs.Sound.{is_paired, number_of_born}
use Rattle.ossl_state.specs.State.{no_lib, lib_at, with_lib, is_active, is_active_box, is_held, is_up, is_of_box, up_in}
use Rattle.ossl_state.specs.Step.{held_instance, with_active}
use Rattle.ossl_state.proofs.ListLaws.{IsAmong, any_fewer, any_witness, any_both, find_none, find_some, filters_empty}

-- one library context replaced
module _ (s : State) (l : ℕ) (lib : LibCtx) (within : l < length s.libs) where
  pub lib_at-same : lib_at (with_lib s l lib) l ≡ lib
  lib_at-same = get_or-set_same s.libs l lib no_lib within

  pub lib_at-other : (m : ℕ) → (m ≡ l → ⊥) → lib_at (with_lib s l lib) m ≡ lib_at s m
  lib_at-other m other = get_or-set_other s.libs l m lib no_lib other

  -- what holds of each order, by what holds of the new one
  pub order_after : (P : ℕ → List Active → Type 0) → P l lib.order → ((m : ℕ) → P m (lib_at s m).order) → (m : ℕ) → P m (lib_at (with_lib s l lib) m).order
  order_after P new old m = elim (cases_eq m l) [
    | inl same ↦ rw (same, lib_at-same) new
    | inr other ↦ rw (lib_at-other m other) (old m)
  ]

  -- with the order as it was, the same instances are up
  pub up_after : lib.order ≡ (lib_at s l).order → (b : Born) → is_up (with_lib s l lib) b ≡ is_up s b
  up_after same b = elim (cases_eq b.lib l) [
    | inl here ↦ rw (here, lib_at-same, same) refl
    | inr other ↦ rw (lib_at-other b.lib other) refl
  ]

  -- with an empty order, nothing more is up
  pub up_after_closing : lib.order ≡ [] → (b : Born) → is_up (with_lib s l lib) b ≡ true → is_up s b ≡ true
  up_after_closing empty b up = elim (cases_eq b.lib l) [
    | inl here ↦
        let held : is_held b.number s.live ≡ true = (rw (here, lib_at-same, empty) at up) in
        rw held (grind (arith, common_steps))
    | inr other ↦ (rw (lib_at-other b.lib other) at up)
  ]

  -- with some of the order's pairs, nothing more is up
  pub up_after_settling : (stays : Active → Bool) → lib.order ≡ filter stays (lib_at s l).order → (b : Born) → is_up (with_lib s l lib) b ≡ true → is_up s b ≡ true
  up_after_settling stays fewer b up = elim (cases_eq b.lib l) [
    | inl here ↦
        let up_here : (is_active b.number (filter stays (lib_at s l).order) || is_held b.number s.live) ≡ true = (rw (here, lib_at-same, fewer) at up) in
        rw here (either _ _ _ (any_fewer (λ (a : Active). nat_eq a.instance b.number) stays (lib_at s l).order) up_here)
    | inr other ↦ (rw (lib_at-other b.lib other) at up)
  ]
    where
      either : (a a' h : Bool) → (a ≡ true → a' ≡ true) → (a || h) ≡ true → (a' || h) ≡ true
      either true a' h f up = rw (f refl) refl
      either false a' h f up = rw up (grind (arith, common_steps))

-- the pair of a box and an instance at the end of an order
module _ (s : State) (l k n : ℕ) (within : l < length s.libs) where
  -- that instance is up too, if it was started in that library context
  pub up_active : (b : Born) → is_up (with_active s l k n) b ≡ (is_up s b || (nat_eq b.lib l && nat_eq n b.number))
  up_active b = elim (cases_eq b.lib l) [
    | inl here ↦
        rw (here, lib_at-same s l _ within, list_any-append (λ a. nat_eq a.instance b.number) (lib_at s l).order (record { place = k; instance = n } ∷ []), eq-eqb l l refl)
        (grind (arith, common_steps))
    | inr other ↦ rw (lib_at-other s l _ within b.lib other, ne_eqb b.lib l other) (grind (arith, common_steps))
  ]

  -- an instance that a live element holds was up before
  pub up_active-held : is_held n s.live ≡ true → (b : Born) → is_up (with_active s l k n) b ≡ is_up s b
  up_active-held held b = up_active b ∙ elim (cases_Bool (nat_eq n b.number)) [
    | inl same ↦ rw (same, ← eqb-true n b.number same, held) (grind (arith, common_steps))
    | inr other ↦ rw other (grind (arith, common_steps))
  ]

  -- an instance of another number is as it was
  pub up_active-other : (b : Born) → nat_eq n b.number ≡ false → is_up (with_active s l k n) b ≡ is_up s b
  up_active-other b other = up_active b ∙ rw other (grind (arith, common_steps))

  -- the instance itself is up
  pub up_active-itself : (b : Born) → b.lib ≡ l → b.number ≡ n → is_up (with_active s l k n) b ≡ true
  up_active-itself b here same = up_active b ∙ rw (here, same, eq-eqb l l refl, eq-eqb n n refl) (grind (arith, common_steps))

-- a held instance is one of the box, is held, and was started in that library context
pub held_is : (s : State) (l k n : ℕ) → held_instance s l k ≡ Some n → (is_held n s.live ≡ true) × (list_any (λ b. nat_eq b.number n && nat_eq b.place k && nat_eq b.lib l) s.born ≡ true)
held_is s l k n e = found (find (λ b. nat_eq b.lib l && nat_eq b.place k && is_held b.number s.live) s.born) refl e
  where
    found : (o : Option Born) → find (λ b. nat_eq b.lib l && nat_eq b.place k && is_held b.number s.live) s.born ≡ o → option_map (λ (b : Born). b.number) o ≡ Some n →
        (is_held n s.live ≡ true) × (list_any (λ b. nat_eq b.number n && nat_eq b.place k && nat_eq b.lib l) s.born ≡ true)
    found None is none = cc
    found (Some b) is some =
        let same : b.number ≡ n = cc in
        let what = find_some (λ b. nat_eq b.lib l && nat_eq b.place k && is_held b.number s.live) s.born b is in
        let outer = and_parts (nat_eq b.lib l && nat_eq b.place k) (is_held b.number s.live) what.0 in
        let inner = and_parts (nat_eq b.lib l) (nat_eq b.place k) outer.0 in
        (rw (← same) outer.1, what.1 (λ b'. nat_eq b'.number n && nat_eq b'.place k && nat_eq b'.lib l) (rw (same, eq-eqb n n refl, inner.1, inner.0) refl))

pub held_none : (s : State) (l k : ℕ) → held_instance s l k ≡ None → list_any (λ b. nat_eq b.lib l && nat_eq b.place k && is_held b.number s.live) s.born ≡ false
held_none s l k e = found (find (λ b. nat_eq b.lib l && nat_eq b.place k && is_held b.number s.live) s.born) refl e
  where
    found : (o : Option Born) → find (λ b. nat_eq b.lib l && nat_eq b.place k && is_held b.number s.live) s.born ≡ o → option_map (λ (b : Born). b.number) o ≡ None →
        list_any (λ b. nat_eq b.lib l && nat_eq b.place k && is_held b.number s.live) s.born ≡ false
    found None is none = find_none _ s.born is
    found (Some b) is some = cc

-- an active instance of a box that is not active is another box's
active_elsewhere : (born : List Born) (l : ℕ) (order : List Active) (k n : ℕ) → list_all (is_paired born l) order ≡ true → is_active_box k order ≡ false → is_active n order ≡ true →
    list_any (λ b. nat_eq b.number n && not (nat_eq b.place k)) born ≡ true
active_elsewhere born l [] k n paired absent active = absurd (true≢false (sym active))
active_elsewhere born l (a ∷ order) k n paired absent active =
    let parts = and_parts (is_paired born l a) (list_all (is_paired born l) order) paired in
    let here : nat_eq a.place k ≡ false = grind (arith, common_steps) in
    let later : is_active_box k order ≡ false = grind (arith, common_steps) in
    elim (cases_Bool (nat_eq a.instance n)) [
      | inl same ↦
          let w = any_witness (λ b. nat_eq b.number a.instance && nat_eq b.place a.place && nat_eq b.lib l) born parts.0 in
          let outer = and_parts (nat_eq w.0.number a.instance && nat_eq w.0.place a.place) (nat_eq w.0.lib l) w.1 in
          let of_it = and_parts (nat_eq w.0.number a.instance) (nat_eq w.0.place a.place) outer.0 in
          w.2 (λ b. nat_eq b.number n && not (nat_eq b.place k))
          (rw (eqb-true w.0.place a.place of_it.1, here, eqb-true w.0.number a.instance of_it.0, same) refl)
      | inr other ↦ active_elsewhere born l order k n parts.1 later (rw other at active)
    ]

-- a box that is neither active in a library context nor held there has no instance up in it
module _ (s : State) (l k : ℕ) (distinct : is_distinct (map number_of_born s.born) ≡ true) (paired : list_all (is_paired s.born l) (lib_at s l).order ≡ true)
    (absent : is_active_box k (lib_at s l).order ≡ false) (none : held_instance s l k ≡ None) where
  not_up : (b : Born) → IsAmong s.born b → b.lib ≡ l → b.place ≡ k → is_up s b ≡ true → ⊥
  not_up b among here of_box up = elim (cases_Bool (is_held b.number s.live)) [
    | inl held ↦
        both_ways _ (held_none s l k none) (among (λ b. nat_eq b.lib l && nat_eq b.place k && is_held b.number s.live) (rw (here, of_box, eq-eqb l l refl, eq-eqb k k refl, held) refl))
    | inr free ↦
        let active : is_active b.number (lib_at s l).order ≡ true = (rw (here, free, or-false) at up) in
        let elsewhere = active_elsewhere s.born l (lib_at s l).order k b.number paired absent active in
        let at_box = among (λ b'. nat_eq b'.number b.number && nat_eq b'.place k) (rw (eq-eqb b.number b.number refl, of_box, eq-eqb k k refl) refl) in
        let w = any_witness _ s.born (any_both number_of_born b.number (λ b'. not (nat_eq b'.place k)) (λ b'. nat_eq b'.place k) s.born distinct elsewhere at_box) in
        clash (nat_eq w.0.number b.number) (nat_eq w.0.place k) w.1
  ]
    where
      clash : (m p : Bool) → (m && (not p && p)) ≡ true → ⊥
      clash true true h = true≢false (sym h)
      clash true false h = true≢false (sym h)
      clash false p h = true≢false (sym h)

  pub nothing_up : up_in s l k ≡ []
  nothing_up = filters_empty (λ b. nat_eq b.lib l) (is_of_box k) (is_up s) s.born (false_from_ne_true _ (λ some.
      let w = any_witness (λ b. nat_eq b.lib l && is_of_box k b && is_up s b) s.born some in
      let outer = and_parts (nat_eq w.0.lib l && is_of_box k w.0) (is_up s w.0) w.1 in
      let inner = and_parts (nat_eq w.0.lib l) (is_of_box k w.0) outer.0 in
      not_up w.0 w.2 (eqb-true w.0.lib l inner.0) (eqb-true w.0.place k inner.1) outer.1))
