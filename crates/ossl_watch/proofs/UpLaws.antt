-- An instance is up exactly while something uses it.
use Rattle.std.proofs.Common.{◌≡◌, ℕ, ◌+◌, ◌<◌, Bool, true, false, not, ◌||◌, ◌&&◌, nat_eq, List, [], ◌∷◌, length, map, refl, sym, ◌∙◌, ap, arith, cond, inl, inr}
use Rattle.std.specs.List.{list_any, list_all, filter, count_by}
use Rattle.std.specs.Prelude.{None, Some}
use Rattle.std.specs.declared.option.Option.{Option}
use Rattle.std.proofs.lemmas.Bool.{cases_Bool, and_parts, both_ways, eqb-true, eq-eqb, ne_eqb, true≢false}
use Rattle.ossl_provider.specs.Members.{is_distinct, is_in}
use Rattle.ossl_provider.specs.Sheet.{Facts}
use Rattle.ossl_state.specs.declared.state.Active.{Active}
use Rattle.ossl_state.specs.declared.state.Born.{Born}
use Rattle.ossl_state.specs.declared.state.Given.{Given}
use Rattle.ossl_state.specs.declared.state.LibCtx.{LibCtx}
use Rattle.ossl_state.specs.declared.state.Live.{Live}
use Rattle.ossl_state.specs.declared.state.State.{State}
use Rattle.ossl_state.specs.Boxes.{place_of, default_name}
use Rattle.ossl_state.specs.History.{Fixed}
use Rattle.ossl_state.specs.Ordered.{IsOrderedLib, is_active_at}
use Rattle.ossl_state.specs.Sound.{HasSoundInstances, is_paired, lib_of_born, number_of_born}
use Rattle.ossl_state.specs.State.{is_active, is_active_box, is_held, is_of_box, is_up, lib_at, up_instances}
use Rattle.ossl_state.specs.Step.{is_kept, is_used, kept_of, stays_active}
use Rattle.ossl_state.proofs.ListLaws.{IsAmong, all_at_among, any_both, any_more, any_witness}
use Rattle.ossl_watch.specs.Watched as watched
use Rattle.ossl_watch.specs.Watching.{activations_in, kept_count, running_of}
use Rattle.ossl_watch.proofs.CountLaws.{among_filtered, among_kept, count_any}

-- two tests that imply each other
pub both_imply : (a b : Bool) → (a ≡ true → b ≡ true) → (b ≡ true → a ≡ true) → a ≡ b
both_imply true b f g = sym (f refl)
both_imply false true f g = g refl
both_imply false false f g = refl

clash : (m p : Bool) → (m && (p && not p)) ≡ true → ⊥
clash true true h = true≢false (sym h)
clash true false h = true≢false (sym h)
clash false p h = true≢false (sym h)

-- what holds of an element of some number holds of each one of that number
pub of_number : {X : Type 0} (f : X → ℕ) (xs : List X) (x : X) (q : X → Bool) → is_distinct (map f xs) ≡ true → IsAmong xs x →
    list_any (λ y. nat_eq (f y) (f x) && q y) xs ≡ true → q x ≡ true
of_number f xs x q d among some = elim (cases_Bool (q x)) [
  | inl holds ↦ holds
  | inr fails ↦
      let mine = among (λ y. nat_eq (f y) (f x) && not (q y)) (rw (eq-eqb (f x) (f x) refl, fails) refl) in
      let w = any_witness _ xs (any_both f (f x) q (λ y. not (q y)) xs d some mine) in
      absurd (clash (nat_eq (f w.0) (f x)) (q w.0) w.1)
]

-- of one box one instance is up in a library context
pub same_seat : (fixed : Fixed) (n : ℕ) (s : State) → HasSoundInstances fixed n s → (b c : Born) → IsAmong (up_instances s) b → IsAmong (up_instances s) c →
    b.place ≡ c.place → b.lib ≡ c.lib → b.number ≡ c.number
same_seat fixed n s h b c among other place lib =
    let us = filter (is_of_box b.place) (up_instances s) in
    let b_in = among_kept (is_of_box b.place) (up_instances s) b among (eq-eqb b.place b.place refl) in
    let c_in = among_kept (is_of_box b.place) (up_instances s) c other (eq-eqb c.place b.place (sym place)) in
    let mine = b_in (λ x. nat_eq x.lib b.lib && nat_eq x.number b.number) (rw (eq-eqb b.lib b.lib refl, eq-eqb b.number b.number refl) refl) in
    let its = c_in (λ x. nat_eq x.lib b.lib && nat_eq x.number c.number) (rw (eq-eqb c.lib b.lib (sym lib), eq-eqb c.number c.number refl) refl) in
    let w = any_witness _ us (any_both lib_of_born b.lib (λ x. nat_eq x.number b.number) (λ x. nat_eq x.number c.number) us (h.single b.place) mine its) in
    let outer = and_parts (nat_eq w.0.lib b.lib) (nat_eq w.0.number b.number && nat_eq w.0.number c.number) w.1 in
    let inner = and_parts (nat_eq w.0.number b.number) (nat_eq w.0.number c.number) outer.1 in
    sym (eqb-true w.0.number b.number inner.0) ∙ eqb-true w.0.number c.number inner.1

-- a sum is not 0 where a part of it is not
sum_left : (m n : ℕ) → not (nat_eq m 0) ≡ true → not (nat_eq (m + n) 0) ≡ true
sum_left m n h = ap not (ne_eqb (m + n) 0 (λ e. let z : m ≡ 0 = omega arith in true≢false (sym h ∙ ap (λ x. not (nat_eq x 0)) z)))

sum_right : (m n : ℕ) → not (nat_eq n 0) ≡ true → not (nat_eq (m + n) 0) ≡ true
sum_right m n h = ap not (ne_eqb (m + n) 0 (λ e. let z : n ≡ 0 = omega arith in true≢false (sym h ∙ ap (λ x. not (nat_eq x 0)) z)))

-- nothing is counted where nothing passes
pub count_zero : {X : Type 0} (p : X → Bool) (xs : List X) → list_any p xs ≡ false → count_by p xs ≡ 0
count_zero p xs none = zero (count_by p xs) (count_any p xs ∙ none)
  where
    zero : (n : ℕ) → not (nat_eq n 0) ≡ false → n ≡ 0
    zero n h = elim (cases_Bool (nat_eq n 0)) [
      | inl is ↦ eqb-true n 0 is
      | inr other ↦ let bad : true ≡ false = (rw other at h) in absurd (true≢false bad)
    ]

sum_zero : {m n : ℕ} → m ≡ 0 → n ≡ 0 → m + n ≡ 0
sum_zero p q = rw (p, q) refl

module _ (facts : List Facts) (s : State) (born : List Born) (distinct : is_distinct (map number_of_born born) ≡ true)
    (paired : (l : ℕ) → list_all (is_paired born l) (lib_at s l).order ≡ true) (ordered : (l : ℕ) → IsOrderedLib facts (lib_at s l)) where
  -- an active instance is one of the box of its pair
  active_pair : (b : Born) → IsAmong born b → is_active b.number (lib_at s b.lib).order ≡ true →
      (a : Active) × (a.place ≡ b.place) × IsAmong (lib_at s b.lib).order a
  active_pair b among active =
      let w = any_witness (λ (a : Active). nat_eq a.instance b.number) (lib_at s b.lib).order active in
      let pair = all_at_among (is_paired born b.lib) (lib_at s b.lib).order w.0 (paired b.lib) w.2 in
      let mine = any_more (λ (x : Born). nat_eq x.number w.0.instance && nat_eq x.place w.0.place && nat_eq x.lib b.lib) (λ x. nat_eq x.number b.number && nat_eq x.place w.0.place)
      (λ x p.
      let outer = and_parts (nat_eq x.number w.0.instance && nat_eq x.place w.0.place) (nat_eq x.lib b.lib) p in
      let inner = and_parts (nat_eq x.number w.0.instance) (nat_eq x.place w.0.place) outer.0 in
      rw (eq-eqb x.number b.number (eqb-true x.number w.0.instance inner.0 ∙ eqb-true w.0.instance b.number w.1), inner.1) refl) born pair in
      (w.0, sym (eqb-true b.place w.0.place (of_number number_of_born born b (λ x. nat_eq x.place w.0.place) distinct among mine)), w.2)

  -- its provider has an activation, or the fallback keeps it
  active_counts : (b : Born) → IsAmong born b → is_active b.number (lib_at s b.lib).order ≡ true →
      not (nat_eq (activations_in facts (lib_at s b.lib) b.place) 0) ≡ true
  active_counts b among active =
      let lib = lib_at s b.lib in
      let pair = active_pair b among active in
      let stays = all_at_among (stays_active (kept_of facts lib) lib.given) lib.order pair.0 (ordered b.lib).kept pair.2 in
      by lib.is_open refl (list_any (λ (g : Given). nat_eq g.place b.place) lib.given) (is_kept (kept_of facts lib) b.place) refl refl (rw pair.1 at stays)
    where
      by : (opened : Bool) → (lib_at s b.lib).is_open ≡ opened → (given kept : Bool) → list_any (λ (g : Given). nat_eq g.place b.place) (lib_at s b.lib).given ≡ given →
          is_kept (kept_of facts (lib_at s b.lib)) b.place ≡ kept → (given || kept) ≡ true → not (nat_eq (activations_in facts (lib_at s b.lib) b.place) 0) ≡ true
      by false is given kept some keeps h =
          let none = ((ordered b.lib).closed is).0 in
          let bad : false ≡ true = ap (is_active b.number) (sym none) ∙ active in
          absurd (true≢false (sym bad))
      by true is true kept some keeps h =
          sum_left (count_by (λ (g : Given). nat_eq g.place b.place) (lib_at s b.lib).given) (kept_count facts (lib_at s b.lib) b.place)
          (count_any (λ (g : Given). nat_eq g.place b.place) (lib_at s b.lib).given ∙ some)
      by true is false true some keeps h =
          sum_right (count_by (λ (g : Given). nat_eq g.place b.place) (lib_at s b.lib).given) (kept_count facts (lib_at s b.lib) b.place) (rw (is, keeps) refl)
      by true is false false some keeps h = absurd (true≢false (sym h))

  -- a box with an activation is active
  pub counts_box : (l k : ℕ) → not (nat_eq (activations_in facts (lib_at s l) k) 0) ≡ true → is_active_box k (lib_at s l).order ≡ true
  counts_box l k some =
      let lib = lib_at s l in
      by (list_any (λ (g : Given). nat_eq g.place k) lib.given) refl lib.is_open refl (is_kept (kept_of facts lib) k) refl
    where
      kept_active : (used : Bool) → is_used (lib_at s l).fallback ≡ used → (o : Option ℕ) → place_of default_name facts ≡ o → is_kept (cond used o None) k ≡ true →
          (lib_at s l).is_open ≡ true → is_active_box k (lib_at s l).order ≡ true
      kept_active true used (Some j) found keeps opened =
          let active : is_active_at (Some j) (lib_at s l).order ≡ true = ap (λ o. is_active_at o (lib_at s l).order) (sym found) ∙ (ordered l).fallback opened used in
          rw (← eqb-true j k keeps) active
      kept_active true used None found keeps opened = absurd (true≢false (sym keeps))
      kept_active false used o found keeps opened = absurd (true≢false (sym keeps))

      by : (given : Bool) → list_any (λ (g : Given). nat_eq g.place k) (lib_at s l).given ≡ given → (opened : Bool) → (lib_at s l).is_open ≡ opened →
          (kept : Bool) → is_kept (kept_of facts (lib_at s l)) k ≡ kept → is_active_box k (lib_at s l).order ≡ true
      by true has opened is kept keeps =
          let w = any_witness (λ (g : Given). nat_eq g.place k) (lib_at s l).given has in
          let active = all_at_among (λ (g : Given). is_active_box g.place (lib_at s l).order) (lib_at s l).given w.0 (ordered l).given w.2 in
          rw (← eqb-true w.0.place k w.1) active
      by false has true is true keeps = kept_active (is_used (lib_at s l).fallback) refl (place_of default_name facts) refl keeps is
      by false has true is false keeps = absurd (none (rw (is, keeps) refl))
        where
          none : kept_count facts (lib_at s l) k ≡ 0 → ⊥
          none zero = both_ways _ (ap not (eq-eqb _ 0 (sum_zero (count_zero (λ (g : Given). nat_eq g.place k) (lib_at s l).given has) zero))) some
      by false has false is kept keeps = absurd (none (rw is refl))
        where
          none : kept_count facts (lib_at s l) k ≡ 0 → ⊥
          none zero = both_ways _ (ap not (eq-eqb _ 0 (sum_zero (count_zero (λ (g : Given). nat_eq g.place k) (lib_at s l).given has) zero))) some

  -- and its instance is up, where no more are up than before, and it was up then
  pub counts_active : (fixed : Fixed) (n : ℕ) (before : State) → HasSoundInstances fixed n before → before.born ≡ born →
      ((x : Born) → is_up s x ≡ true → is_up before x ≡ true) → (b : Born) → IsAmong (up_instances before) b →
      not (nat_eq (activations_in facts (lib_at s b.lib) b.place) 0) ≡ true → is_active b.number (lib_at s b.lib).order ≡ true
  counts_active fixed n before h same fewer b among some =
      let box = counts_box b.lib b.place some in
      let a = any_witness (λ (a : Active). nat_eq a.place b.place) (lib_at s b.lib).order box in
      let pair = all_at_among (is_paired born b.lib) (lib_at s b.lib).order a.0 (paired b.lib) a.2 in
      let x = any_witness (λ (x : Born). nat_eq x.number a.0.instance && nat_eq x.place a.0.place && nat_eq x.lib b.lib) born pair in
      let outer = and_parts (nat_eq x.0.number a.0.instance && nat_eq x.0.place a.0.place) (nat_eq x.0.lib b.lib) x.1 in
      let inner = and_parts (nat_eq x.0.number a.0.instance) (nat_eq x.0.place a.0.place) outer.0 in
      let lib : x.0.lib ≡ b.lib = eqb-true x.0.lib b.lib outer.1 in
      let number : x.0.number ≡ a.0.instance = eqb-true x.0.number a.0.instance inner.0 in
      let place : x.0.place ≡ b.place = eqb-true x.0.place a.0.place inner.1 ∙ eqb-true a.0.place b.place a.1 in
      let active : is_active x.0.number (lib_at s x.0.lib).order ≡ true =
      ap (λ m. is_active x.0.number (lib_at s m).order) lib ∙ a.2 (λ (y : Active). nat_eq y.instance x.0.number) (eq-eqb a.0.instance x.0.number (sym number)) in
      let up : is_up s x.0 ≡ true = rw active refl in
      let there : IsAmong before.born x.0 = rw same x.2 in
      let was = among_kept (is_up before) before.born x.0 there (fewer x.0 up) in
      let seat = same_seat fixed n before h x.0 b was among place lib in
      a.2 (λ (y : Active). nat_eq y.instance b.number) (eq-eqb a.0.instance b.number (sym number ∙ seat))

  -- an instance that was up is up exactly while something uses it
  pub up_used : (fixed : Fixed) (n : ℕ) (before : State) → HasSoundInstances fixed n before → before.born ≡ born →
      ((x : Born) → is_up s x ≡ true → is_up before x ≡ true) → (b : Born) → IsAmong (up_instances before) b →
      is_up s b ≡ watched.is_used (running_of facts s b)
  up_used fixed n before h same fewer b among =
      let there : IsAmong born b = rw (← same) (among_filtered (is_up before) before.born b among).0 in
      let active = both_imply (is_active b.number (lib_at s b.lib).order) (not (nat_eq (activations_in facts (lib_at s b.lib) b.place) 0))
      (active_counts b there) (counts_active fixed n before h same fewer b among) in
      let held = count_any (λ (x : Live). is_in b.number x.held) s.live in
      rw (active, held) refl
