-- A box that becomes active: what is up then, and by what.
use Rattle.std.proofs.Common.{◌≡◌, ℕ, ◌<◌, Bool, true, false, not, ◌||◌, ◌&&◌, nat_eq, nat_lt, List, [], ◌∷◌, ◌++◌, length, map, refl, sym, ◌∙◌, ap, arith, cond, append-nil, inl, inr}
use Rattle.std.proofs.Math.ListN.{length-set}
use Rattle.std.specs.List.{list_any, list_all, filter, count_by}
use Rattle.std.specs.Prelude.{None, Some}
use Rattle.std.specs.declared.option.Option.{Option}
use Rattle.std.proofs.lemmas.Bool.{cases_Bool, cases_eq, and_parts, both_ways, eqb-true, eq-eqb, ne_eqb, ltb-true, true≢false, false_from_ne_true}
use Rattle.std.proofs.lemmas.List.{map-append}
use Rattle.ossl_provider.specs.Members.{is_in}
use Rattle.ossl_provider.specs.Sheet.{Facts}
use Rattle.ossl_state.specs.declared.state.Active.{Active}
use Rattle.ossl_state.specs.declared.state.Born.{Born}
use Rattle.ossl_state.specs.declared.state.Live.{Live}
use Rattle.ossl_state.specs.declared.state.State.{State}
use Rattle.ossl_state.specs.History.{Fixed}
use Rattle.ossl_state.specs.Ordered.{IsOrdered, IsOrderedLib, is_born}
use Rattle.ossl_state.specs.Sound.{HasSoundInstances, is_paired}
use Rattle.ossl_state.specs.State.{is_active, is_active_box, is_held, is_of_box, is_up, lib_at, up_in, up_instances}
use Rattle.ossl_state.specs.Step.{after_activation, grouped_of, held_instance, joined_of, new_instance, offer_of, with_active, with_born, with_groups}
use Rattle.ossl_state.proofs.ActiveLaws.{held_is, nothing_up}
use Rattle.ossl_state.proofs.HistoryLaws.{after_activation-live}
use Rattle.ossl_state.proofs.ListLaws.{IsAmong, all_at_among, any_witness}
use Rattle.ossl_state.proofs.OrderLaws.{activation_lib, activation_other}
use Rattle.ossl_state.proofs.SoundLaws.{up_instances-born, up_instances-held, up_instances-order}
use Rattle.ossl_watch.specs.Watched.{born_at, has_box, is_box_of, with_box}
use Rattle.ossl_watch.specs.Watching.{activations_in, holders_in, running_in, running_of}
use Rattle.ossl_watch.proofs.CountLaws.{among_kept, any-map, count_any, map-same}
use Rattle.ossl_watch.proofs.UpLaws.{counts_box, count_zero}

or_right : (a b : Bool) → b ≡ true → (a || b) ≡ true
or_right true b h = refl
or_right false b h = h

-- nothing passes both tests where nothing is left of two filters
any_empty : {X : Type 0} (p q : X → Bool) (xs : List X) → filter p (filter q xs) ≡ [] → list_any (λ x. p x && q x) xs ≡ false
any_empty p q [] h = refl
any_empty p q (x ∷ xs) h = elim (cases_Bool (q x)) [
  | inl passes ↦ elim (cases_Bool (p x)) [
    | inl too ↦ let some = (rw (passes, too) at h) in cc
    | inr fails ↦ rw (passes, fails) (any_empty p q xs (rw (passes, fails) at h))
  ]
  | inr misses ↦ rw (misses, and_false (p x)) (any_empty p q xs (rw misses at h))
]
  where
    and_false : (b : Bool) → (b && false) ≡ false
    and_false true = refl
    and_false false = refl

-- what nothing but the library contexts and the live elements decides
pub alike : (facts : List Facts) (s left : State) →
    ((m : ℕ) → ((lib_at left m).given ≡ (lib_at s m).given) × ((lib_at left m).is_open ≡ (lib_at s m).is_open) × ((lib_at left m).fallback ≡ (lib_at s m).fallback)) →
    left.live ≡ s.live → (b : Born) → running_of facts left b ≡ running_of facts s b
alike facts s left libs live b = let lib = libs b.lib in rw (lib.0, lib.1, lib.2, live) refl

module _ (facts : List Facts) (s : State) (l k : ℕ) (within : l < length s.libs) where
  pub activation_libs : (m : ℕ) →
      ((lib_at (after_activation facts s l k) m).given ≡ (lib_at s m).given)
      × ((lib_at (after_activation facts s l k) m).is_open ≡ (lib_at s m).is_open)
      × ((lib_at (after_activation facts s l k) m).fallback ≡ (lib_at s m).fallback)
  activation_libs m = elim (cases_eq m l) [
    | inl same ↦ let a = activation_lib facts s l k within in rw same (a.given, a.is_open, a.fallback)
    | inr other ↦ let as_was = activation_other facts s l k m other within in
        (ap (λ (lib : _). lib.given) as_was, ap (λ (lib : _). lib.is_open) as_was, ap (λ (lib : _). lib.fallback) as_was)
  ]

  activation_each : (b : Born) → running_of facts (after_activation facts s l k) b ≡ running_of facts s b
  activation_each = alike facts s (after_activation facts s l k) activation_libs (after_activation-live facts s l k).0

  -- the box has an instance that is up
  has_up : (x : Born) → IsAmong s.born x → is_up s x ≡ true → x.lib ≡ l → x.place ≡ k → has_box l k (running_in facts s) ≡ true
  has_up x among up here mine =
      any-map (is_box_of l k) (running_of facts s) (up_instances s)
      ∙ among_kept (is_up s) s.born x among up (λ b. nat_eq b.lib l && nat_eq b.place k) (rw (eq-eqb x.lib l here, eq-eqb x.place k mine) refl)

  module _ (fixed : Fixed) (h : HasSoundInstances fixed s.next s) (ordered : IsOrdered facts s) where
    has_active : is_active_box k (lib_at s l).order ≡ true → has_box l k (running_in facts s) ≡ true
    has_active active =
        let a = any_witness (λ (a : Active). nat_eq a.place k) (lib_at s l).order active in
        let pair = all_at_among (is_paired s.born l) (lib_at s l).order a.0 (h.paired l) a.2 in
        let x = any_witness (λ (x : Born). nat_eq x.number a.0.instance && nat_eq x.place a.0.place && nat_eq x.lib l) s.born pair in
        let outer = and_parts (nat_eq x.0.number a.0.instance && nat_eq x.0.place a.0.place) (nat_eq x.0.lib l) x.1 in
        let inner = and_parts (nat_eq x.0.number a.0.instance) (nat_eq x.0.place a.0.place) outer.0 in
        let lib : x.0.lib ≡ l = eqb-true x.0.lib l outer.1 in
        let number : x.0.number ≡ a.0.instance = eqb-true x.0.number a.0.instance inner.0 in
        let active_here : is_active x.0.number (lib_at s x.0.lib).order ≡ true =
        ap (λ m. is_active x.0.number (lib_at s m).order) lib ∙ a.2 (λ (y : Active). nat_eq y.instance x.0.number) (eq-eqb a.0.instance x.0.number (sym number)) in
        has_up x.0 x.2 (rw active_here refl) lib (eqb-true x.0.place a.0.place inner.1 ∙ eqb-true a.0.place k a.1)

    has_held : (n : ℕ) → held_instance s l k ≡ Some n → has_box l k (running_in facts s) ≡ true
    has_held n found =
        let held = held_is s l k n found in
        let x = any_witness (λ (x : Born). nat_eq x.number n && nat_eq x.place k && nat_eq x.lib l) s.born held.1 in
        let outer = and_parts (nat_eq x.0.number n && nat_eq x.0.place k) (nat_eq x.0.lib l) x.1 in
        let inner = and_parts (nat_eq x.0.number n) (nat_eq x.0.place k) outer.0 in
        let held_here : is_held x.0.number s.live ≡ true = ap (λ m. is_held m s.live) (eqb-true x.0.number n inner.0) ∙ held.0 in
        has_up x.0 x.2 (or_right (is_active x.0.number (lib_at s x.0.lib).order) (is_held x.0.number s.live) held_here) (eqb-true x.0.lib l outer.1) (eqb-true x.0.place k inner.1)

    has_none : is_active_box k (lib_at s l).order ≡ false → held_instance s l k ≡ None → has_box l k (running_in facts s) ≡ false
    has_none absent none =
        any-map (is_box_of l k) (running_of facts s) (up_instances s)
        ∙ any_empty (λ (b : Born). nat_eq b.lib l) (is_of_box k) (up_instances s) (nothing_up s l k h.distinct (h.paired l) absent none)

    -- nothing holds an instance that was not born
    unheld : is_held s.next s.live ≡ false
    unheld = false_from_ne_true (is_held s.next s.live) (λ some.
        let x = any_witness (λ (x : Live). is_in s.next x.held) s.live some in
        let all = all_at_among (λ (x : Live). list_all (is_born s.born) x.held) s.live x.0 ordered.held x.2 in
        let i = any_witness (λ (i : ℕ). nat_eq i s.next) x.0.held x.1 in
        let born = all_at_among (is_born s.born) x.0.held i.0 all i.2 in
        let b = any_witness (λ (b : Born). nat_eq b.number i.0) s.born born in
        let less = all_at_among (λ (b : Born). nat_lt b.number s.next) s.born b.0 h.below b.2 in
        let below : b.0.number < s.next = ltb-true b.0.number s.next less in
        let same : b.0.number ≡ s.next = eqb-true b.0.number i.0 b.1 ∙ eqb-true i.0 s.next i.1 in
        omega arith)

    -- an instance that is born is used by nothing so far
    born_alone : is_active_box k (lib_at s l).order ≡ false → running_of facts s (new_instance facts s l k) ≡ born_at s.next l k
    born_alone absent = rw (no_activation (nat_eq (activations_in facts (lib_at s l) k) 0) refl, count_zero (λ (x : Live). is_in s.next x.held) s.live unheld) refl
      where
        no_activation : (b : Bool) → nat_eq (activations_in facts (lib_at s l) k) 0 ≡ b → activations_in facts (lib_at s l) k ≡ 0
        no_activation true is = eqb-true (activations_in facts (lib_at s l) k) 0 is
        no_activation false some =
            absurd (both_ways (is_active_box k (lib_at s l).order) absent (counts_box facts s s.born h.distinct h.paired ordered.libs l k (ap not some)))

    -- the instances that are up: one more where none of the box was
    pub activation_running : running_in facts (after_activation facts s l k) ≡ with_box s.next l k (running_in facts s)
    activation_running = by (is_active_box k (lib_at s l).order) refl (held_instance s l k) refl
      where
        left : State
        left = after_activation facts s l k

        as_was : up_instances left ≡ up_instances s → has_box l k (running_in facts s) ≡ true → running_in facts left ≡ with_box s.next l k (running_in facts s)
        as_was up has = ap (map (running_of facts left)) up ∙ map-same (running_of facts left) (running_of facts s) (up_instances s) (λ b among. activation_each b) ∙ rw has refl

        by : (active : Bool) → is_active_box k (lib_at s l).order ≡ active → (o : Option ℕ) → held_instance s l k ≡ o →
            running_in facts left ≡ with_box s.next l k (running_in facts s)
        by true active o found = as_was (rw active refl) (has_active active)
        by false absent (Some n) found =
            as_was (rw (absent, found) (up_instances-held s l k n within (held_is s l k n found).0)) (has_held n found)
        by false absent None none =
            let groups = (offer_of facts s l k).groups in
            let g = with_groups s l groups in
            let b = new_instance facts s l k in
            let there : l < length g.libs = omega (arith, within, length-set s.libs l (grouped_of (lib_at s l) groups)) in
            let more : up_instances left ≡ up_instances s ++ b ∷ [] =
            rw (absent, none) (up_instances-born g l k b there refl refl h.below ∙ ap (λ us. us ++ b ∷ []) (up_instances-order s l (grouped_of (lib_at s l) groups) within refl)) in
            ap (map (running_of facts left)) more
            ∙ map-same (running_of facts left) (running_of facts s) (up_instances s ++ b ∷ []) (λ x among. activation_each x)
            ∙ map-append (running_of facts s) (up_instances s) (b ∷ [])
            ∙ ap (λ r. running_in facts s ++ r ∷ []) (born_alone absent)
            ∙ rw (has_none absent none) refl
