-- What keeps instances up, through each kind of change of a state.
use Rattle.std.proofs.Common.{◌≡◌, ℕ, ◌+◌, ◌-◌, ◌<◌, Bool, true, false, not, ◌||◌, ◌&&◌, nat_eq, nat_lt, List, [], ◌∷◌, ◌++◌, length, map, refl, sym, ◌∙◌, ap, arith, cond, inl, inr}
use Rattle.std.proofs.Math.ListN.{length-set}
use Rattle.std.specs.List.{list_any, list_all, filter, find, count_by}
use Rattle.std.specs.Prelude.{None, Some}
use Rattle.std.specs.declared.option.Option.{Option}
use Rattle.std.proofs.lemmas.Bool.{cases_Bool, cases_eq, and_parts, both_ways, eqb-true, eq-eqb, ne_eqb, ltb-true, true≢false, true_from_ne_false, false_from_ne_true}
use Rattle.std.proofs.lemmas.List.{map-append}
use Rattle.ossl_provider.specs.Members.{is_distinct, is_in}
use Rattle.ossl_provider.specs.Sheet.{Facts}
use Rattle.ossl_state.specs.declared.state.Active.{Active}
use Rattle.ossl_state.specs.declared.state.Born.{Born}
use Rattle.ossl_state.specs.declared.state.Fallback.{Fallback}
use Rattle.ossl_state.specs.declared.state.Fallback.TheVariants.{Armed, Off, Used}
use Rattle.ossl_state.specs.declared.state.Given.{Given}
use Rattle.ossl_state.specs.declared.state.LibCtx.{LibCtx}
use Rattle.ossl_state.specs.declared.state.Live.{Live}
use Rattle.ossl_state.specs.declared.state.State.{State}
use Rattle.ossl_state.specs.Boxes.{place_of, default_name}
use Rattle.ossl_state.specs.History.{Fixed}
use Rattle.ossl_state.specs.Ordered.{IsOrderedLib, is_born}
use Rattle.ossl_state.specs.Sound.{HasSoundInstances, is_paired, number_of_born, number_of_live}
use Rattle.ossl_state.specs.State.{is_active_box, is_held, is_of_box, is_up, lib_at, up_in, up_instances, with_lib}
use Rattle.ossl_state.specs.Step.{after_activation, closed_of, element_of, fallback_after_load, grouped_of, held_instance, is_armed, is_named, is_of_token, is_used, joined_of, loaded_of, new_instance, offer_of, unloaded_of, used_of, with_active, with_born, with_closed, with_element, with_fallback_used, with_given, with_groups, with_instance, with_unloaded, without_element}
use Rattle.ossl_state.proofs.ActiveLaws.{held_is, lib_at-other, lib_at-same, nothing_up}
use Rattle.ossl_state.proofs.HistoryLaws.{after_activation-live}
use Rattle.ossl_state.proofs.ListLaws.{IsAmong, all_at_among, any_witness, filter-filter, filter_same-among}
use Rattle.ossl_state.proofs.OrderLaws.{activation_lib, activation_other}
use Rattle.ossl_state.proofs.SoundLaws.{up_instances-born, up_instances-held, up_instances-order}
use Rattle.ossl_watch.specs.declared.running.Running.{Running}
use Rattle.ossl_watch.specs.declared.token.Token.{Token}
use Rattle.ossl_watch.specs.declared.token.Use.{Use}
use Rattle.ossl_watch.specs.declared.token.Use.TheVariants.{Activated, Deactivated, Held, Released, Closed}
use Rattle.ossl_watch.specs.Watched as watched
use Rattle.ossl_watch.specs.Watched.{activated, after_use, born_at, has_box, held_of, is_box_of, left_after, with_box}
use Rattle.ossl_watch.specs.Watching.{activations_in, holders_in, kept_count, number_of_given, running_in, running_of}
use Rattle.ossl_watch.proofs.CountLaws.{among_filtered, among_kept, any-map, count-append, count-cons, count-without, count_any, filter-map, map-map, map-same}
use Rattle.ossl_watch.proofs.UpLaws.{counts_box, count_zero, up_used}

armed_unused : (f : Fallback) → is_armed f ≡ true → is_used f ≡ false
armed_unused Armed h = refl
armed_unused Off h = refl
armed_unused Used h = absurd (true≢false (sym h))

used_after_load : (retain : Bool) (f : Fallback) → is_used (fallback_after_load retain f) ≡ is_used f
used_after_load true f = refl
used_after_load false Armed = refl
used_after_load false Off = refl
used_after_load false Used = refl

module _ (facts : List Facts) where
  -- 1. All of them, where the same instances are up, and where no more are.

  pub running_mapped : (s left : State) (change : Running → Running) → up_instances left ≡ up_instances s →
      ((b : Born) → running_of facts left b ≡ change (running_of facts s b)) → running_in facts left ≡ map change (running_in facts s)
  running_mapped s left change up each =
      ap (map (running_of facts left)) up
      ∙ map-same (running_of facts left) (λ b. change (running_of facts s b)) (up_instances s) (λ b among. each b)
      ∙ sym (map-map change (running_of facts s) (up_instances s))

  pub running_same : (s left : State) → up_instances left ≡ up_instances s → ((b : Born) → running_of facts left b ≡ running_of facts s b) →
      running_in facts left ≡ running_in facts s
  running_same s left up each =
      ap (map (running_of facts left)) up ∙ map-same (running_of facts left) (running_of facts s) (up_instances s) (λ b among. each b)

  pub running_left : (fixed : Fixed) (n m : ℕ) (s left : State) (change : Use) → HasSoundInstances fixed n s → HasSoundInstances fixed m left →
      ((l : ℕ) → IsOrderedLib facts (lib_at left l)) → left.born ≡ s.born → ((x : Born) → is_up left x ≡ true → is_up s x ≡ true) →
      ((b : Born) → running_of facts left b ≡ after_use change (running_of facts s b)) → running_in facts left ≡ left_after change (running_in facts s)
  running_left fixed n m s left change h sound ordered born fewer each =
      let us = up_instances s in
      let used = up_used facts left left.born sound.distinct sound.paired ordered fixed n s h (sym born) fewer in
      let up : up_instances left ≡ filter (λ b. watched.is_used (running_of facts left b)) us =
      ap (filter (is_up left)) born ∙ sym (filter-filter (is_up s) (is_up left) fewer s.born)
      ∙ filter_same-among (is_up left) (λ b. watched.is_used (running_of facts left b)) us used in
      ap (map (running_of facts left)) up
      ∙ sym (filter-map watched.is_used (running_of facts left) us)
      ∙ ap (filter watched.is_used) (map-same (running_of facts left) (λ b. after_use change (running_of facts s b)) us (λ b among. each b)
      ∙ sym (map-map (after_use change) (running_of facts s) us))

  -- 2. One library context replaced.

  replaced : (s : State) (l : ℕ) (lib : LibCtx) → l < length s.libs → (b : Born) →
      running_of facts (with_lib s l lib) b ≡ record (running_of facts s b) { activations = cond (nat_eq b.lib l) (activations_in facts lib b.place) (activations_in facts (lib_at s b.lib) b.place) }
  replaced s l lib within b = elim (cases_eq b.lib l) [
    | inl here ↦ rw (here, lib_at-same s l lib within, eq-eqb l l refl) refl
    | inr other ↦ rw (lib_at-other s l lib within b.lib other, ne_eqb b.lib l other) refl
  ]

  -- by how much the count of one box changes there
  more_at : (s : State) (l k : ℕ) (lib : LibCtx) → l < length s.libs →
      ((j : ℕ) → activations_in facts lib j ≡ activations_in facts (lib_at s l) j + cond (nat_eq k j) 1 0) →
      (b : Born) → running_of facts (with_lib s l lib) b ≡ after_use (Activated l k) (running_of facts s b)
  more_at s l k lib within counts b = replaced s l lib within b ∙ by (nat_eq b.lib l) refl (nat_eq b.place k) refl
    where
      by : (here : Bool) → nat_eq b.lib l ≡ here → (mine : Bool) → nat_eq b.place k ≡ mine →
          record (running_of facts s b) { activations = cond here (activations_in facts lib b.place) (activations_in facts (lib_at s b.lib) b.place) }
          ≡ cond (here && mine) (record (running_of facts s b) { activations = activations_in facts (lib_at s b.lib) b.place + 1 }) (running_of facts s b)
      by false is mine same = refl
      by true is true same =
          let count : activations_in facts lib b.place ≡ activations_in facts (lib_at s b.lib) b.place + 1 =
          counts b.place ∙ rw (eqb-true b.lib l is, eq-eqb k b.place (sym (eqb-true b.place k same))) refl in
          ap (λ (n : ℕ). record (running_of facts s b) { activations = n }) count
      by true is false other =
          let apart : nat_eq k b.place ≡ false = ne_eqb k b.place (λ q. both_ways (nat_eq b.place k) other (eq-eqb b.place k (sym q))) in
          let count : activations_in facts lib b.place ≡ activations_in facts (lib_at s b.lib) b.place =
          counts b.place ∙ rw (eqb-true b.lib l is, apart) (omega arith) in
          ap (λ (n : ℕ). record (running_of facts s b) { activations = n }) count

  less_at : (s : State) (l k : ℕ) (lib : LibCtx) → l < length s.libs →
      ((j : ℕ) → activations_in facts (lib_at s l) j ≡ activations_in facts lib j + cond (nat_eq k j) 1 0) →
      (b : Born) → running_of facts (with_lib s l lib) b ≡ after_use (Deactivated l k) (running_of facts s b)
  less_at s l k lib within counts b = replaced s l lib within b ∙ by (nat_eq b.lib l) refl (nat_eq b.place k) refl
    where
      by : (here : Bool) → nat_eq b.lib l ≡ here → (mine : Bool) → nat_eq b.place k ≡ mine →
          record (running_of facts s b) { activations = cond here (activations_in facts lib b.place) (activations_in facts (lib_at s b.lib) b.place) }
          ≡ cond (here && mine) (record (running_of facts s b) { activations = activations_in facts (lib_at s b.lib) b.place - 1 }) (running_of facts s b)
      by false is mine same = refl
      by true is true same =
          let more : activations_in facts (lib_at s b.lib) b.place ≡ activations_in facts lib b.place + 1 =
          rw (eqb-true b.lib l is) (counts b.place ∙ rw (eq-eqb k b.place (sym (eqb-true b.place k same))) refl) in
          let count : activations_in facts lib b.place ≡ activations_in facts (lib_at s b.lib) b.place - 1 = omega (arith, more) in
          ap (λ (n : ℕ). record (running_of facts s b) { activations = n }) count
      by true is false other =
          let apart : nat_eq k b.place ≡ false = ne_eqb k b.place (λ q. both_ways (nat_eq b.place k) other (eq-eqb b.place k (sym q))) in
          let count : activations_in facts lib b.place ≡ activations_in facts (lib_at s b.lib) b.place =
          rw (eqb-true b.lib l is) (sym (counts b.place ∙ rw apart (omega arith))) in
          ap (λ (n : ℕ). record (running_of facts s b) { activations = n }) count

  -- a load gives one activation more
  given_counts : (lib : LibCtx) (retain : Bool) (g : Given) (j : ℕ) →
      activations_in facts (loaded_of retain g lib) j ≡ activations_in facts lib j + cond (nat_eq g.place j) 1 0
  given_counts lib retain g j =
      rw (used_after_load retain lib.fallback, count-append (λ (h : Given). nat_eq h.place j) lib.given (g ∷ []), count-cons (λ (h : Given). nat_eq h.place j) g []) (omega arith)

  pub given_each : (s : State) (l : ℕ) (retain : Bool) (g : Given) → l < length s.libs → (b : Born) →
      running_of facts (with_given s l retain g) b ≡ after_use (Activated l g.place) (running_of facts s b)
  given_each s l retain g within = more_at s l g.place (loaded_of retain g (lib_at s l)) within (given_counts (lib_at s l) retain g)

  -- so does the fallback, once it is used
  used_counts : (lib : LibCtx) (k j : ℕ) → is_armed lib.fallback ≡ true → lib.is_open ≡ true → place_of default_name facts ≡ Some k →
      activations_in facts (used_of lib) j ≡ activations_in facts lib j + cond (nat_eq k j) 1 0
  used_counts lib k j armed opened found = rw (armed_unused lib.fallback armed, opened, found) (omega arith)

  pub used_each : (s : State) (l k : ℕ) → l < length s.libs → is_armed (lib_at s l).fallback ≡ true → (lib_at s l).is_open ≡ true → place_of default_name facts ≡ Some k → (b : Born) →
      running_of facts (with_fallback_used s l) b ≡ after_use (Activated l k) (running_of facts s b)
  used_each s l k within armed opened found = more_at s l k (used_of (lib_at s l)) within (λ j. used_counts (lib_at s l) k j armed opened found)

  -- an activation that is given back is one less
  pub unloaded_each : (s : State) (l t : ℕ) (kept : Option ℕ) (g : Given) → l < length s.libs → is_distinct (map number_of_given (lib_at s l).given) ≡ true →
      find (is_of_token t) (lib_at s l).given ≡ Some g → (b : Born) → running_of facts (with_unloaded s l t kept) b ≡ after_use (Deactivated l g.place) (running_of facts s b)
  unloaded_each s l t kept g within distinct found = less_at s l g.place (unloaded_of kept t (lib_at s l)) within (λ j.
      rw (count-without number_of_given (λ (h : Given). nat_eq h.place j) t (lib_at s l).given g distinct found) (omega arith))

  -- a library context that closes has none
  pub closed_each : (s : State) (l : ℕ) → l < length s.libs → (b : Born) → running_of facts (with_closed s l) b ≡ after_use (Closed l) (running_of facts s b)
  closed_each s l within b = replaced s l (closed_of (lib_at s l)) within b ∙ by (nat_eq b.lib l)
    where
      by : (here : Bool) →
          record (running_of facts s b) { activations = cond here (activations_in facts (closed_of (lib_at s l)) b.place) (activations_in facts (lib_at s b.lib) b.place) }
          ≡ cond here (record (running_of facts s b) { activations = 0 }) (running_of facts s b)
      by true = refl
      by false = refl

  -- 3. Live elements.

  pub held_each : (s : State) (x : Live) (token : Token) → x.held ≡ held_of token → (b : Born) →
      running_of facts (with_element s x) b ≡ after_use (Held token) (running_of facts s b)
  held_each s x token held b =
      ap (λ (n : ℕ). record (running_of facts s b) { holders = n })
      (count-append (λ (y : Live). is_in b.number y.held) s.live (x ∷ []) ∙ ap (λ n. holders_in s.live b.number + n) (count-cons (λ (y : Live). is_in b.number y.held) x []))
      ∙ rw held (by (is_in b.number (held_of token)))
    where
      by : (mine : Bool) → record (running_of facts s b) { holders = holders_in s.live b.number + (cond mine 1 0 + 0) }
          ≡ cond mine (record (running_of facts s b) { holders = holders_in s.live b.number + 1 }) (running_of facts s b)
      by true = refl
      by false = ap (λ (n : ℕ). record (running_of facts s b) { holders = n }) (omega arith)

  pub released_each : (s : State) (t : ℕ) (x : Live) (token : Token) → is_distinct (map number_of_live s.live) ≡ true → element_of s t ≡ Some x → x.held ≡ held_of token → (b : Born) →
      running_of facts (without_element s t) b ≡ after_use (Released token) (running_of facts s b)
  released_each s t x token distinct found held b = by (is_in b.number (held_of token))
      (rw held at (count-without number_of_live (λ (y : Live). is_in b.number y.held) t s.live x distinct found))
    where
      others : List Live
      others = filter (λ y. not (is_named t y)) s.live

      by : (mine : Bool) → holders_in s.live b.number ≡ holders_in others b.number + cond mine 1 0 →
          record (running_of facts s b) { holders = holders_in others b.number } ≡ cond mine (record (running_of facts s b) { holders = holders_in s.live b.number - 1 }) (running_of facts s b)
      by true less = ap (λ (n : ℕ). record (running_of facts s b) { holders = n }) (omega (arith, less))
      by false same = ap (λ (n : ℕ). record (running_of facts s b) { holders = n }) (omega (arith, same))
