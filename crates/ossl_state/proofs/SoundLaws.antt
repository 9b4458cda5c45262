-- The instances and library contexts of a state that a step leaves.
use Rattle.std.proofs.Common.{◌≡◌, ℕ, ◌+◌, ◌<◌, Bool, true, false, not, ◌||◌, ◌&&◌, nat_eq, nat_lt, List, [], ◌∷◌, ◌++◌, length, map, refl, sym, ◌∙◌, ap, arith, inl, inr}
use Rattle.std.proofs.Math.ListN.{length-set}
use Rattle.std.specs.List.{list_all, list_any, filter}
use Rattle.std.specs.Prelude.{None, Some}
use Rattle.std.specs.declared.option.Option.{Option}
use Rattle.std.proofs.lemmas.Bool.{cases_Bool, cases_eq, eq-eqb, ne_eqb, lt-ltb, ltb-true}
use Rattle.std.proofs.lemmas.Grind.{common_steps}
use Rattle.std.proofs.lemmas.List.{length_push, map-append, append-nil}
use Rattle.std.proofs.lemmas.List.Elements.{filter-append}
use Rattle.std.proofs.lemmas.List.Quantifiers.{position-Some}
use Rattle.std.specs.Str.{bytes_eq}
use Rattle.std.proofs.lemmas.List.Folds.{list_any-append, list_all-append}
use Rattle.ossl_provider.specs.Members.{is_in, is_distinct}
use Rattle.ossl_provider.specs.Sheet.{Facts}
use Rattle.ossl_provider.proofs.MembersLaws.{is_distinct-push}
use Rattle.ossl_names.specs.Groups.{Groups}
use Rattle.ossl_property.specs.declared.clause.Clause.{Clause}
use Rattle.ossl_state.specs.declared.state.Active.{Active}
use Rattle.ossl_state.specs.declared.state.Born.{Born}
use Rattle.ossl_state.specs.declared.state.Given.{Given}
use Rattle.ossl_state.specs.declared.state.LibCtx.{LibCtx}
use Rattle.ossl_state.specs.declared.state.Live.{Live}
use Rattle.ossl_state.specs.declared.state.State.{State}
use Rattle.ossl_state.specs.Boxes.{facts_at, place_of, default_name}
use Rattle.ossl_state.specs.History.{Fixed}
use Rattle.ossl_state.specs.Sound.{HasSoundInstances, is_paired, number_of_born, lib_of_born}
use Rattle.ossl_state.specs.State.{lib_at, with_lib, is_active_box, is_held, is_up, is_of_box, up_in, up_instances}
use Rattle.ossl_state.specs.Step.{closed_of, used_of, joined_of, held_instance, with_active, with_born, with_groups, grouped_of, defaulted_of, with_default, offer_of, new_instance, with_instance, after_activation, with_fallback_used, fallback_of, after_fallback_to, after_fallback, is_armed, with_element, without_element, with_closed, is_named, after_load_of, activation_given, holder_of, is_of_token, loaded_of, returned_of, stays_active, unloaded_of, with_given, with_unloaded}
use Rattle.ossl_state.proofs.ActiveLaws.{order_after, up_after, up_after_closing, up_after_settling, up_active-held, up_active-other, up_active-itself, held_is, nothing_up}
use Rattle.ossl_state.proofs.ListLaws.{IsAmong, any_fewer, all_fewer, all_more, filter_same, filter_same-where, filter_same-among, filter-filter, filter-swap, distinct_fewer, is_in_below}

-- a change of a library context that keeps the order keeps what is up
pub up_instances-order : (s : State) (l : ℕ) (lib : LibCtx) → l < length s.libs → lib.order ≡ (lib_at s l).order → up_instances (with_lib s l lib) ≡ up_instances s
up_instances-order s l lib within same = filter_same (is_up (with_lib s l lib)) (is_up s) (up_after s l lib within same) s.born

-- a held instance that becomes active was up
pub up_instances-held : (s : State) (l k n : ℕ) → l < length s.libs → is_held n s.live ≡ true → up_instances (with_active s l k n) ≡ up_instances s
up_instances-held s l k n within held = filter_same (is_up (with_active s l k n)) (is_up s) (up_active-held s l k n within held) s.born

-- a live element that holds only what is up starts nothing
pub up_instances-element : (s : State) (x : Live) → ((b : Born) → IsAmong s.born b → is_in b.number x.held ≡ true → is_up s b ≡ true) → up_instances (with_element s x) ≡ up_instances s
up_instances-element s x held = filter_same-among (is_up (with_element s x)) (is_up s) s.born (λ b among.
    rw (list_any-append (λ (y : Live). is_in b.number y.held) s.live (x ∷ [])) (absorbs _ _ _ (held b among)))
  where
    absorbs : (a b c : Bool) → (c ≡ true → (a || b) ≡ true) → (a || (b || (c || false))) ≡ (a || b)
    absorbs a b c h = grind (arith, common_steps)

-- an instance that is born is up, behind the others
pub up_instances-born : (s : State) (l k : ℕ) (b : Born) → l < length s.libs → b.lib ≡ l → b.number ≡ s.next → list_all (λ b'. nat_lt b'.number s.next) s.born ≡ true →
    up_instances (with_active (with_born s b) l k s.next) ≡ up_instances s ++ b ∷ []
up_instances-born s l k b within here number below =
    let left = with_active (with_born s b) l k s.next in
    let others : filter (is_up left) s.born ≡ filter (is_up s) s.born =
    filter_same-where (λ b'. nat_lt b'.number s.next) (is_up left) (is_up s)
    (λ b' less. up_active-other (with_born s b) l k s.next within b' (ne_eqb s.next b'.number (λ q. let small = ltb-true b'.number s.next less in absurd (omega arith)))) s.born below in
    rw (filter-append (is_up left) s.born (b ∷ []), others, up_active-itself (with_born s b) l k s.next within b here number) refl

-- a box that a fetch falls back to is there, and its name is `default`
pub fallback_found : (facts : List Facts) (lib : LibCtx) (k : ℕ) → fallback_of facts lib ≡ Some k → (is_armed lib.fallback ≡ true) × (place_of default_name facts ≡ Some k)
fallback_found facts lib k found = elim (cases_Bool (is_armed lib.fallback)) [
  | inl armed ↦ (armed, (rw armed at found))
  | inr off ↦ let none = (rw off at found) in cc
]

-- a box of a name is in the catalogue
pub box_placed : (facts : List Facts) (name : List ℕ) (k : ℕ) → place_of name facts ≡ Some k → k < length facts
box_placed facts name k found = (position-Some (λ f. bytes_eq f.name name) facts k (facts_at facts k) found).0

-- the library context in which an activation was given is there
pub holder_there : (s : State) (t l : ℕ) → holder_of s t ≡ Some l → l < length s.libs
holder_there s t l found = (position-Some (λ lib. list_any (is_of_token t) lib.given) s.libs l (lib_at s l) found).0

pub fallback_placed : (facts : List Facts) (lib : LibCtx) (k : ℕ) → fallback_of facts lib ≡ Some k → k < length facts
fallback_placed facts lib k found = box_placed facts default_name k (fallback_found facts lib k found).1

-- a pair stays one when an instance more is born
more_paired : (born : List Born) (b : Born) (l : ℕ) (order : List Active) → list_all (is_paired born l) order ≡ true → list_all (is_paired (born ++ b ∷ []) l) order ≡ true
more_paired born b l order all = all_more (is_paired born l) (is_paired (born ++ b ∷ []) l)
    (λ a pair. rw (list_any-append (λ b'. nat_eq b'.number a.instance && nat_eq b'.place a.place && nat_eq b'.lib l) born (b ∷ []), pair) refl) order all

new_paired : (born : List Born) (b : Born) (l k n : ℕ) → b.lib ≡ l → b.place ≡ k → b.number ≡ n → is_paired (born ++ b ∷ []) l (record { place = k; instance = n }) ≡ true
new_paired born b l k n here of_box number =
    rw (list_any-append (λ b'. nat_eq b'.number n && nat_eq b'.place k && nat_eq b'.lib l) born (b ∷ []), here, of_box, number, eq-eqb n n refl, eq-eqb k k refl, eq-eqb l l refl) (grind (arith, common_steps))

-- a library context in which none of these instances was started
absent_lib : (l : ℕ) (bs : List Born) → filter (λ b. nat_eq b.lib l) bs ≡ [] → is_in l (map lib_of_born bs) ≡ false
absent_lib l [] none = refl
absent_lib l (b ∷ bs) none = elim (cases_Bool (nat_eq b.lib l)) [
  | inl here ↦ let some = (rw here at none) in cc
  | inr other ↦ rw other (absent_lib l bs (rw other at none))
]

module _ (fixed : Fixed) where
  -- the same instances were born, and are up
  pub instances-alike : (n : ℕ) (s left : State) → HasSoundInstances fixed n s → left.born ≡ s.born → up_instances left ≡ up_instances s → length left.libs ≡ length s.libs →
      ((l : ℕ) → list_all (is_paired s.born l) (lib_at left l).order ≡ true) → HasSoundInstances fixed n left
  instances-alike n s left h born up libs paired = record {
    distinct = rw born h.distinct;
    below = rw born h.below;
    few = rw born h.few;
    places = rw born h.places;
    libs = rw born h.libs;
    contexts = libs ∙ h.contexts;
    paired = λ l. rw born (paired l);
    single = λ k. rw up (h.single k);
  }

  -- the same instances were born, and no more of them are up
  pub instances-fewer : (n : ℕ) (s left : State) → HasSoundInstances fixed n s → left.born ≡ s.born → ((b : Born) → is_up left b ≡ true → is_up s b ≡ true) → length left.libs ≡ length s.libs →
      ((l : ℕ) → list_all (is_paired s.born l) (lib_at left l).order ≡ true) → HasSoundInstances fixed n left
  instances-fewer n s left h born less libs paired = record {
    distinct = rw born h.distinct;
    below = rw born h.below;
    few = rw born h.few;
    places = rw born h.places;
    libs = rw born h.libs;
    contexts = libs ∙ h.contexts;
    paired = λ l. rw born (paired l);
    single = λ k.
        let up = up_instances s in
        let all : up_instances left ≡ filter (is_up left) up = ap (filter (is_up left)) born ∙ sym (filter-filter (is_up s) (is_up left) less s.born) in
        let same : filter (is_of_box k) (up_instances left) ≡ filter (is_up left) (filter (is_of_box k) up) = ap (filter (is_of_box k)) all ∙ filter-swap (is_of_box k) (is_up left) up in
        ap (λ bs. is_distinct (map lib_of_born bs)) same ∙ distinct_fewer lib_of_born (is_up left) (filter (is_of_box k) up) (h.single k);
  }

  -- a greater bound
  pub instances-more : (n : ℕ) (s : State) → HasSoundInstances fixed n s → HasSoundInstances fixed (n + 1) s
  instances-more n s h = record {
    distinct = h.distinct;
    below = all_more (λ b. nat_lt b.number n) (λ b. nat_lt b.number (n + 1)) (λ b less. let small = ltb-true b.number n less in lt-ltb b.number (n + 1) (omega arith)) s.born h.below;
    few = omega (arith, h.few);
    places = h.places;
    libs = h.libs;
    contexts = h.contexts;
    paired = h.paired;
    single = h.single;
  }

  pub instances-without_element : (n : ℕ) (s : State) (t : ℕ) → HasSoundInstances fixed n s → HasSoundInstances fixed n (without_element s t)
  instances-without_element n s t h = instances-fewer n s (without_element s t) h refl
      (λ b up. fewer _ _ _ (any_fewer (λ (x : Live). is_in b.number x.held) (λ x. not (is_named t x)) s.live) up) refl h.paired
    where
      fewer : (a b c : Bool) → (b ≡ true → c ≡ true) → (a || b) ≡ true → (a || c) ≡ true
      fewer a b c f h = grind (arith, common_steps)

  -- an activation that is given back, and with it a pair of the order or none
  pub instances-unloaded : (n : ℕ) (s : State) (l t : ℕ) (kept : Option ℕ) → l < length s.libs → HasSoundInstances fixed n s → HasSoundInstances fixed n (with_unloaded s l t kept)
  instances-unloaded n s l t kept within h =
      let lib = unloaded_of kept t (lib_at s l) in
      let stays = stays_active kept (returned_of t (lib_at s l)).given in
      instances-fewer n s (with_unloaded s l t kept) h refl (up_after_settling s l lib within stays refl) (length-set s.libs l lib)
      (order_after s l lib within (λ m order. list_all (is_paired s.born m) order ≡ true) (all_fewer (is_paired s.born l) stays (lib_at s l).order (h.paired l)) h.paired)

  pub instances-element : (n : ℕ) (s : State) (x : Live) → ((b : Born) → IsAmong s.born b → is_in b.number x.held ≡ true → is_up s b ≡ true) → HasSoundInstances fixed n s → HasSoundInstances fixed n (with_element s x)
  instances-element n s x held h = instances-alike n s (with_element s x) h refl (up_instances-element s x held) refl h.paired

  pub instances-closed : (n : ℕ) (s : State) (l : ℕ) → l < length s.libs → HasSoundInstances fixed n s → HasSoundInstances fixed n (with_closed s l)
  instances-closed n s l within h = instances-fewer n s (with_closed s l) h refl (up_after_closing s l (closed_of (lib_at s l)) within refl) (length-set s.libs l (closed_of (lib_at s l)))
      (order_after s l (closed_of (lib_at s l)) within (λ m order. list_all (is_paired s.born m) order ≡ true) refl h.paired)

  -- a change of a library context that keeps the order
  pub instances-order : (n : ℕ) (s : State) (l : ℕ) (lib : LibCtx) → l < length s.libs → lib.order ≡ (lib_at s l).order → HasSoundInstances fixed n s → HasSoundInstances fixed n (with_lib s l lib)
  instances-order n s l lib within same h = instances-alike n s (with_lib s l lib) h refl (up_instances-order s l lib within same) (length-set s.libs l lib)
      (order_after s l lib within (λ m order. list_all (is_paired s.born m) order ≡ true) (rw same (h.paired l)) h.paired)

  -- an activation that is given
  pub instances-given : (n : ℕ) (s : State) (l : ℕ) (retain : Bool) (g : Given) → l < length s.libs → HasSoundInstances fixed n s → HasSoundInstances fixed n (with_given s l retain g)
  instances-given n s l retain g within h = instances-order n s l (loaded_of retain g (lib_at s l)) within refl h

  instances-grouped : (n : ℕ) (s : State) (l : ℕ) (groups : Groups) → l < length s.libs → HasSoundInstances fixed n s → HasSoundInstances fixed n (with_groups s l groups)
  instances-grouped n s l groups within h = instances-order n s l (grouped_of (lib_at s l) groups) within refl h

  pub instances-default : (n : ℕ) (s : State) (l : ℕ) (query : List Clause) → l < length s.libs → HasSoundInstances fixed n s → HasSoundInstances fixed n (with_default s l query)
  instances-default n s l query within h = instances-order n s l (defaulted_of (lib_at s l) query) within refl h

  pub instances-used : (n : ℕ) (s : State) (l : ℕ) → l < length s.libs → HasSoundInstances fixed n s → HasSoundInstances fixed n (with_fallback_used s l)
  instances-used n s l within h = instances-order n s l (used_of (lib_at s l)) within refl h

  pub instances-held : (n : ℕ) (s : State) (l k i : ℕ) → l < length s.libs → held_instance s l k ≡ Some i → HasSoundInstances fixed n s → HasSoundInstances fixed n (with_active s l k i)
  instances-held n s l k i within found h =
      let held = held_is s l k i found in
      instances-alike n s (with_active s l k i) h refl (up_instances-held s l k i within held.0) (length-set s.libs l (joined_of (lib_at s l) k i))
      (order_after s l (joined_of (lib_at s l) k i) within (λ m order. list_all (is_paired s.born m) order ≡ true)
      (rw (list_all-append (is_paired s.born l) (lib_at s l).order (record { place = k; instance = i } ∷ []), h.paired l, held.1) refl) h.paired)

  pub instances-born : (s : State) (l k : ℕ) (b : Born) → l < length s.libs → l < fixed.contexts → k < length fixed.facts → b.lib ≡ l → b.place ≡ k → b.number ≡ s.next → up_in s l k ≡ [] →
      HasSoundInstances fixed s.next s → HasSoundInstances fixed (s.next + 1) (with_active (with_born s b) l k s.next)
  instances-born s l k b within lib_within placed here of_box number alone h =
      let up = up_instances-born s l k b within here number h.below in
      record {
        distinct = rw (map-append number_of_born s.born (b ∷ []), number) (is_distinct-push (map number_of_born s.born) s.next h.distinct (is_in_below number_of_born s.next s.born h.below));
        below = rw (list_all-append (λ (x : Born). nat_lt x.number (s.next + 1)) s.born (b ∷ []), (instances-more s.next s h).below, number, lt-ltb s.next (s.next + 1) (omega arith)) refl;
        few = rw (length_push s.born b) (omega (arith, h.few));
        places = rw (list_all-append (λ (x : Born). nat_lt x.place (length fixed.facts)) s.born (b ∷ []), h.places, of_box, lt-ltb k (length fixed.facts) placed) refl;
        libs = rw (list_all-append (λ (x : Born). nat_lt x.lib fixed.contexts) s.born (b ∷ []), h.libs, here, lt-ltb l fixed.contexts lib_within) refl;
        contexts = length-set s.libs l (joined_of (lib_at s l) k s.next) ∙ h.contexts;
        paired = order_after s l (joined_of (lib_at s l) k s.next) within (λ m order. list_all (is_paired (s.born ++ b ∷ []) m) order ≡ true)
            (rw (list_all-append (is_paired (s.born ++ b ∷ []) l) (lib_at s l).order (record { place = k; instance = s.next } ∷ []), more_paired s.born b l (lib_at s l).order (h.paired l), new_paired s.born b l k s.next here of_box number) refl)
            (λ m. more_paired s.born b m (lib_at s m).order (h.paired m));
        single = λ j. rw (up, filter-append (is_of_box j) (up_instances s) (b ∷ [])) (one_more j);
      }
    where
      mine : filter (is_of_box k) (b ∷ []) ≡ b ∷ []
      mine = rw (of_box, eq-eqb k k refl) refl

      one_more : (j : ℕ) → is_distinct (map lib_of_born (filter (is_of_box j) (up_instances s) ++ filter (is_of_box j) (b ∷ []))) ≡ true
      one_more j = elim (cases_eq j k) [
        | inl same ↦
            rw (same, mine, map-append lib_of_born (filter (is_of_box k) (up_instances s)) (b ∷ []), here)
            (is_distinct-push (map lib_of_born (filter (is_of_box k) (up_instances s))) l (h.single k) (absent_lib l (filter (is_of_box k) (up_instances s)) alone))
        | inr other ↦ rw (of_box, ne_eqb k j (λ q. other (sym q)), append-nil) (h.single j)
      ]

  -- a box that becomes active
  pub instances-activation : (s : State) (l k : ℕ) → l < length s.libs → l < fixed.contexts → k < length fixed.facts → HasSoundInstances fixed s.next s → HasSoundInstances fixed (s.next + 1) (after_activation fixed.facts s l k)
  instances-activation s l k within lib_within placed h = elim (cases_Bool (is_active_box k (lib_at s l).order)) [
    | inl active ↦ rw active (instances-more s.next s h)
    | inr absent ↦ rw absent (instance absent (held_instance s l k) refl)
  ]
    where
      instance : is_active_box k (lib_at s l).order ≡ false → (o : Option ℕ) → held_instance s l k ≡ o → HasSoundInstances fixed (s.next + 1) (with_instance fixed.facts s l k o)
      instance absent (Some i) found = instances-more s.next (with_active s l k i) (instances-held s.next s l k i within found h)
      instance absent None none =
          let groups = (offer_of fixed.facts s l k).groups in
          let g = with_groups s l groups in
          let alone : up_in g l k ≡ [] = ap (λ bs. filter (λ b. nat_eq b.lib l) (filter (is_of_box k) bs)) (up_instances-order s l (grouped_of (lib_at s l) groups) within refl) ∙ nothing_up s l k h.distinct (h.paired l) absent none in
          instances-born g l k (new_instance fixed.facts s l k) (omega (arith, within, length-set s.libs l (grouped_of (lib_at s l) groups))) lib_within placed refl refl refl alone (instances-grouped s.next s l groups within h)

  -- the state that a load leaves
  pub instances-load : (s : State) (c l : ℕ) (retain : Bool) (k : ℕ) → l < fixed.contexts → k < length fixed.facts → HasSoundInstances fixed s.next s → HasSoundInstances fixed (s.next + 1) (after_load_of fixed.facts s c l retain k)
  instances-load s c l retain k lib_within placed h =
      let active = instances-activation s l k (omega (arith, lib_within, h.contexts)) lib_within placed h in
      instances-given (s.next + 1) (after_activation fixed.facts s l k) l retain (activation_given s c k) (omega (arith, lib_within, active.contexts)) active

  -- the state in which a fetch looks
  pub instances-fallback : (s : State) (l : ℕ) → l < fixed.contexts → HasSoundInstances fixed s.next s → HasSoundInstances fixed (s.next + 1) (after_fallback fixed.facts s l)
  instances-fallback s l lib_within h = to (fallback_of fixed.facts (lib_at s l)) refl
    where
      to : (o : Option ℕ) → fallback_of fixed.facts (lib_at s l) ≡ o → HasSoundInstances fixed (s.next + 1) (after_fallback_to fixed.facts s l o)
      to None none = instances-more s.next s h
      to (Some k) found =
          let placed = fallback_placed fixed.facts (lib_at s l) k found in
          let active = instances-activation s l k (omega (arith, lib_within, h.contexts)) lib_within placed h in
          instances-used (s.next + 1) (after_activation fixed.facts s l k) l (omega (arith, lib_within, active.contexts)) active
