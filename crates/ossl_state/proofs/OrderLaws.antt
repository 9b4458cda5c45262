-- What a step does to the order of one library context.
use Rattle.std.proofs.Common.{◌≡◌, ℕ, ◌<◌, Bool, true, false, not, ◌||◌, ◌&&◌, nat_eq, List, [], ◌∷◌, ◌++◌, length, map, refl, sym, ◌∙◌, ap, arith, ◌⊎◌, inl, inr}
use Rattle.std.proofs.Math.ListN.{length-set}
use Rattle.std.specs.List.{list_all, list_any, filter}
use Rattle.std.specs.Prelude.{None, Some}
use Rattle.std.specs.declared.option.Option.{Option}
use Rattle.std.proofs.lemmas.Bool.{cases_Bool, eqb-true, eq-eqb, true≢false}
use Rattle.std.proofs.lemmas.Grind.{common_steps}
use Rattle.std.proofs.lemmas.List.{map-append}
use Rattle.std.proofs.lemmas.List.Folds.{list_any-append, list_all-append}
use Rattle.ossl_provider.specs.Members.{is_in, is_distinct}
use Rattle.ossl_provider.specs.Sheet.{Facts}
use Rattle.ossl_provider.proofs.MembersLaws.{is_distinct-push}
use Rattle.ossl_property.specs.declared.clause.Clause.{Clause}
use Rattle.ossl_state.specs.declared.state.Active.{Active}
use Rattle.ossl_state.specs.declared.state.Fallback.{Fallback}
use Rattle.ossl_state.specs.declared.state.Fallback.TheVariants.{Armed, Off, Used}
use Rattle.ossl_state.specs.declared.state.Given.{Given}
use Rattle.ossl_state.specs.declared.state.LibCtx.{LibCtx}
use Rattle.ossl_state.specs.declared.state.State.{State}
use Rattle.ossl_state.specs.Boxes.{place_of, default_name}
use Rattle.ossl_state.specs.Ordered.{IsOrderedLib, is_active_at, place_of_active}
use Rattle.ossl_state.specs.State.{lib_at, is_active_box}
use Rattle.ossl_state.specs.Step.{after_activation, closed_of, defaulted_of, fallback_after_load, grouped_of, held_instance, is_armed, is_kept, is_of_token, is_used, joined_of, kept_of, loaded_of, new_instance, offer_of, returned_of, stays_active, unloaded_of, used_of, with_born, with_groups, with_instance}
use Rattle.ossl_state.proofs.ActiveLaws.{lib_at-same, lib_at-other}
use Rattle.ossl_state.proofs.ListLaws.{all_among, all_at_among, all_fewer, all_more, any_more, distinct_fewer, list_any-filter}

-- a box that is not active is no place of the order
absent_place : (k : ℕ) (order : List Active) → is_active_box k order ≡ false →
    is_in k (map place_of_active order) ≡ false
absent_place k [] h = refl
absent_place k (a ∷ order) h = grind (arith, common_steps, absent_place k order)

all_filtered : {X : Type 0} (p : X → Bool) (xs : List X) → list_all p (filter p xs) ≡ true
all_filtered p [] = refl
all_filtered p (x ∷ xs) = grind (arith, common_steps, all_filtered p xs)

either_more : (a b a' b' : Bool) → (a ≡ true → a' ≡ true) → (b ≡ true → b' ≡ true) → (a || b) ≡ true → (a' || b') ≡ true
either_more true b a' b' f g h = rw (f refl) refl
either_more false true true b' f g h = refl
either_more false true false b' f g h = g refl
either_more false false a' b' f g h = absurd (true≢false (sym h))

-- what stays for a reason stays for more reasons
stays_more : (kept kept' : Option ℕ) (given given' : List Given) (a : Active) →
    (list_any (λ (g : Given). nat_eq g.place a.place) given ≡ true →
    list_any (λ (g : Given). nat_eq g.place a.place) given' ≡ true) →
    (is_kept kept a.place ≡ true → is_kept kept' a.place ≡ true) → stays_active kept given a ≡ true →
    stays_active kept' given' a ≡ true
stays_more kept kept' given given' a by_given by_kept h =
    either_more (list_any (λ (g : Given). nat_eq g.place a.place) given) (is_kept kept a.place)
    (list_any (λ (g : Given). nat_eq g.place a.place) given') (is_kept kept' a.place) by_given by_kept h

-- a box is active in an order, or joins it at its end
abbrev pub Joins : ℕ → List Active → List Active → Type 0
Joins k old new =
    ((is_active_box k old ≡ true) × (new ≡ old)) ⊎
    ((n : ℕ) × (is_active_box k old ≡ false) × (new ≡ old ++ record { place = k; instance = n } ∷ []))

module _ (k : ℕ) (old new : List Active) where
  joins_distinct : Joins k old new → is_distinct (map place_of_active old) ≡ true →
      is_distinct (map place_of_active new) ≡ true
  joins_distinct (inl there) d = rw there.1 d
  joins_distinct (inr more) d =
      rw (more.2, map-append place_of_active old (record { place = k; instance = more.0 } ∷ []))
      (is_distinct-push (map place_of_active old) k d (absent_place k old more.1))

  joins_active : Joins k old new → is_active_box k new ≡ true
  joins_active (inl there) = rw there.1 there.0
  joins_active (inr more) =
      rw (
        more.2,
        list_any-append (λ (a : Active). nat_eq a.place k) old
            (record { place = k; instance = more.0 } ∷ []),
        eq-eqb k k refl,
      ) (grind (arith, common_steps))

  joins_more : (j : ℕ) → Joins k old new → is_active_box j old ≡ true → is_active_box j new ≡ true
  joins_more j (inl there) h = rw there.1 h
  joins_more j (inr more) h =
      rw (
        more.2,
        list_any-append (λ (a : Active). nat_eq a.place j) old
            (record { place = k; instance = more.0 } ∷ []),
        h,
      ) refl

  joins_all : (p : Active → Bool) → ((n : ℕ) → p (record { place = k; instance = n }) ≡ true) → Joins k old new →
      list_all p old ≡ true → list_all p new ≡ true
  joins_all p mine (inl there) h = rw there.1 h
  joins_all p mine (inr more) h = rw
      (more.2, list_all-append p old (record { place = k; instance = more.0 } ∷ []), h, mine more.0) refl

  joins_at : (o : Option ℕ) → Joins k old new → is_active_at o old ≡ true → is_active_at o new ≡ true
  joins_at None j h = absurd (true≢false (sym h))
  joins_at (Some i) j h = joins_more i j h

-- a library context in which a box was made active
pub record Activated (k : ℕ) (old new : LibCtx) : Type 0 where
  pub is_open : new.is_open ≡ old.is_open
  pub fallback : new.fallback ≡ old.fallback
  pub given : new.given ≡ old.given
  pub joins : Joins k old.order new.order

-- an activation makes a box active in its library context
pub activation_lib : (facts : List Facts) (s : State) (l k : ℕ) → l < length s.libs →
    Activated k (lib_at s l) (lib_at (after_activation facts s l k) l)
activation_lib facts s l k within = elim (cases_Bool (is_active_box k (lib_at s l).order)) [
  | inl active ↦ rw active (record { is_open = refl; fallback = refl; given = refl; joins = inl (active, refl) })
  | inr absent ↦ rw absent (instance absent (held_instance s l k))
]
  where
    instance : is_active_box k (lib_at s l).order ≡ false → (o : Option ℕ) →
        Activated k (lib_at s l) (lib_at (with_instance facts s l k o) l)
    instance absent (Some n) =
        rw (lib_at-same s l (joined_of (lib_at s l) k n) within)
        (record { is_open = refl; fallback = refl; given = refl; joins = inr (n, absent, refl) })
    instance absent None =
        let groups = (offer_of facts s l k).groups in
        let grouped = with_groups s l groups in
        let born = with_born grouped (new_instance facts s l k) in
        let there : l < length born.libs = omega
        (arith, within, length-set s.libs l (grouped_of (lib_at s l) groups)) in
        rw (
          lib_at-same born l (joined_of (lib_at born l) k s.next) there,
          lib_at-same s l
              (grouped_of (lib_at s l) groups) within,
        )
        (record { is_open = refl; fallback = refl; given = refl; joins = inr (s.next, absent, refl) })

-- and leaves the others as they were
pub activation_other : (facts : List Facts) (s : State) (l k m : ℕ) → (m ≡ l → ⊥) → l < length s.libs →
    lib_at (after_activation facts s l k) m ≡ lib_at s m
activation_other facts s l k m other within = elim (cases_Bool (is_active_box k (lib_at s l).order)) [
  | inl active ↦ rw active refl
  | inr absent ↦ rw absent (instance (held_instance s l k))
]
  where
    instance : (o : Option ℕ) → lib_at (with_instance facts s l k o) m ≡ lib_at s m
    instance (Some n) = lib_at-other s l (joined_of (lib_at s l) k n) within m other
    instance None =
        let groups = (offer_of facts s l k).groups in
        let grouped = with_groups s l groups in
        let born = with_born grouped (new_instance facts s l k) in
        let there : l < length born.libs = omega
        (arith, within, length-set s.libs l (grouped_of (lib_at s l) groups)) in
        lib_at-other born l (joined_of (lib_at born l) k s.next) there m other ∙ lib_at-other s l
        (grouped_of (lib_at s l) groups) within m other

pub activation_length : (facts : List Facts) (s : State) (l k : ℕ) →
    length (after_activation facts s l k).libs ≡ length s.libs
activation_length facts s l k = elim (cases_Bool (is_active_box k (lib_at s l).order)) [
  | inl active ↦ rw active refl
  | inr absent ↦ rw absent (instance (held_instance s l k))
]
  where
    instance : (o : Option ℕ) → length (with_instance facts s l k o).libs ≡ length s.libs
    instance (Some n) = length-set s.libs l (joined_of (lib_at s l) k n)
    instance None =
        let groups = (offer_of facts s l k).groups in
        let born = with_born (with_groups s l groups) (new_instance facts s l k) in
        length-set born.libs l (joined_of (lib_at born l) k s.next) ∙ length-set s.libs l
        (grouped_of (lib_at s l) groups)

-- a load changes no fallback that is used, and makes none used
used_after_load : (retain : Bool) (f : Fallback) → is_used (fallback_after_load retain f) ≡ is_used f
used_after_load true f = refl
used_after_load false Armed = refl
used_after_load false Off = refl
used_after_load false Used = refl

armed_unused : (f : Fallback) → is_armed f ≡ true → is_used f ≡ false
armed_unused Armed h = refl
armed_unused Off h = refl
armed_unused Used h = absurd (true≢false (sym h))

module _ (facts : List Facts) where
  -- the library context that a load leaves
  pub loaded_ordered : (lib active : LibCtx) (k : ℕ) (retain : Bool) (g : Given) → g.place ≡ k → lib.is_open ≡ true →
      Activated k lib active → IsOrderedLib facts lib → IsOrderedLib facts (loaded_of retain g active)
  loaded_ordered lib active k retain g of_box opened a h = record {
    distinct = joins_distinct k lib.order active.order a.joins h.distinct;
    given = rw (
      list_all-append (λ (g' : Given). is_active_box g'.place active.order) active.given (g ∷
          []),
      a.given,
      of_box,
      joins_active k lib.order active.order a.joins,
      given_more,
    ) refl;
    kept = joins_all k lib.order active.order
        (stays_active (kept_of facts (loaded_of retain g active)) (active.given ++ g ∷ []))
        (λ n. rw (list_any-append (λ (g' : Given). nat_eq g'.place k) active.given (g ∷ []), of_box, eq-eqb k k refl)
        (grind (arith, common_steps)))
        a.joins
        (all_more (stays_active (kept_of facts lib) lib.given)
        (stays_active (kept_of facts (loaded_of retain g active)) (active.given ++ g ∷ [])) stays lib.order h.kept);
    fallback = λ here used. joins_at k lib.order active.order (place_of default_name facts) a.joins
        (h.fallback opened (sym same_used ∙ used));
    closed = λ closed. absurd (true≢false (sym opened ∙ sym a.is_open ∙ closed));
  }
    where
      same_used : is_used (fallback_after_load retain active.fallback) ≡ is_used lib.fallback
      same_used = used_after_load retain active.fallback ∙ ap is_used a.fallback

      given_more : list_all (λ (g' : Given). is_active_box g'.place active.order) lib.given ≡ true
      given_more = all_more (λ (g' : Given). is_active_box g'.place lib.order)
          (λ (g' : Given). is_active_box g'.place active.order)
          (λ g' there. joins_more k lib.order active.order g'.place a.joins there) lib.given h.given

      stays : (x : Active) → stays_active (kept_of facts lib) lib.given x ≡ true →
          stays_active (kept_of facts (loaded_of retain g active)) (active.given ++ g ∷ []) x ≡ true
      stays x = stays_more (kept_of facts lib) (kept_of facts (loaded_of retain g active)) lib.given
          (active.given ++ g ∷ []) x
          (λ some. rw (
            list_any-append (λ (g' : Given). nat_eq g'.place x.place) active.given (g ∷
                []),
            a.given,
            some,
          ) refl)
          (λ keeps. rw same_used keeps)

  -- the library context that a fetch leaves that falls back
  pub used_ordered : (lib active : LibCtx) (k : ℕ) → place_of default_name facts ≡ Some k →
      is_armed lib.fallback ≡ true → lib.is_open ≡ true → Activated k lib active → IsOrderedLib facts lib →
      IsOrderedLib facts (used_of active)
  used_ordered lib active k found armed opened a h = record {
    distinct = joins_distinct k lib.order active.order a.joins h.distinct;
    given = rw a.given (all_more (λ (g : Given). is_active_box g.place lib.order) (λ
        (g : Given). is_active_box g.place active.order)
        (λ g there. joins_more k lib.order active.order g.place a.joins there) lib.given h.given);
    kept = joins_all k lib.order active.order (stays_active (kept_of facts (used_of active)) active.given)
        (λ n. rw (found, eq-eqb k k refl) (grind (arith, common_steps)))
        a.joins
        (all_more (stays_active (kept_of facts lib) lib.given)
        (stays_active (kept_of facts (used_of active)) active.given) stays lib.order h.kept);
    fallback = λ here used. rw found (joins_active k lib.order active.order a.joins);
    closed = λ closed. absurd (true≢false (sym opened ∙ sym a.is_open ∙ closed));
  }
    where
      stays : (x : Active) → stays_active (kept_of facts lib) lib.given x ≡ true →
          stays_active (kept_of facts (used_of active)) active.given x ≡ true
      stays x = stays_more (kept_of facts lib) (kept_of facts (used_of active)) lib.given active.given x
          (λ some. rw (a.given, some) refl)
          (λ keeps. let none : false ≡ true = (rw (armed_unused lib.fallback armed) at keeps) in absurd
          (true≢false (sym none)))

  -- the library context that an unload leaves
  pub unloaded_ordered : (lib : LibCtx) (t : ℕ) → IsOrderedLib facts lib →
      IsOrderedLib facts (unloaded_of (kept_of facts lib) t lib)
  unloaded_ordered lib t h =
      let rest = (returned_of t lib).given in
      let stays = stays_active (kept_of facts lib) rest in
      record {
        distinct = distinct_fewer place_of_active stays lib.order h.distinct;
        given = all_among (λ (g : Given). is_active_box g.place (filter stays lib.order)) rest (λ g among.
            still g.place (λ a same. with_given a g.place same (among (λ (g' : Given). nat_eq g'.place a.place)
            (eq-eqb g.place a.place (sym same))))
            (all_at_among (λ (g' : Given). is_active_box g'.place lib.order) rest g
            (all_fewer (λ (g' : Given). is_active_box g'.place lib.order)
            (λ (g' : Given). not (is_of_token t g')) lib.given h.given) among));
        kept = all_filtered stays lib.order;
        fallback = λ here used. default_stays (place_of default_name facts) (rw used refl) (h.fallback here used);
        closed = λ closed. let none = h.closed closed in (rw none.0 refl, rw none.1 refl);
      }
    where
      still : (j : ℕ) → ((a : Active) → a.place ≡ j → stays_active (kept_of facts lib)
          (returned_of t lib).given a ≡ true) → is_active_box j lib.order ≡ true →
          is_active_box j (filter (stays_active (kept_of facts lib) (returned_of t lib).given) lib.order) ≡ true
      still j stay there =
          rw (list_any-filter (λ (a : Active). nat_eq a.place j)
          (stays_active (kept_of facts lib) (returned_of t lib).given) lib.order)
          (any_more (λ (a : Active). nat_eq a.place j)
          (λ (a : Active). stays_active (kept_of facts lib) (returned_of t lib).given a && nat_eq a.place j)
          (λ a same. rw (stay a (eqb-true a.place j same), same) refl) lib.order there)

      with_given : (a : Active) (j : ℕ) → a.place ≡ j → list_any (λ (g : Given). nat_eq g.place a.place)
          (returned_of t lib).given ≡ true → stays_active (kept_of facts lib) (returned_of t lib).given a ≡ true
      with_given a j same some = rw some refl

      default_stays : (o : Option ℕ) → kept_of facts lib ≡ o → is_active_at o lib.order ≡ true →
          is_active_at o (filter (stays_active (kept_of facts lib) (returned_of t lib).given) lib.order) ≡ true
      default_stays None keeps h = absurd (true≢false (sym h))
      default_stays (Some j) keeps h = still j
          (λ a same. rw (keeps, same, eq-eqb j j refl) (grind (arith, common_steps))) h

  -- the library context that a close leaves
  pub closed_ordered : (lib : LibCtx) → IsOrderedLib facts (closed_of lib)
  closed_ordered lib = record {
    distinct = refl;
    given = refl;
    kept = refl;
    fallback = λ here used. absurd (true≢false (sym here));
    closed = λ closed. (refl, refl);
  }

  -- the library context with another default query
  pub defaulted_ordered : (lib : LibCtx) (query : List Clause) → IsOrderedLib facts lib →
      IsOrderedLib facts (defaulted_of lib query)
  defaulted_ordered lib query h = record
      { distinct = h.distinct; given = h.given; kept = h.kept; fallback = h.fallback; closed = h.closed }
