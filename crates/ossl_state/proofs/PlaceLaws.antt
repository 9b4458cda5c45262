-- Live elements hold what was started, and have the place of their first instance.
use Rattle.std.proofs.Common.{◌≡◌, ℕ, Bool, true, not, ◌&&◌, nat_eq, List, [], ◌∷◌, ◌++◌, refl, sym, inl, inr}
use Rattle.std.specs.List.{list_all, list_any}
use Rattle.std.specs.Prelude.{None, Some}
use Rattle.std.specs.declared.option.Option.{Option}
use Rattle.std.proofs.lemmas.Bool.{cases_Bool, and_parts, true≢false}
use Rattle.std.proofs.lemmas.List.Folds.{list_any-append, list_all-append}
use Rattle.ossl_codes.specs.declared.code.Operation.{Operation}
use Rattle.ossl_property.specs.declared.clause.Clause.{Clause}
use Rattle.ossl_provider.specs.Sheet.{Facts}
use Rattle.ossl_state.specs.declared.state.Born.{Born}
use Rattle.ossl_state.specs.declared.state.Choice.{Choice}
use Rattle.ossl_state.specs.declared.state.Live.{Live}
use Rattle.ossl_state.specs.declared.state.State.{State}
use Rattle.ossl_state.specs.Best.{best_method}
use Rattle.ossl_state.specs.History.{Fixed}
use Rattle.ossl_state.specs.Ordered.{is_born, is_first_of}
use Rattle.ossl_state.specs.Sound.{HasSoundInstances, is_paired}
use Rattle.ossl_state.specs.State.{lib_at, is_active_box}
use Rattle.ossl_state.specs.Step.{after_activation, after_fallback, after_fallback_to, element_of, fallback_of, held_by, held_by_inner, held_instance, is_named, new_context, new_instance, new_method, with_element, with_instance, without_element}
use Rattle.ossl_state.proofs.ChoiceLaws.{best_holds}
use Rattle.ossl_state.proofs.ListLaws.{all_at_among, all_fewer, all_more, any_more, find_some}

-- all that a live element holds was started, and its place is that of the first
abbrev pub is_placed : List Born → Live → Bool
is_placed born x = list_all (is_born born) x.held && is_first_of born x.place x.held

-- so is each live element of a state
abbrev pub all_placed : State → Bool
all_placed s = list_all (is_placed s.born) s.live

-- it stays so when an instance more is born
placed_more : (born : List Born) (b : Born) (x : Live) → is_placed born x ≡ true → is_placed (born ++ b ∷ []) x ≡ true
placed_more born b x h =
    let parts = and_parts (list_all (is_born born) x.held) (is_first_of born x.place x.held) h in
    rw (all_more (is_born born) (is_born (born ++ b ∷ []))
    (λ n there. more (λ b'. nat_eq b'.number n) there) x.held parts.0) (first x.held parts.1)
  where
    more : (q : Born → Bool) → list_any q born ≡ true → list_any q (born ++ b ∷ []) ≡ true
    more q there = rw (list_any-append q born (b ∷ []), there) refl

    first : (ns : List ℕ) → is_first_of born x.place ns ≡ true → is_first_of (born ++ b ∷ []) x.place ns ≡ true
    first [] f = f
    first (n ∷ ns) f = more (λ b'. nat_eq b'.number n && nat_eq b'.place x.place) f

-- an activation keeps the live elements so
pub placed_activation : (facts : List Facts) (s : State) (l k : ℕ) → all_placed s ≡ true →
    all_placed (after_activation facts s l k) ≡ true
placed_activation facts s l k h = elim (cases_Bool (is_active_box k (lib_at s l).order)) [
  | inl active ↦ rw active h
  | inr absent ↦ rw absent (instance (held_instance s l k))
]
  where
    instance : (o : Option ℕ) → all_placed (with_instance facts s l k o) ≡ true
    instance (Some n) = h
    instance None = all_more (is_placed s.born) (is_placed (with_instance facts s l k None).born)
        (λ x placed. placed_more s.born (new_instance facts s l k) x placed) s.live h

-- so does the fallback
pub placed_fallback : (facts : List Facts) (s : State) (l : ℕ) → all_placed s ≡ true →
    all_placed (after_fallback facts s l) ≡ true
placed_fallback facts s l h = to (fallback_of facts (lib_at s l))
  where
    to : (o : Option ℕ) → all_placed (after_fallback_to facts s l o) ≡ true
    to None = h
    to (Some k) = placed_activation facts s l k h

-- a new live element that is so
pub placed_element : (s : State) (x : Live) → all_placed s ≡ true → is_placed s.born x ≡ true →
    all_placed (with_element s x) ≡ true
placed_element s x h new = rw (list_all-append (is_placed s.born) s.live (x ∷ []), h, new) refl

pub placed_without : (s : State) (t : ℕ) → all_placed s ≡ true → all_placed (without_element s t) ≡ true
placed_without s t h = all_fewer (is_placed s.born) (λ (x : Live). not (is_named t x)) s.live h

-- the live element that a token names is so
pub placed_named : (s : State) (t : ℕ) (x : Live) → all_placed s ≡ true → element_of s t ≡ Some x →
    is_placed s.born x ≡ true
placed_named s t x h found = all_at_among (is_placed s.born) s.live x h (find_some (is_named t) s.live x found).1

-- the method of the best row
pub placed_method : (fixed : Fixed) (m : ℕ) (s : State) (c l : ℕ) (op : Operation) (name : List ℕ)
    (query : List Clause) (chosen : Choice) → HasSoundInstances fixed m s →
    best_method s l op name query ≡ Some chosen →
    is_placed s.born (new_method s.next c chosen) ≡ true
placed_method fixed m s c l op name query chosen sound e =
    let pair : is_paired s.born l (record { place = chosen.place; instance = chosen.instance }) ≡ true =
    best_holds s l op name query chosen (λ k n. is_paired s.born l (record { place = k; instance = n }))
    (sound.paired l) e in
    rw (
      any_more (λ (b : Born). nat_eq b.number chosen.instance && nat_eq b.place chosen.place && nat_eq b.lib l)
          (λ (b : Born). nat_eq b.number chosen.instance)
          (λ b h. (and_parts _ _ (and_parts _ _ h).0).0) s.born pair,
      any_more (λ (b : Born). nat_eq b.number chosen.instance && nat_eq b.place chosen.place && nat_eq b.lib l)
          (λ (b : Born). nat_eq b.number chosen.instance && nat_eq b.place chosen.place)
          (λ b h. (and_parts _ _ h).0) s.born pair,
    ) refl

-- the operation context of a method, and of an inner one or none
pub placed_context : (s : State) (c : ℕ) (inner : Option ℕ) (m : Live) → all_placed s ≡ true →
    is_placed s.born m ≡ true → is_placed s.born (new_context s c inner m) ≡ true
placed_context s c inner m h of_method =
    let parts = and_parts (list_all (is_born s.born) m.held) (is_first_of s.born m.place m.held) of_method in
    rw (list_all-append (is_born s.born) m.held (held_by_inner s inner), parts.0, of_inner inner) (first m.held parts.1)
  where
    of_element : (t : ℕ) (o : Option Live) → element_of s t ≡ o → list_all (is_born s.born) (held_by o) ≡ true
    of_element t None found = refl
    of_element t (Some x) found = (and_parts _ _ (placed_named s t x h found)).0

    of_inner : (o : Option ℕ) → list_all (is_born s.born) (held_by_inner s o) ≡ true
    of_inner None = refl
    of_inner (Some t) = of_element t (element_of s t) refl

    first : (ns : List ℕ) → is_first_of s.born m.place ns ≡ true →
        is_first_of s.born m.place (ns ++ held_by_inner s inner) ≡ true
    first [] f = absurd (true≢false (sym f))
    first (n ∷ ns) f = f
