-- The live elements after a step, and the tokens that are owned.
use Rattle.std.proofs.Common.{◌≡◌, ℕ, ◌+◌, Bool, true, false, ◌&&◌, ◌||◌, not, nat_eq, nat_lt, List, [], ◌∷◌, ◌++◌, map, refl, sym, ◌∙◌, arith, inl, inr}
use Rattle.std.specs.List.{list_any, filter}
use Rattle.std.specs.Prelude.{if◌then◌else◌, None, Some}
use Rattle.std.specs.declared.option.Option.{Option}
use Rattle.std.proofs.lemmas.Bool.{cases_Bool, and_parts, eqb-true, eq-eqb, ne_eqb, lt-ltb, ltb-true, true≢false, both_ways}
use Rattle.std.proofs.lemmas.Grind.{common_steps}
use Rattle.std.proofs.Math.Bool.{and-true}
use Rattle.std.proofs.lemmas.List.{length_push, map-append, append-nil}
use Rattle.std.proofs.lemmas.List.Elements.{filter-append}
use Rattle.std.proofs.lemmas.List.Folds.{list_any-append, list_all-append}
use Rattle.ossl_base.specs.declared.entry.Entry.{Entry}
use Rattle.ossl_provider.specs.Sheet.{Facts}
use Rattle.ossl_codes.specs.declared.code.Code.{Code}
use Rattle.ossl_provider.specs.Members.{is_distinct}
use Rattle.ossl_provider.proofs.MembersLaws.{is_distinct-push}
use Rattle.ossl_state.specs.declared.call.Call.{Call}
use Rattle.ossl_state.specs.declared.call.Call.TheVariants.{Load, Unload, SetDefault, Fetch, UpRef, Free, NewCtx, FreeCtx, CloseLib}
use Rattle.ossl_state.specs.declared.call.Reply.{Reply}
use Rattle.ossl_state.specs.declared.call.Reply.TheVariants.{Loaded, Fetched, Made, Done, NoLib, NoProvider, StartRefused, Unsupported, NotAdmitted}
use Rattle.ossl_state.specs.declared.state.Choice.{Choice}
use Rattle.ossl_state.specs.declared.state.Kind.{Kind}
use Rattle.ossl_state.specs.declared.state.Kind.TheVariants.{Method, Context}
use Rattle.ossl_state.specs.declared.state.Live.{Live}
use Rattle.ossl_state.specs.declared.state.State.{State}
use Rattle.ossl_state.specs.Best.{best_method}
use Rattle.ossl_state.specs.Boxes.{place_of}
use Rattle.ossl_state.specs.Sound.{HasSoundElements, HasSoundActivations, Lent, is_kind, is_own, is_live, is_lent_to, lent_by, lent_after, lent_from, number_of_live, number_of_lent}
use Rattle.ossl_state.specs.Step.{is_named, is_owned_by, after_fallback, fetched_of, admits, element_of, holder_of, new_method, new_context, second_method, with_second, left_by, Answers, IsLoaded}
use Rattle.ossl_state.specs.Tokens.{Token, activation_token, method_token, context_token, gains_by, gives_up_by, owns_after_entry, owns_after, owns, entries_of, owns_named}
use Rattle.ossl_state.proofs.HistoryLaws.{after_fallback-live, after_load-live, after_unload-live}
use Rattle.ossl_state.proofs.ListLaws.{any_witness, any_both, any_more, all_more, all_fewer, find_none, find_some, length-filter, distinct_fewer, is_in_below}

-- a fetch that is answered a row chose it
pub fetched_some : (facts : List Facts) (m n : ℕ) (p : List ℕ) (i r : ℕ) (code : Code) (o : Option Choice) → Fetched n p i r code ≡ fetched_of facts m o → (chosen : Choice) × (o ≡ Some chosen) × (n ≡ m)
fetched_some facts m n p i r code None e = cc
fetched_some facts m n p i r code (Some chosen) e = (chosen, refl, cc)

-- a method that is admitted is there
pub admitted_some : (facts : List Facts) (len : ℕ) (o : Option Live) → admits facts len o ≡ true → (m : Live) × (o ≡ Some m)
admitted_some facts len None e = absurd (true≢false (sym e))
admitted_some facts len (Some m) e = (m, refl)

-- 1. Their numbers.

pub elements-more : (n : ℕ) (live : List Live) → HasSoundElements n live → HasSoundElements (n + 1) live
elements-more n live h = record {
  distinct = h.distinct;
  below = all_more (λ x. nat_lt x.number n) (λ x. nat_lt x.number (n + 1)) (λ x less. let small = ltb-true x.number n less in lt-ltb x.number (n + 1) (omega arith)) live h.below;
  few = omega (arith, h.few);
}

elements-push : (n : ℕ) (live : List Live) (x : Live) → x.number ≡ n → HasSoundElements n live → HasSoundElements (n + 1) (live ++ x ∷ [])
elements-push n live x number h = record {
  distinct = rw (map-append number_of_live live (x ∷ []), number) (is_distinct-push (map number_of_live live) n h.distinct (is_in_below number_of_live n live h.below));
  below = rw (list_all-append (λ (y : Live). nat_lt y.number (n + 1)) live (x ∷ []), (elements-more n live h).below, number, lt-ltb n (n + 1) (omega arith)) refl;
  few = rw (length_push live x) (omega (arith, h.few));
}

-- a load is answered with the next number
loaded_number : (facts : List Facts) (s : State) (l n i skipped : ℕ) (o : Option ℕ) → IsLoaded facts s l (Loaded n i skipped) o → n ≡ s.next
loaded_number facts s l n i skipped None a = absurd a
loaded_number facts s l n i skipped (Some k) a = cc

activations-more : (n : ℕ) (lent : List Lent) → HasSoundActivations n lent → HasSoundActivations (n + 1) lent
activations-more n lent h = record {
  distinct = h.distinct;
  below = all_more (λ x. nat_lt x.number n) (λ x. nat_lt x.number (n + 1)) (λ x less. let small = ltb-true x.number n less in lt-ltb x.number (n + 1) (omega arith)) lent h.below;
}

activations-push : (n : ℕ) (lent : List Lent) (x : Lent) → x.number ≡ n → HasSoundActivations n lent → HasSoundActivations (n + 1) (lent ++ x ∷ [])
activations-push n lent x number h = record {
  distinct = rw (map-append number_of_lent lent (x ∷ []), number) (is_distinct-push (map number_of_lent lent) n h.distinct (is_in_below number_of_lent n lent h.below));
  below = rw (list_all-append (λ (y : Lent). nat_lt y.number (n + 1)) lent (x ∷ []), (activations-more n lent h).below, number, lt-ltb n (n + 1) (omega arith)) refl;
}

activations-filter : (n : ℕ) (lent : List Lent) (q : Lent → Bool) → HasSoundActivations n lent → HasSoundActivations n (filter q lent)
activations-filter n lent q h = record {
  distinct = distinct_fewer number_of_lent q lent h.distinct;
  below = all_fewer (λ x. nat_lt x.number n) q lent h.below;
}

-- the activations after one more entry
pub lent-push : (es : List (Entry Call Reply)) (e : Entry Call Reply) → lent_after (es ++ e ∷ []) ≡ lent_by (lent_after es) e.caller e.call e.reply
lent-push es e = from [] es
  where
    from : (lent : List Lent) (es : List (Entry Call Reply)) → lent_from lent (es ++ e ∷ []) ≡ lent_by (lent_from lent es) e.caller e.call e.reply
    from lent [] = refl
    from lent (x ∷ es) = from (lent_by lent x.caller x.call x.reply) es

elements-filter : (n : ℕ) (live : List Live) (q : Live → Bool) → HasSoundElements n live → HasSoundElements n (filter q live)
elements-filter n live q h = record {
  distinct = distinct_fewer number_of_live q live h.distinct;
  below = all_fewer (λ x. nat_lt x.number n) q live h.below;
  few = omega (arith, h.few, length-filter q live);
}

-- the activations that are lent after a step
pub activations_after : (facts : List Facts) (s : State) (c : ℕ) (call : Call) (reply : Reply) (lent : List Lent) → Answers facts s c call reply → HasSoundActivations s.next lent → HasSoundActivations (s.next + 1) (lent_by lent c call reply)
activations_after facts s c (Load l name retain) (Loaded n i skipped) lent a h = activations-push s.next lent (record { number = n; owner = c }) (loaded_number facts s l n i skipped (place_of name facts) a.1) h
activations_after facts s c (Unload t) NoLib lent a h = activations-more s.next (filter (λ x. not (nat_eq x.number t)) lent) (activations-filter s.next lent (λ x. not (nat_eq x.number t)) h)
activations_after facts s c (Unload t) Done lent a h = activations-more s.next (filter (λ x. not (nat_eq x.number t)) lent) (activations-filter s.next lent (λ x. not (nat_eq x.number t)) h)
activations_after facts s c (Load l name retain) NoLib lent a h = activations-more s.next lent h
activations_after facts s c (Load l name retain) NoProvider lent a h = activations-more s.next lent h
activations_after facts s c (Load l name retain) (StartRefused p) lent a h = activations-more s.next lent h
activations_after facts s c (SetDefault l q) reply lent a h = activations-more s.next lent h
activations_after facts s c (Fetch l op name q) reply lent a h = activations-more s.next lent h
activations_after facts s c (UpRef t) reply lent a h = activations-more s.next lent h
activations_after facts s c (Free t) reply lent a h = activations-more s.next lent h
activations_after facts s c (NewCtx t inner len) reply lent a h = activations-more s.next lent h
activations_after facts s c (FreeCtx t) reply lent a h = activations-more s.next lent h
activations_after facts s c (CloseLib l) reply lent a h = activations-more s.next lent h
activations_after facts s c call reply lent a h = absurd a

-- the live elements that a step leaves
pub elements_after : (facts : List Facts) (s : State) (c : ℕ) (call : Call) (reply : Reply) → Answers facts s c call reply → HasSoundElements s.next s.live → HasSoundElements (s.next + 1) (left_by facts s c call reply).live
elements_after facts s c (Load l name retain) NoLib a h = elements-more s.next s.live h
elements_after facts s c (Load l name retain) NoProvider a h = elements-more s.next s.live h
elements_after facts s c (Load l name retain) (StartRefused p) a h = elements-more s.next s.live h
elements_after facts s c (Load l name retain) (Loaded n i skipped) a h = rw (after_load-live facts s c l retain (place_of name facts)).0 (elements-more s.next s.live h)
elements_after facts s c (Unload t) NoLib a h = elements-more s.next s.live h
elements_after facts s c (Unload t) Done a h = rw (after_unload-live facts s t (holder_of s t)).0 (elements-more s.next s.live h)
elements_after facts s c (UpRef t) (Made n) a h = second (element_of s t)
  where
    second : (o : Option Live) → HasSoundElements (s.next + 1) (with_second s c o).live
    second None = elements-more s.next s.live h
    second (Some x) = elements-push s.next s.live (second_method s.next c x) refl h
elements_after facts s c (SetDefault l q) NoLib a h = elements-more s.next s.live h
elements_after facts s c (SetDefault l q) Done a h = elements-more s.next s.live h
elements_after facts s c (Fetch l op name q) NoLib a h = elements-more s.next s.live h
elements_after facts s c (Fetch l op name q) (StartRefused p) a h = elements-more s.next s.live h
elements_after facts s c (Fetch l op name q) Unsupported a h = rw (after_fallback-live facts s l).0 (elements-more s.next s.live h)
elements_after facts s c (Fetch l op name q) (Fetched n p i r code) a h =
    let f = after_fallback facts s l in
    let chosen = fetched_some facts s.next n p i r code (best_method f l op name q) a.1 in
    rw (chosen.1, (after_fallback-live facts s l).0) (elements-push s.next s.live (new_method f.next c chosen.0) (after_fallback-live facts s l).1 h)
elements_after facts s c (NewCtx t inner len) NotAdmitted a h = elements-more s.next s.live h
elements_after facts s c (NewCtx t inner len) (Made n) a h =
    let m = admitted_some facts len (element_of s t) a.0 in
    rw m.1 (elements-push s.next s.live (new_context s c inner m.0) refl h)
elements_after facts s c (Free t) Done a h = elements-more s.next (filter (λ x. not (is_named t x)) s.live) (elements-filter s.next s.live (λ x. not (is_named t x)) h)
elements_after facts s c (FreeCtx t) Done a h = elements-more s.next (filter (λ x. not (is_named t x)) s.live) (elements-filter s.next s.live (λ x. not (is_named t x)) h)
elements_after facts s c (CloseLib l) NoLib a h = elements-more s.next s.live h
elements_after facts s c (CloseLib l) Done a h = elements-more s.next s.live h
elements_after facts s c call reply a h = absurd a

-- 2. Their owners.

owns_after-push : (o : Bool) (es : List (Entry Call Reply)) (e : Entry Call Reply) (t : ℕ) (token : Token) → owns_after o (es ++ e ∷ []) t token ≡ owns_after_entry (owns_after o es t token) e t token
owns_after-push o [] e t token = refl
owns_after-push o (x ∷ es) e t token = owns_after-push (owns_after_entry o x t token) es e t token

-- ownership after one more entry
pub owns-push : (es : List (Entry Call Reply)) (e : Entry Call Reply) (c t : ℕ) (token : Token) →
    owns (entries_of c (es ++ e ∷ [])) t token ≡ (if nat_eq e.caller c then owns_after_entry (owns (entries_of c es) t token) e t token else owns (entries_of c es) t token)
owns-push es e c t token = rw (filter-append (λ (x : Entry Call Reply). nat_eq x.caller c) es (e ∷ [])) (elim (cases_Bool (nat_eq e.caller c)) [
  | inl mine ↦ rw mine (owns_after-push false (entries_of c es) e t token)
  | inr other ↦ rw (other, append-nil) refl
])

-- lists of what has a number and an owner
module _ {X : Type 0} (number : X → ℕ) where
  -- one that joins
  joined_any : (xs : List X) (x : X) (p : X → Bool) (t : ℕ) →
      list_any (λ y. nat_eq (number y) t && p y) (xs ++ x ∷ []) ≡ (list_any (λ y. nat_eq (number y) t && p y) xs || (nat_eq (number x) t && p x))
  joined_any xs x p t = rw (list_any-append (λ y. nat_eq (number y) t && p y) xs (x ∷ [])) (grind (arith, common_steps))

  -- one of another number goes
  other_goes : (xs : List X) (p : X → Bool) (t h : ℕ) → nat_eq t h ≡ false → list_any (λ x. nat_eq (number x) t && p x) xs ≡ true →
      list_any (λ x. nat_eq (number x) t && p x) (filter (λ x. not (nat_eq (number x) h)) xs) ≡ true
  other_goes [] p t h other some = some
  other_goes (x ∷ xs) p t h other some = elim (cases_Bool (nat_eq (number x) h)) [
    | inl gone ↦
        let same : number x ≡ h = eqb-true (number x) h gone in
        let no_t : nat_eq (number x) t ≡ false = rw same (ne_eqb h t (λ q. both_ways (nat_eq t h) other (eq-eqb t h (sym q)))) in
        rw gone (other_goes xs p t h other (rw no_t at some))
    | inr stays ↦ elim (cases_Bool (nat_eq (number x) t && p x)) [
      | inl here ↦ rw (stays, here) refl
      | inr elsewhere ↦ rw (stays, elsewhere) (other_goes xs p t h other (rw elsewhere at some))
    ]
  ]

  -- one that its owner gives back
  module _ (own : ℕ → X → Bool) (one : (c c' : ℕ) (x : X) → own c x ≡ true → own c' x ≡ true → c ≡ c') (xs : List X) (distinct : is_distinct (map number xs) ≡ true) (c' h : ℕ) (mine : list_any (λ x. nat_eq (number x) h && own c' x) xs ≡ true) where
    same_owner : (c : ℕ) → list_any (λ x. nat_eq (number x) h && own c x) xs ≡ true → c' ≡ c
    same_owner c there =
        let w = any_witness _ xs (any_both number h (own c') (own c) xs distinct mine there) in
        let outer = and_parts (nat_eq (number w.0) h) (own c' w.0 && own c w.0) w.1 in
        let both = and_parts (own c' w.0) (own c w.0) outer.1 in
        one c' c w.0 both.0 both.1

    goes : (c t : ℕ) (o : Bool) → (o ≡ true → list_any (λ x. nat_eq (number x) t && own c x) xs ≡ true) →
        (if nat_eq c' c then (if false then true else (if nat_eq h t then false else o)) else o) ≡ true →
        list_any (λ x. nat_eq (number x) t && own c x) (filter (λ x. not (nat_eq (number x) h)) xs) ≡ true
    goes c t o was after = elim (cases_Bool (nat_eq h t)) [
      | inl same ↦ elim (cases_Bool (nat_eq c' c)) [
        | inl own ↦ absurd (true≢false (sym (rw (own, same) at after)))
        | inr other ↦
            let owned : o ≡ true = (rw other at after) in
            let there = (rw (← eqb-true h t same) at (was owned)) in
            absurd (both_ways (nat_eq c' c) other (eq-eqb c' c (same_owner c there)))
      ]
      | inr other ↦
          let owned : o ≡ true = of_cases (nat_eq c' c) (rw other at after) in
          other_goes xs (own c) t h (ne_eqb t h (λ q. both_ways (nat_eq h t) other (eq-eqb h t (sym q)))) (was owned)
    ]
      where
        of_cases : (b : Bool) → (if b then (if false then true else (if false then false else o)) else o) ≡ true → o ≡ true
        of_cases true e = e
        of_cases false e = e

kind-same : (k kind : Kind) → is_kind k kind ≡ true → k ≡ kind
kind-same Method Method e = refl
kind-same Context Context e = refl
kind-same Method Context e = absurd (true≢false (sym e))
kind-same Context Method e = absurd (true≢false (sym e))

kind-itself : (k : Kind) → is_kind k k ≡ true
kind-itself Method = refl
kind-itself Context = refl

-- one element has one owner and one kind
one_owner : (n : ℕ) (live : List Live) (c c' t : ℕ) (kind kind' : Kind) → HasSoundElements n live →
    list_any (λ x. nat_eq x.number t && is_own c kind x) live ≡ true → list_any (λ x. nat_eq x.number t && is_own c' kind' x) live ≡ true → (c ≡ c') × (kind ≡ kind')
one_owner n live c c' t kind kind' h first second =
    let w = any_witness _ live (any_both number_of_live t (is_own c kind) (is_own c' kind') live h.distinct first second) in
    let outer = and_parts (nat_eq w.0.number t) (is_own c kind w.0 && is_own c' kind' w.0) w.1 in
    let both = and_parts (is_own c kind w.0) (is_own c' kind' w.0) outer.1 in
    let one = and_parts (is_owned_by c w.0) (is_kind w.0.kind kind) both.0 in
    let two = and_parts (is_owned_by c' w.0) (is_kind w.0.kind kind') both.1 in
    (sym (eqb-true w.0.owner c one.0) ∙ eqb-true w.0.owner c' two.0, sym (kind-same w.0.kind kind one.1) ∙ kind-same w.0.kind kind' two.1)

-- what an entry that neither gains nor gives up leaves owned was owned
stays_owned : (b o : Bool) → (if b then (if false then true else (if false then false else o)) else o) ≡ true → o ≡ true
stays_owned true o h = h
stays_owned false o h = h

-- an entry that gains a token of an element that joins
joins : (o l a b : Bool) → (o ≡ true → l ≡ true) → (if b then (if a then true else (if false then false else o)) else o) ≡ true → (l || (a && (b && true))) ≡ true
joins o l true true f h = grind (arith, common_steps)
joins o l true false f h = rw (f h) refl
joins o l false true f h = rw (f h) refl
joins o l false false f h = rw (f h) refl

joins_not : (o l x b : Bool) → (o ≡ true → l ≡ true) → (if b then (if false then true else (if false then false else o)) else o) ≡ true → (l || x) ≡ true
joins_not o l x b f h = rw (f (stays_owned b o h)) refl

-- an element of a kind has one owner
one_own : (kind : Kind) (c c' : ℕ) (x : Live) → is_own c kind x ≡ true → is_own c' kind x ≡ true → c ≡ c'
one_own kind c c' x first second =
    let one = and_parts (is_owned_by c x) (is_kind x.kind kind) first in
    let two = and_parts (is_owned_by c' x) (is_kind x.kind kind) second in
    sym (eqb-true x.owner c one.0) ∙ eqb-true x.owner c' two.0

-- so has an activation
one_lent : (c c' : ℕ) (x : Lent) → is_lent_to c x ≡ true → is_lent_to c' x ≡ true → c ≡ c'
one_lent c c' x first second = sym (eqb-true x.owner c first) ∙ eqb-true x.owner c' second

-- an element that its owner gives back
module _ (n : ℕ) (live : List Live) (c' h : ℕ) (kind' : Kind) (sound : HasSoundElements n live) (mine : list_any (λ x. nat_eq x.number h && is_own c' kind' x) live ≡ true) where
  -- a token of the same kind
  goes_own : (c t : ℕ) (o : Bool) → (o ≡ true → list_any (λ x. nat_eq x.number t && is_own c kind' x) live ≡ true) →
      (if nat_eq c' c then (if false then true else (if nat_eq h t then false else o)) else o) ≡ true →
      list_any (λ x. nat_eq x.number t && is_own c kind' x) (filter (λ x. not (is_named h x)) live) ≡ true
  goes_own c t o was after = goes number_of_live (λ c x. is_own c kind' x) (one_own kind') live sound.distinct c' h mine c t o was after

  -- a token of the other kind
  goes_not : (c t : ℕ) (kind : Kind) (o : Bool) → (kind' ≡ kind → ⊥) → (o ≡ true → list_any (λ x. nat_eq x.number t && is_own c kind x) live ≡ true) → o ≡ true →
      list_any (λ x. nat_eq x.number t && is_own c kind x) (filter (λ x. not (is_named h x)) live) ≡ true
  goes_not c t kind o differ was owned = elim (cases_Bool (nat_eq t h)) [
    | inl same ↦
        let there = (rw (eqb-true t h same) at (was owned)) in
        absurd (differ (one_owner n live c' c h kind' kind sound mine there).1)
    | inr other ↦ other_goes number_of_live live (is_own c kind) t h other (was owned)
  ]

-- an activation that joins
joins_lent : (o l a b : Bool) → (o ≡ true → l ≡ true) → (if b then (if a then true else (if false then false else o)) else o) ≡ true → (l || (a && b)) ≡ true
joins_lent o l a b f h = rw (and-true b) at (joins o l a b f h)

-- a method that a caller owns is the element that its token names
owned_method : (s : State) (c t : ℕ) → HasSoundElements s.next s.live → list_any (λ x. nat_eq x.number t && is_own c Method x) s.live ≡ true → (x : Live) × (element_of s t ≡ Some x) × (x.kind ≡ Method)
owned_method s c t h mine = of (element_of s t) refl
  where
    of : (o : Option Live) → element_of s t ≡ o → (x : Live) × (element_of s t ≡ Some x) × (x.kind ≡ Method)
    of None none = absurd (both_ways _ (find_none (is_named t) s.live none) (any_more (λ (x : Live). nat_eq x.number t && is_own c Method x) (is_named t) (λ x e. (and_parts (nat_eq x.number t) (is_own c Method x) e).0) s.live mine))
    of (Some x) is =
        let what = find_some (is_named t) s.live x is in
        let there = what.1 (λ y. nat_eq y.number t && is_own x.owner x.kind y) (rw (what.0, eq-eqb x.owner x.owner refl, kind-itself x.kind) refl) in
        (x, is, sym (one_owner s.next s.live c x.owner t Method x.kind h mine there).1)

-- a token that is owned after an entry is live after it
pub owned_after : (facts : List Facts) (s : State) (mine : List (Entry Call Reply)) (c' c t : ℕ) (token : Token) (call : Call) (reply : Reply) (o : Bool) (lent : List Lent) →
    Answers facts s c' call reply → HasSoundElements s.next s.live → HasSoundActivations s.next lent → owns_named mine call ≡ true → ((t : ℕ) (token : Token) → owns mine t token ≡ true → is_live s.live lent c' t token ≡ true) →
    (o ≡ true → is_live s.live lent c t token ≡ true) →
    (if nat_eq c' c then (if gains_by call reply t token then true else (if gives_up_by call reply t token then false else o)) else o) ≡ true →
    is_live (left_by facts s c' call reply).live (lent_by lent c' call reply) c t token ≡ true
owned_after facts s mine c' c t token (Load l name retain) NoLib o lent a h k named own was after = was (stays_owned (nat_eq c' c) o after)
owned_after facts s mine c' c t token (Load l name retain) NoProvider o lent a h k named own was after = was (stays_owned (nat_eq c' c) o after)
owned_after facts s mine c' c t token (Load l name retain) (StartRefused p) o lent a h k named own was after = was (stays_owned (nat_eq c' c) o after)
owned_after facts s mine c' c t activation_token (Load l name retain) (Loaded n i skipped) o lent a h k named own was after =
    rw (joined_any number_of_lent lent (record { number = n; owner = c' }) (is_lent_to c) t) (joins_lent o (is_live s.live lent c t activation_token) (nat_eq n t) (nat_eq c' c) was after)
owned_after facts s mine c' c t method_token (Load l name retain) (Loaded n i skipped) o lent a h k named own was after =
    rw (after_load-live facts s c' l retain (place_of name facts)).0 (was (stays_owned (nat_eq c' c) o after))
owned_after facts s mine c' c t context_token (Load l name retain) (Loaded n i skipped) o lent a h k named own was after =
    rw (after_load-live facts s c' l retain (place_of name facts)).0 (was (stays_owned (nat_eq c' c) o after))
owned_after facts s mine c' c t activation_token (Unload d) NoLib o lent a h k named own was after =
    goes number_of_lent is_lent_to one_lent lent k.distinct c' d (own d activation_token named) c t o was after
owned_after facts s mine c' c t method_token (Unload d) NoLib o lent a h k named own was after = was (stays_owned (nat_eq c' c) o after)
owned_after facts s mine c' c t context_token (Unload d) NoLib o lent a h k named own was after = was (stays_owned (nat_eq c' c) o after)
owned_after facts s mine c' c t activation_token (Unload d) Done o lent a h k named own was after =
    goes number_of_lent is_lent_to one_lent lent k.distinct c' d (own d activation_token named) c t o was after
owned_after facts s mine c' c t method_token (Unload d) Done o lent a h k named own was after =
    rw (after_unload-live facts s d (holder_of s d)).0 (was (stays_owned (nat_eq c' c) o after))
owned_after facts s mine c' c t context_token (Unload d) Done o lent a h k named own was after =
    rw (after_unload-live facts s d (holder_of s d)).0 (was (stays_owned (nat_eq c' c) o after))
owned_after facts s mine c' c t method_token (UpRef d) (Made n) o lent a h k named own was after =
    let m = owned_method s c' d h (own d method_token named) in
    let x = second_method s.next c' m.0 in
    rw (m.1, joined_any number_of_live s.live x (is_own c Method) t, m.2, ← a) (joins o (is_live s.live lent c t method_token) (nat_eq n t) (nat_eq c' c) was after)
owned_after facts s mine c' c t context_token (UpRef d) (Made n) o lent a h k named own was after =
    let m = owned_method s c' d h (own d method_token named) in
    let x = second_method s.next c' m.0 in
    rw (m.1, joined_any number_of_live s.live x (is_own c Context) t) (joins_not o (is_live s.live lent c t context_token) _ (nat_eq c' c) was after)
owned_after facts s mine c' c t activation_token (UpRef d) (Made n) o lent a h k named own was after = was (stays_owned (nat_eq c' c) o after)
owned_after facts s mine c' c t token (SetDefault l q) NoLib o lent a h k named own was after = was (stays_owned (nat_eq c' c) o after)
owned_after facts s mine c' c t token (SetDefault l q) Done o lent a h k named own was after = was (stays_owned (nat_eq c' c) o after)
owned_after facts s mine c' c t token (Fetch l op name q) NoLib o lent a h k named own was after = was (stays_owned (nat_eq c' c) o after)
owned_after facts s mine c' c t token (Fetch l op name q) (StartRefused p) o lent a h k named own was after = was (stays_owned (nat_eq c' c) o after)
owned_after facts s mine c' c t token (Fetch l op name q) Unsupported o lent a h k named own was after = rw (after_fallback-live facts s l).0 (was (stays_owned (nat_eq c' c) o after))
owned_after facts s mine c' c t method_token (Fetch l op name q) (Fetched n p i r code) o lent a h k named own was after =
    let f = fetched_some facts s.next n p i r code (best_method (after_fallback facts s l) l op name q) a.1 in
    let x = new_method (after_fallback facts s l).next c' f.0 in
    rw (f.1, joined_any number_of_live (after_fallback facts s l).live x (is_own c Method) t, (after_fallback-live facts s l).0, (after_fallback-live facts s l).1, ← f.2) (joins o (is_live s.live lent c t method_token) (nat_eq n t) (nat_eq c' c) was after)
owned_after facts s mine c' c t context_token (Fetch l op name q) (Fetched n p i r code) o lent a h k named own was after =
    let f = fetched_some facts s.next n p i r code (best_method (after_fallback facts s l) l op name q) a.1 in
    let x = new_method (after_fallback facts s l).next c' f.0 in
    rw (f.1, joined_any number_of_live (after_fallback facts s l).live x (is_own c Context) t, (after_fallback-live facts s l).0) (joins_not o (is_live s.live lent c t context_token) _ (nat_eq c' c) was after)
owned_after facts s mine c' c t activation_token (Fetch l op name q) (Fetched n p i r code) o lent a h k named own was after = was (stays_owned (nat_eq c' c) o after)
owned_after facts s mine c' c t token (NewCtx d inner len) NotAdmitted o lent a h k named own was after = was (stays_owned (nat_eq c' c) o after)
owned_after facts s mine c' c t context_token (NewCtx d inner len) (Made n) o lent a h k named own was after =
    let m = admitted_some facts len (element_of s d) a.0 in
    rw (m.1, joined_any number_of_live s.live (new_context s c' inner m.0) (is_own c Context) t, ← a.1) (joins o (is_live s.live lent c t context_token) (nat_eq n t) (nat_eq c' c) was after)
owned_after facts s mine c' c t method_token (NewCtx d inner len) (Made n) o lent a h k named own was after =
    let m = admitted_some facts len (element_of s d) a.0 in
    rw (m.1, joined_any number_of_live s.live (new_context s c' inner m.0) (is_own c Method) t) (joins_not o (is_live s.live lent c t method_token) _ (nat_eq c' c) was after)
owned_after facts s mine c' c t activation_token (NewCtx d inner len) (Made n) o lent a h k named own was after = was (stays_owned (nat_eq c' c) o after)
owned_after facts s mine c' c t method_token (Free d) Done o lent a h k named own was after = goes_own s.next s.live c' d Method h (own d method_token named) c t o was after
owned_after facts s mine c' c t context_token (Free d) Done o lent a h k named own was after =
    goes_not s.next s.live c' d Method h (own d method_token named) c t Context o (λ e. cc) was (stays_owned (nat_eq c' c) o after)
owned_after facts s mine c' c t activation_token (Free d) Done o lent a h k named own was after = was (stays_owned (nat_eq c' c) o after)
owned_after facts s mine c' c t context_token (FreeCtx d) Done o lent a h k named own was after = goes_own s.next s.live c' d Context h (own d context_token named) c t o was after
owned_after facts s mine c' c t method_token (FreeCtx d) Done o lent a h k named own was after =
    goes_not s.next s.live c' d Context h (own d context_token named) c t Method o (λ e. cc) was (stays_owned (nat_eq c' c) o after)
owned_after facts s mine c' c t activation_token (FreeCtx d) Done o lent a h k named own was after = was (stays_owned (nat_eq c' c) o after)
owned_after facts s mine c' c t token (CloseLib l) NoLib o lent a h k named own was after = was (stays_owned (nat_eq c' c) o after)
owned_after facts s mine c' c t token (CloseLib l) Done o lent a h k named own was after = was (stays_owned (nat_eq c' c) o after)
owned_after facts s mine c' c t token call reply o lent a h k named own was after = absurd a
