-- The program's own calls: why each is allowed, what its activations are, and what its closing leaves.
use Rattle.std.proofs.Common.{◌≡◌, ℕ, ◌+◌, ◌-◌, ◌<◌, ◌≤◌, zero, suc, Bool, true, false, not, nat_eq, nat_lt, List, [], ◌∷◌, ◌++◌, length, map, take, get_or, refl, sym, ap, subst, ◌∙◌, append_assoc, add-one, arith, inl, inr}
use Rattle.std.specs.List.{list_all, list_any, range_with_len}
use Rattle.std.specs.Prelude.{None, Some, Option, Result, Ok, Err, OnOk, reverse}
use Rattle.std.specs.Result.{IsErr, IsErrAnd, result_and}
use Rattle.std.proofs.lemmas.Bool.{cases_Bool, cases_eq, and_parts, eq-eqb, ne_eqb, true≢false}
use Rattle.std.proofs.lemmas.Bool.Decides.{nat_tests}
use Rattle.std.proofs.Math.Seq.{take-append_seam}
use Rattle.std.proofs.lemmas.List.{append-nil, length_push, length-map, map-append, reverse-append}
use Rattle.std.proofs.lemmas.List.Elements.{filter-append, filter_map-append}
use Rattle.std.proofs.lemmas.List.Folds.{list_all-append}
use Rattle.ossl_base.specs.declared.entry.Entry.{Entry}
use Rattle.ossl_provider.specs.Members.{is_distinct, is_in}
use Rattle.ossl_provider.proofs.MembersLaws.{is_distinct-push}
use Rattle.ossl_provider.specs.Sheet.{Facts}
use Rattle.ossl_property.specs.declared.clause.Clause.{Clause}
use Rattle.ossl_state.specs.declared.call.Call.{Call}
use Rattle.ossl_state.specs.declared.call.Call.TheVariants.{Load, Unload, SetDefault, CloseLib}
use Rattle.ossl_state.specs.declared.call.Reply.{Reply}
use Rattle.ossl_state.specs.declared.call.Reply.TheVariants.{Loaded, Done, NoLib}
use Rattle.ossl_state.specs.declared.state.State.{State}
use Rattle.ossl_state.specs.Boxes.{place_of}
use Rattle.ossl_state.specs.History.{Fixed, IsAllowed, IsLegal, IsNext, state_after}
use Rattle.ossl_state.specs.State.{lib_at}
use Rattle.ossl_state.specs.Step.{Answers, IsLoaded, closed_of, left_by}
use Rattle.ossl_state.specs.Tokens.{activation_token, context_token, entries_of, gains, gives_up, method_token, owns, owns_after}
use Rattle.ossl_state.proofs.ActiveLaws.{lib_at-other, lib_at-same}
use Rattle.ossl_state.proofs.HistoryLaws.{IsLegal-last, next-after, state_after-push}
use Rattle.ossl_state.proofs.LegalLaws.{sound_after}
use Rattle.ossl_ordered.specs.Opening.{activation_in, activations_of, closing_calls, is_loaded, load_calls}
use Rattle.ossl_ordered.specs.declared.opening.OpeningRefused.{OpeningRefused}
use Rattle.ossl_ordered.specs.declared.opening.OpeningRefused.TheVariants.{Provider, NoMemory}
use Rattle.ossl_ordered.specs.Opened.{AreLoaded, EndedAt, EndsLoad, EndsLoads, IsLoading}
use Rattle.ossl_ordered.specs.Owned.{AddsCalls, Closes, Follow, OwnsAll, is_program_call}
use Rattle.ossl_ordered.proofs.LiveLaws.{all_stay, owns_element, stays_owned, gained_owned}

abbrev by_program : Call → Reply → Entry Call Reply
by_program call reply = record { caller = 0; call = call; reply = reply }

-- 1. What the program may call.

below_true : (l n : ℕ) → l < n → nat_lt l n ≡ true
below_true l n less = grind (arith, nat_tests)

pub load_allowed : (fixed : Fixed) (mine : List (Entry Call Reply)) (name : List ℕ) → 0 < fixed.contexts → IsAllowed fixed mine (Load 0 name false)
load_allowed fixed mine name some = record { lib = below_true 0 fixed.contexts some; tokens = refl }

pub default_allowed : (fixed : Fixed) (mine : List (Entry Call Reply)) (query : List Clause) → 0 < fixed.contexts → IsAllowed fixed mine (SetDefault 0 query)
default_allowed fixed mine query some = record { lib = below_true 0 fixed.contexts some; tokens = refl }

pub closing_allowed : (fixed : Fixed) (mine : List (Entry Call Reply)) (l : ℕ) → l < fixed.contexts → IsAllowed fixed mine (CloseLib l)
closing_allowed fixed mine l there = record { lib = below_true l fixed.contexts there; tokens = refl }

-- 2. The opening.

abbrev pub listed : Option ℕ → List ℕ
listed None = []
listed (Some n) = n ∷ []

own_more : (entries : List (Entry Call Reply)) (call : Call) (reply : Reply) → entries_of 0 entries ≡ entries → entries_of 0 (entries ++ by_program call reply ∷ []) ≡ entries ++ by_program call reply ∷ []
own_more entries call reply own = filter-append (λ (e : Entry Call Reply). nat_eq e.caller 0) entries (by_program call reply ∷ []) ∙ ap (λ l. l ++ by_program call reply ∷ []) own

loaded_number : (facts : List Facts) (s : State) (l n i skipped : ℕ) (o : Option ℕ) → IsLoaded facts s l (Loaded n i skipped) o → n ≡ s.next
loaded_number facts s l n i skipped None is = absurd is
loaded_number facts s l n i skipped (Some k) is = cc

below_apart : (n : ℕ) (xs : List ℕ) → list_all (λ t. nat_lt t n) xs ≡ true → is_in n xs ≡ false
below_apart n [] all = refl
below_apart n (x ∷ xs) all =
    let parts = and_parts _ _ all in
    let less : x < n = grind (arith, nat_tests) in
    rw (ne_eqb x n (λ same. absurd (omega (arith, less, same))), below_apart n xs parts.1) refl

below_more : (n : ℕ) (xs : List ℕ) → list_all (λ t. nat_lt t n) xs ≡ true → list_all (λ t. nat_lt t (n + 1)) xs ≡ true
below_more n xs all = all_stay (λ t. nat_lt t n) (λ t. nat_lt t (n + 1)) xs (λ t less. grind (arith, nat_tests)) all

module _ (fixed : Fixed) (entries : List (Entry Call Reply)) (tokens : List ℕ) (so_far : IsLoading fixed entries tokens) where
  -- a further entry that gives no activation up and hands out none
  quiet : (call : Call) (reply : Reply) → is_program_call call ≡ true → activation_in reply ≡ None → ((t : ℕ) → gives_up (by_program call reply) t activation_token ≡ false) →
      IsLegal fixed (entries ++ by_program call reply ∷ []) → IsLoading fixed (entries ++ by_program call reply ∷ []) tokens
  quiet call reply program none keeps legal = record {
    legal = legal;
    apart = own_more entries call reply so_far.apart;
    calls = rw (list_all-append (λ (e : Entry Call Reply). is_program_call e.call) entries (by_program call reply ∷ []), so_far.calls, program) refl;
    answered = so_far.answered ∙ sym (append-nil (activations_of entries)) ∙ ap (λ l. activations_of entries ++ l) (sym one) ∙ sym (filter_map-append (λ (e : Entry Call Reply). activation_in e.reply) entries (by_program call reply ∷ []));
    owns = record {
      owned = all_stay (λ t. owns (entries_of 0 entries) t activation_token) (λ t. owns (entries_of 0 (entries ++ by_program call reply ∷ [])) t activation_token) tokens
          (λ t owned. stays_owned entries (by_program call reply) 0 t activation_token (keeps t) owned) so_far.owns.owned;
      distinct = so_far.owns.distinct;
    };
    below = rw (length_push entries (by_program call reply)) (below_more (length entries + 1) tokens so_far.below);
  }
    where
      one : activations_of (by_program call reply ∷ []) ≡ []
      one = rw none refl

  -- a load that is answered with an activation
  loaded_more : (name : List ℕ) (n i skipped : ℕ) → IsLegal fixed (entries ++ by_program (Load 0 name false) (Loaded n i skipped) ∷ []) →
      IsLoading fixed (entries ++ by_program (Load 0 name false) (Loaded n i skipped) ∷ []) (tokens ++ n ∷ [])
  loaded_more name n i skipped legal = record {
    legal = legal;
    apart = own_more entries (Load 0 name false) (Loaded n i skipped) so_far.apart;
    calls = rw (list_all-append (λ (e : Entry Call Reply). is_program_call e.call) entries (e ∷ []), so_far.calls) refl;
    answered = ap (λ l. l ++ n ∷ []) so_far.answered ∙ sym (filter_map-append (λ (e : Entry Call Reply). activation_in e.reply) entries (e ∷ []));
    owns = record {
      owned = rw (list_all-append (λ t. owns (entries_of 0 (entries ++ e ∷ [])) t activation_token) tokens (n ∷ []), old, new) refl;
      distinct = is_distinct-push tokens n so_far.owns.distinct (below_apart n tokens (subst (λ m. list_all (λ t. nat_lt t m) tokens ≡ true) (sym number) so_far.below));
    };
    below = rw (length_push entries e, list_all-append (λ t. nat_lt t (length entries + 1 + 1)) tokens (n ∷ []), below_more (length entries + 1) tokens so_far.below, last) refl;
  }
    where
      e : Entry Call Reply
      e = by_program (Load 0 name false) (Loaded n i skipped)

      next : IsNext fixed entries (by_program (Load 0 name false) (Loaded n i skipped))
      next = (IsLegal-last fixed entries (by_program (Load 0 name false) (Loaded n i skipped)) legal).1

      number : n ≡ length entries + 1
      number = loaded_number fixed.facts (state_after fixed entries) 0 n i skipped (place_of name fixed.facts) next.answers.1 ∙ next-after fixed entries

      old : list_all (λ t. owns (entries_of 0 (entries ++ by_program (Load 0 name false) (Loaded n i skipped) ∷ [])) t activation_token) tokens ≡ true
      old = all_stay (λ t. owns (entries_of 0 entries) t activation_token) (λ t. owns (entries_of 0 (entries ++ by_program (Load 0 name false) (Loaded n i skipped) ∷ [])) t activation_token) tokens
          (λ t owned. stays_owned entries (by_program (Load 0 name false) (Loaded n i skipped)) 0 t activation_token refl owned) so_far.owns.owned

      new : owns (entries_of 0 (entries ++ by_program (Load 0 name false) (Loaded n i skipped) ∷ [])) n activation_token ≡ true
      new = gained_owned entries (by_program (Load 0 name false) (Loaded n i skipped)) n activation_token (eq-eqb n n refl)

      last : nat_lt n (length entries + 1 + 1) ≡ true
      last = let is : n ≡ length entries + 1 = number in below_true n (length entries + 1 + 1) (omega (arith, is))

  -- a load, whatever its reply
  pub load_more : (name : List ℕ) (reply : Reply) → IsLegal fixed (entries ++ by_program (Load 0 name false) reply ∷ []) →
      IsLoading fixed (entries ++ by_program (Load 0 name false) reply ∷ []) (tokens ++ listed (activation_in reply))
  load_more name (Loaded n i skipped) legal = loaded_more name n i skipped legal
  load_more name reply legal = rw (append-nil tokens) (quiet (Load 0 name false) reply refl refl (λ t. refl) legal)

  -- the default query is set
  pub default_more : (query : List Clause) (reply : Reply) → IsLegal fixed (entries ++ by_program (SetDefault 0 query) reply ∷ []) →
      IsLoading fixed (entries ++ by_program (SetDefault 0 query) reply ∷ []) tokens
  default_more query reply legal = quiet (SetDefault 0 query) reply refl (none reply (IsLegal-last fixed entries (by_program (SetDefault 0 query) reply) legal).1.answers) (λ t. refl) legal
    where
      none : (reply : Reply) → Answers fixed.facts (state_after fixed entries) 0 (SetDefault 0 query) reply → activation_in reply ≡ None
      none Done a = refl
      none NoLib a = refl
      none reply a = absurd a

pub loaded_some : (reply : Reply) (n : ℕ) → activation_in reply ≡ Some n → is_loaded reply ≡ true
loaded_some (Loaded n i skipped) m is = refl
loaded_some reply m is = cc

pub loaded_none : (reply : Reply) → activation_in reply ≡ None → is_loaded reply ≡ false
loaded_none (Loaded n i skipped) is = cc
loaded_none reply is = refl

-- before the first load nothing is loaded
pub loading_none : (fixed : Fixed) → IsLoading fixed [] []
loading_none fixed = record { legal = tt; apart = refl; calls = refl; answered = refl; owns = record { owned = refl; distinct = refl }; below = refl }

take_next : (names : List (List ℕ)) (i : ℕ) (name : List ℕ) → i < length names → name ≡ get_or names i name → take (i + 1) names ≡ take i names ++ name ∷ []
take_next [] i name here is = absurd (omega (arith, here))
take_next (x ∷ names) zero name here is = rw is refl
take_next (x ∷ names) (suc i) name here is =
    let less : i < length names = omega (arith, here) in
    let rest : take (suc i) names ≡ take i names ++ name ∷ [] = subst (λ n. take n names ≡ take i names ++ name ∷ []) (add-one i) (take_next names i name less is) in
    subst (λ n. take n (x ∷ names) ≡ x ∷ (take i names ++ name ∷ [])) (sym (add-one (suc i))) (ap (λ l. x ∷ l) rest)

module _ (names : List (List ℕ)) (entries : List (Entry Call Reply)) (i : ℕ) (so_far : AreLoaded (take i names) entries) (name : List ℕ) (here : i < length names) (is : name ≡ get_or names i name) (reply : Reply) where
  -- one more is loaded
  pub are_loaded-more : is_loaded reply ≡ true → AreLoaded (take (i + 1) names) (entries ++ by_program (Load 0 name false) reply ∷ [])
  are_loaded-more loaded = record {
    calls = map-append (λ (e : Entry Call Reply). e.call) entries (by_program (Load 0 name false) reply ∷ [])
        ∙ ap (λ l. l ++ Load 0 name false ∷ []) so_far.calls
        ∙ sym (ap load_calls (take_next names i name here is) ∙ map-append (λ name. Load 0 name false) (take i names) (name ∷ []));
    loaded = rw (list_all-append (λ (e : Entry Call Reply). is_loaded e.reply) entries (by_program (Load 0 name false) reply ∷ []), so_far.loaded, loaded) refl;
  }

take_len : (names : List (List ℕ)) (i : ℕ) → i ≤ length names → length (take i names) ≡ i
take_len names zero fits = refl
take_len [] (suc i) fits = absurd (omega (arith, fits))
take_len (x ∷ names) (suc i) fits =
    let less : i ≤ length names = omega (arith, fits) in
    let rest = take_len names i less in
    omega (arith, rest)

take_map : (names : List (List ℕ)) (i : ℕ) → take i (load_calls names) ≡ load_calls (take i names)
take_map names zero = refl
take_map [] (suc i) = refl
take_map (x ∷ names) (suc i) = ap (λ l. Load 0 x false ∷ l) (take_map names i)

index_any : (names : List (List ℕ)) (i : ℕ) (a b : List ℕ) → i < length names → get_or names i a ≡ get_or names i b
index_any [] i a b here = absurd (omega (arith, here))
index_any (x ∷ names) zero a b here = refl
index_any (x ∷ names) (suc i) a b here = index_any names i a b (omega (arith, here))

module _ (names : List (List ℕ)) (entries : List (Entry Call Reply)) (i : ℕ) (so_far : AreLoaded (take i names) entries) (name : List ℕ) (here : i < length names) (is : name ≡ get_or names i name) (reply : Reply) where
  -- the load of the next one is not answered with an activation
  pub ended_more : is_loaded reply ≡ false → EndedAt names name (entries ++ by_program (Load 0 name false) reply ∷ [])
  ended_more refused = record {
    calls = map-append (λ (e : Entry Call Reply). e.call) entries (by_program (Load 0 name false) reply ∷ [])
        ∙ ap (λ l. l ++ Load 0 name false ∷ []) so_far.calls
        ∙ sym (ap load_calls (take_next names i name here is) ∙ map-append (λ name. Load 0 name false) (take i names) (name ∷ []))
        ∙ sym (take_map names (i + 1))
        ∙ ap (λ n. take n (load_calls names)) (sym whole);
    loaded = subst (λ n. list_all (λ (e : Entry Call Reply). is_loaded e.reply) (take n (entries ++ by_program (Load 0 name false) reply ∷ [])) ≡ true) (sym short)
        (subst (λ (l : List (Entry Call Reply)). list_all (λ (e : Entry Call Reply). is_loaded e.reply) l ≡ true) (sym kept) so_far.loaded);
    ended = list_any_last entries;
    named = is ∙ index_any names i name [] here ∙ ap (λ n. get_or names n []) (sym short);
  }
    where
      count : length entries ≡ i
      count = sym (length-map entries (λ (e : Entry Call Reply). e.call)) ∙ ap length so_far.calls ∙ length-map (take i names) (λ (name : List ℕ). Load 0 name false) ∙ take_len names i (omega (arith, here))

      whole : length (entries ++ by_program (Load 0 name false) reply ∷ []) ≡ i + 1
      whole = length_push entries (by_program (Load 0 name false) reply) ∙ ap (λ n. n + 1) count

      short : length (entries ++ by_program (Load 0 name false) reply ∷ []) - 1 ≡ i
      short = let is : length (entries ++ by_program (Load 0 name false) reply ∷ []) ≡ i + 1 = whole in omega (arith, is)

      kept : take i (entries ++ by_program (Load 0 name false) reply ∷ []) ≡ entries
      kept = ap (λ n. take n (entries ++ by_program (Load 0 name false) reply ∷ [])) (sym count) ∙ take-append_seam entries (by_program (Load 0 name false) reply ∷ [])

      list_any_last : (es : List (Entry Call Reply)) → list_any (λ (e : Entry Call Reply). not (is_loaded e.reply)) (es ++ by_program (Load 0 name false) reply ∷ []) ≡ true
      list_any_last [] = rw refused refl
      list_any_last (e ∷ es) = rw (list_any_last es) (elim (cases_Bool (is_loaded e.reply)) [ inl a ↦ rw a refl | inr b ↦ rw b refl ])

-- 3. Calls that follow.

pub adds_none : (old : List (Entry Call Reply)) → AddsCalls [] old old
adds_none old = record { added = []; parts = sym (append-nil old); apart = refl; calls_are = refl }

pub adds_join : (xs ys : List Call) (a b c : List (Entry Call Reply)) → AddsCalls xs a b → AddsCalls ys b c → AddsCalls (xs ++ ys) a c
adds_join xs ys a b c first second = record {
  added = first.added ++ second.added;
  parts = second.parts ∙ ap (λ l. l ++ second.added) first.parts ∙ append_assoc a first.added second.added;
  apart = filter-append (λ (e : Entry Call Reply). nat_eq e.caller 0) first.added second.added ∙ ap (λ l. l ++ entries_of 0 second.added) first.apart ∙ ap (λ l. first.added ++ l) second.apart;
  calls_are = map-append (λ (e : Entry Call Reply). e.call) first.added second.added ∙ ap (λ l. l ++ map (λ e. e.call) second.added) first.calls_are ∙ ap (λ l. xs ++ l) second.calls_are;
}

pub adds_one : (call : Call) (reply : Reply) (old new : List (Entry Call Reply)) → new ≡ old ++ by_program call reply ∷ [] → AddsCalls (call ∷ []) old new
adds_one call reply old new is = record { added = by_program call reply ∷ []; parts = is; apart = refl; calls_are = refl }

pub follow_none : (old : List (Entry Call Reply)) → Follow old old []
follow_none old = record { parts = sym (append-nil old); apart = refl; calls = refl }

pub follow_one : (call : Call) (reply : Reply) (old new : List (Entry Call Reply)) → is_program_call call ≡ true → new ≡ old ++ by_program call reply ∷ [] → Follow old new (by_program call reply ∷ [])
follow_one call reply old new program is = record { parts = is; apart = refl; calls = rw program refl }

pub follow_join : (a b c first second : List (Entry Call Reply)) → Follow a b first → Follow b c second → Follow a c (first ++ second)
follow_join a b c first second one two = record {
  parts = two.parts ∙ ap (λ l. l ++ second) one.parts ∙ append_assoc a first second;
  apart = filter-append (λ (e : Entry Call Reply). nat_eq e.caller 0) first second ∙ ap (λ l. l ++ entries_of 0 second) one.apart ∙ ap (λ l. first ++ l) two.apart;
  calls = rw (list_all-append (λ (e : Entry Call Reply). is_program_call e.call) first second, one.calls, two.calls) refl;
}

-- calls that are the program's
pub follow_calls : (calls : List Call) (old new : List (Entry Call Reply)) → list_all is_program_call calls ≡ true → (adds : AddsCalls calls old new) → Follow old new adds.added
follow_calls calls old new program adds = record { parts = adds.parts; apart = adds.apart; calls = mapped adds.added ∙ ap (list_all is_program_call) adds.calls_are ∙ program }
  where
    mapped : (es : List (Entry Call Reply)) → list_all (λ (e : Entry Call Reply). is_program_call e.call) es ≡ list_all is_program_call (map (λ (e : Entry Call Reply). e.call) es)
    mapped [] = refl
    mapped (e ∷ es) = rw (mapped es) refl

-- 4. Activations that are given back.

any_push : (i : ℕ) (xs : List ℕ) (y : ℕ) → is_in i (xs ++ y ∷ []) ≡ false → is_in i xs ≡ false
any_push i [] y none = refl
any_push i (x ∷ xs) y none = elim (cases_Bool (nat_eq x i)) [
  | inl here ↦ absurd (true≢false (rw here at none))
  | inr other ↦ rw other (any_push i xs y (rw other at none))
]

any_last : (i : ℕ) (xs : List ℕ) (y : ℕ) → is_in i (xs ++ y ∷ []) ≡ false → nat_eq y i ≡ false
any_last i [] y none = elim (cases_Bool (nat_eq y i)) [ inl here ↦ absurd (true≢false (rw here at none)) | inr other ↦ other ]
any_last i (x ∷ xs) y none = elim (cases_Bool (nat_eq x i)) [
  | inl here ↦ absurd (true≢false (rw here at none))
  | inr other ↦ any_last i xs y (rw other at none)
]

not_true : (b : Bool) → not b ≡ true → b ≡ false
not_true true is = absurd (true≢false (sym is))
not_true false is = refl

pub record Apart (xs : List ℕ) (t : ℕ) : Type 0 where
  pub distinct : is_distinct xs ≡ true
  pub others : list_all (λ x. not (nat_eq t x)) xs ≡ true

apart_last : (xs : List ℕ) (t : ℕ) → is_distinct (xs ++ t ∷ []) ≡ true → Apart xs t
apart_last [] t distinct = record { distinct = refl; others = refl }
apart_last (x ∷ xs) t distinct =
    let parts = and_parts _ _ distinct in
    let none = not_true (is_in x (xs ++ t ∷ [])) parts.0 in
    let rest = apart_last xs t parts.1 in
    record {
      distinct = rw (any_push x xs t none, rest.distinct) refl;
      others = rw (any_last x xs t none, rest.others) refl;
    }

both_all : {X : Type 0} (p q r : X → Bool) (xs : List X) → ((x : X) → p x ≡ true → q x ≡ true → r x ≡ true) → list_all p xs ≡ true → list_all q xs ≡ true → list_all r xs ≡ true
both_all p q r [] step one two = refl
both_all p q r (x ∷ xs) step one two =
    let first = and_parts _ _ one in
    let second = and_parts _ _ two in
    rw (step x first.0 second.0, both_all p q r xs step first.1 second.1) refl

module _ (entries : List (Entry Call Reply)) (tokens : List ℕ) (t : ℕ) (owns_all : OwnsAll (tokens ++ t ∷ []) entries) where
  owned_parts : (list_all (λ t. owns (entries_of 0 entries) t activation_token) tokens ≡ true) × (owns (entries_of 0 entries) t activation_token ≡ true)
  owned_parts =
      let both = and_parts _ _ (rw (list_all-append (λ t. owns (entries_of 0 entries) t activation_token) tokens (t ∷ [])) at owns_all.owned) in
      (both.0, (and_parts _ _ both.1).0)

  pub unload_allowed : (fixed : Fixed) → IsAllowed fixed (entries_of 0 entries) (Unload t)
  unload_allowed fixed = record { lib = refl; tokens = owned_parts.1 }

  pub unload_more : (reply : Reply) → OwnsAll tokens (entries ++ by_program (Unload t) reply ∷ [])
  unload_more reply = record {
    owned = both_all (λ t. owns (entries_of 0 entries) t activation_token) (λ x. not (nat_eq t x)) (λ t'. owns (entries_of 0 (entries ++ by_program (Unload t) reply ∷ [])) t' activation_token) tokens
        (λ x owned other. stays_owned entries (by_program (Unload t) reply) 0 x activation_token (not_true (nat_eq t x) other) owned) owned_parts.0 (apart_last tokens t owns_all.distinct).others;
    distinct = (apart_last tokens t owns_all.distinct).distinct;
  }

-- 5. Library contexts that are closed.

module _ (fixed : Fixed) (entries : List (Entry Call Reply)) (l : ℕ) (there : l < fixed.contexts) (legal_before : IsLegal fixed entries) where
  closed_there : (reply : Reply) → Answers fixed.facts (state_after fixed entries) 0 (CloseLib l) reply → (lib_at (left_by fixed.facts (state_after fixed entries) 0 (CloseLib l) reply) l).is_open ≡ false
  closed_there Done a = ap (λ lib. lib.is_open) (lib_at-same (state_after fixed entries) l (closed_of (lib_at (state_after fixed entries) l)) (omega (arith, there, (sound_after fixed entries legal_before).instances.contexts)))
  closed_there NoLib a = a
  closed_there reply a = absurd a

  closed_others : (reply : Reply) (m : ℕ) → Answers fixed.facts (state_after fixed entries) 0 (CloseLib l) reply → (lib_at (state_after fixed entries) m).is_open ≡ false →
      (lib_at (left_by fixed.facts (state_after fixed entries) 0 (CloseLib l) reply) m).is_open ≡ false
  closed_others Done m a closed = elim (cases_eq m l) [
    | inl same ↦ rw same (closed_there Done a)
    | inr other ↦ ap (λ lib. lib.is_open) (lib_at-other (state_after fixed entries) l (closed_of (lib_at (state_after fixed entries) l)) (omega (arith, there, (sound_after fixed entries legal_before).instances.contexts)) m other) ∙ closed
  ]
  closed_others NoLib m a closed = closed
  closed_others reply m a closed = absurd a

  pub close_there : (reply : Reply) → IsLegal fixed (entries ++ by_program (CloseLib l) reply ∷ []) → (lib_at (state_after fixed (entries ++ by_program (CloseLib l) reply ∷ [])) l).is_open ≡ false
  close_there reply legal =
      rw (state_after-push fixed entries (by_program (CloseLib l) reply)) (closed_there reply (IsLegal-last fixed entries (by_program (CloseLib l) reply) legal).1.answers)

  pub close_others : (reply : Reply) (m : ℕ) → IsLegal fixed (entries ++ by_program (CloseLib l) reply ∷ []) → (lib_at (state_after fixed entries) m).is_open ≡ false →
      (lib_at (state_after fixed (entries ++ by_program (CloseLib l) reply ∷ [])) m).is_open ≡ false
  close_others reply m legal closed =
      rw (state_after-push fixed entries (by_program (CloseLib l) reply)) (closed_others reply m (IsLegal-last fixed entries (by_program (CloseLib l) reply) legal).1.answers closed)

pub range_more : (a n : ℕ) → range_with_len a (n + 1) ≡ range_with_len a n ++ (a + n) ∷ []
range_more a zero = let e : a + 0 ≡ a = omega arith in rw e refl
range_more a (suc n) =
    let e : a + suc n ≡ a + 1 + n = omega arith in
    ap (range_with_len a) (add-one (suc n))
    ∙ ap (λ l. a ∷ l) (ap (range_with_len (a + 1)) (sym (add-one n)) ∙ range_more (a + 1) n)
    ∙ ap (λ m. a ∷ (range_with_len (a + 1) n ++ m ∷ [])) (sym e)

pub closes_none : (old : List (Entry Call Reply)) → Closes 0 old old
closes_none old = adds_none old

-- one more is closed, where both told no want of memory
pub closes_more : {E : Type 0} (o c : Result (Unit {0}) E) (l : ℕ) (a b d : List (Entry Call Reply)) → OnOk o (Closes l a b) → OnOk c (AddsCalls (CloseLib l ∷ []) b d) → OnOk (result_and o c) (Closes (l + 1) a d)
closes_more (Ok x) (Ok y) l a b d first second =
    let calls : map CloseLib (range_with_len 0 l) ++ CloseLib l ∷ [] ≡ map CloseLib (range_with_len 0 (l + 1)) =
    let e : 0 + l ≡ l = omega arith in
    sym (ap (map CloseLib) (range_more 0 l ∙ ap (λ m. range_with_len 0 l ++ m ∷ []) e) ∙ map-append CloseLib (range_with_len 0 l) (l ∷ [])) in
    subst (λ cs. AddsCalls cs a d) calls (adds_join (map CloseLib (range_with_len 0 l)) (CloseLib l ∷ []) a b d first second)
closes_more (Ok x) (Err y) l a b d first second = tt
closes_more (Err x) c l a b d first second = tt

pub unloads_program : (ts : List ℕ) → list_all is_program_call (map Unload ts) ≡ true
unloads_program [] = refl
unloads_program (t ∷ ts) = unloads_program ts

-- the calls of a closing are the program's
pub closing_program : (contexts : ℕ) (tokens : List ℕ) → list_all is_program_call (closing_calls contexts tokens) ≡ true
closing_program contexts tokens =
    list_all-append is_program_call (map Unload (reverse tokens)) (map CloseLib (range_with_len 0 contexts))
    ∙ rw (unloads_program (reverse tokens), closes (range_with_len 0 contexts)) refl
  where
    closes : (ls : List ℕ) → list_all is_program_call (map CloseLib ls) ≡ true
    closes [] = refl
    closes (l ∷ ls) = closes ls

-- 6. The program owns no method and no operation context.

-- a call of the program hands out neither
quiet_call : (call : Call) (reply : Reply) (t : ℕ) → is_program_call call ≡ true → (gains (by_program call reply) t method_token ≡ false) × (gains (by_program call reply) t context_token ≡ false)
quiet_call (Load l name retain) (Loaded n i skipped) t program = (refl, refl)
quiet_call (Load l name retain) reply t program = (refl, refl)
quiet_call (Unload u) reply t program = (refl, refl)
quiet_call (SetDefault l query) reply t program = (refl, refl)
quiet_call (CloseLib l) reply t program = (refl, refl)
quiet_call call reply t program = absurd (true≢false (sym program))

owns_no_element : (es : List (Entry Call Reply)) (t : ℕ) → list_all (λ (e : Entry Call Reply). is_program_call e.call) es ≡ true →
    (owns_after false es t method_token ≡ false) × (owns_after false es t context_token ≡ false)
owns_no_element [] t program = (refl, refl)
owns_no_element (e ∷ es) t program =
    let parts = and_parts _ _ program in
    let none = quiet_call e.call e.reply t parts.0 in
    let rest = owns_no_element es t parts.1 in (
      (elim (cases_Bool (gives_up e t method_token)) [ inl up ↦ rw (none.0, up) rest.0 | inr kept ↦ rw (none.0, kept) rest.0 ]),
      (elim (cases_Bool (gives_up e t context_token)) [ inl up ↦ rw (none.1, up) rest.1 | inr kept ↦ rw (none.1, kept) rest.1 ]),
    )

pub program_owns_none : (es : List (Entry Call Reply)) (t : ℕ) → list_all (λ (e : Entry Call Reply). is_program_call e.call) es ≡ true → owns_element es t ≡ false
program_owns_none es t program = let none = owns_no_element es t program in rw (none.0, none.1) refl

-- what `?` hands over is the error itself
pub handed : {T E : Type 0} (result : Result T E) (e : E) → IsErr result × IsErrAnd result (λ given. given ≡ e) → result ≡ Err e
handed (Ok x) e h = absurd h.1
handed (Err given) e h = ap Err h.1

-- the loads end where one of them does
pub loads_end : (names : List (List ℕ)) (entries new : List (Entry Call Reply)) (i : ℕ) (name : List ℕ) (e : OpeningRefused) → AreLoaded (take i names) entries → i < length names → name ≡ get_or names i name →
    EndsLoad name entries new e → EndsLoads names new e
loads_end names entries new i name (Provider named) so_far here is (same, (reply, adds, refused)) =
    subst (λ n. EndedAt names n new) (sym same) (subst (λ es. EndedAt names name es) (sym adds) (ended_more names entries i so_far name here is reply refused))
loads_end names entries new i name NoMemory so_far here is ends = tt

-- one more activation is given back
pub unloads_more : (all tokens old : List ℕ) (t : ℕ) (calls : List Call) → old ≡ tokens ++ t ∷ [] → map Unload (reverse all) ≡ calls ++ map Unload (reverse old) →
    map Unload (reverse all) ≡ (calls ++ Unload t ∷ []) ++ map Unload (reverse tokens)
unloads_more all tokens old t calls is so_far =
    so_far ∙ ap (λ l. calls ++ map Unload l) (ap reverse is ∙ reverse-append tokens (t ∷ [])) ∙ sym (append_assoc calls (Unload t ∷ []) (map Unload (reverse tokens)))
