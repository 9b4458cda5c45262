-- All callers of a batch together: what each made is what the history has of it.
use Rattle.std.proofs.Common.{◌≡◌, ◌⊎◌, ℕ, ◌+◌, ◌-◌, ◌<◌, ◌≤◌, suc, true, nat_eq, List, [], ◌∷◌, ◌++◌, length, get_or, All, refl, sym, ap, subst, ◌∙◌, arith, inl, inr}
use Rattle.std.proofs.lemmas.Bool.{cases_lt, ne_eqb}
use Rattle.std.proofs.lemmas.List.{length-append}
use Rattle.std.proofs.lemmas.List.Elements.{filter-append}
use Rattle.ossl_base.specs.declared.entry.Entry.{Entry}
use Rattle.ossl_calls.specs.Registry.{Shown}
use Rattle.ossl_commands.specs.Counts.{callers_of}
use Rattle.ossl_core.specs.Answered.{CallerFacts}
use Rattle.ossl_ordered.specs.Turns.{IsDone}
use Rattle.ossl_ordered.proofs.DoneLaws.{none_of}
use Rattle.ossl_print.specs.Batched.{Batch, next_of as next_in, replies_of}
use Rattle.ossl_script.specs.declared.caller.Next.TheVariants as nexts
use Rattle.ossl_script.specs.Caller.{Follows, giving_back, next_call}
use Rattle.ossl_script.specs.View.{ScriptCallerView}
use Rattle.ossl_state.specs.declared.call.Call.{Call}
use Rattle.ossl_state.specs.declared.call.Reply.{Reply}
use Rattle.ossl_state.specs.Tokens.{entries_of, owns}
use Rattle.ossl_turn.specs.Passes.{SharedFacts}
use Rattle.ossl_worker.proofs.WorkLaws.{follows_as}
use Rattle.ossl_crew.specs.Crew.{AreEnded, HaveDone, HaveGivenBack, IsBack, WereAtWork}

-- a caller whose lines are done
module _ {P : Type 0} (shared : SharedFacts (Shown P)) (batch : Batch) (n : ℕ) (caller : CallerFacts P) (script : ScriptCallerView)
    (back : IsBack shared batch n caller script) where
  module _ (ended : script.ended ≡ true) where
    pub at_end : next_in batch n (replies_of back.has_made.made) ≡ nexts.End
    at_end =
        ap (next_in batch n) (sym back.has_made.replies)
        ∙ ap (λ m. next_call batch.lines batch.contents m script.replies) (sym back.of_batch.caller)
        ∙ sym (back.of_batch.speaks script.replies).0
        ∙ back.has_made.ended ended

    pub is_done : IsDone batch n caller.own
    is_done = record {
      made = back.has_made.made;
      given = back.has_made.given;
      parts = back.has_made.parts;
      follows = subst (λ m. Follows batch.lines batch.contents m [] back.has_made.made) back.of_batch.caller
          (follows_as script.lines batch.lines script.contents batch.contents script.caller
          (λ replies. sym (back.of_batch.speaks replies).0) [] back.has_made.made back.has_made.follows);
      ended = at_end;
      returned =
          back.has_made.returned ∙ back.returned ∙ (back.of_batch.speaks script.replies).2
          ∙ ap (λ m. giving_back batch.lines batch.contents m script.replies) back.of_batch.caller
          ∙ ap (giving_back batch.lines batch.contents n) back.has_made.replies;
    }

none_behind : {X : Type 0} (xs ys : List X) → xs ++ ys ≡ xs → ys ≡ []
none_behind xs [] same = refl
none_behind xs (y ∷ ys) same =
    let long : length (xs ++ y ∷ ys) ≡ length xs + length (y ∷ ys) = length-append xs (y ∷ ys) in
    let less : length (xs ++ y ∷ ys) ≡ length xs = ap length same in
    absurd (omega (arith, long, less))

none_above : (m c : ℕ) (es : List (Entry Call Reply)) → m < c → All (λ (e : Entry Call Reply). e.caller ≤ m) es → entries_of c es ≡ []
none_above m c [] more low = refl
none_above m c (e ∷ es) more low =
    let first : e.caller ≤ m = low 0 e (omega arith) in
    rw (ne_eqb e.caller c (λ same. absurd (omega (arith, first, more, same)))) (none_above m c es more (λ k d here. low (suc k) d (omega (arith, here))))

some_caller : {P : Type 0} (callers : List (CallerFacts P)) (k : ℕ) → k < length callers → CallerFacts P
some_caller [] k here = absurd (omega (arith, here))
some_caller (caller ∷ callers) k here = caller

some_script : (scripts : List ScriptCallerView) (k : ℕ) → k < length scripts → ScriptCallerView
some_script [] k here = absurd (omega (arith, here))
some_script (script ∷ scripts) k here = script

-- callers that were at work, in a history that begins with the opening
module _ {P : Type 0} (batch : Batch) (opening log : List (Entry Call Reply)) (scripts : List ScriptCallerView)
    (were : WereAtWork P batch opening log scripts) (apart : entries_of 0 opening ≡ opening) where
  abbrev middle : List (Entry Call Reply)
  middle = were.begins.0

  parts : log ≡ opening ++ middle
  parts = sym were.begins.1

  entries_in : (c : ℕ) → entries_of c log ≡ entries_of c opening ++ entries_of c middle
  entries_in c = ap (entries_of c) parts ∙ filter-append (λ (e : Entry Call Reply). nat_eq e.caller c) opening middle

  none_program : entries_of 0 middle ≡ []
  none_program = none_behind opening (entries_of 0 middle) (ap (λ l. l ++ entries_of 0 middle) (sym apart) ∙ sym (entries_in 0) ∙ were.program)

  other_entries : (c : ℕ) → 0 < c → entries_of c middle ≡ entries_of c log
  other_entries c some =
      sym (entries_in c ∙ ap (λ l. l ++ entries_of c middle) (none_of c 0 opening (ne_eqb 0 c (λ is. absurd (omega (arith, some, is)))) apart))

  others_none : (c : ℕ) → (c ≡ 0) ⊎ (length were.callers < c) → entries_of c middle ≡ []
  others_none c (inl zero_) = subst (λ n. entries_of n middle ≡ []) (sym zero_) none_program
  others_none c (inr above) = other_entries c (omega (arith, above)) ∙ none_above (length were.callers) c log above were.within

  module _ (c : ℕ) (some : 0 < c) (few : c ≤ length were.callers) where
    here : c - 1 < length were.callers
    here = omega (arith, some, few)

    there : c - 1 < length scripts
    there = let same : length scripts ≡ length were.callers = were.same in let below : c - 1 < length were.callers = here in omega (arith, below, same)

    abbrev caller : CallerFacts P
    caller = get_or were.callers (c - 1) (some_caller were.callers (c - 1) here)

    abbrev script : ScriptCallerView
    script = get_or scripts (c - 1) (some_script scripts (c - 1) there)

    is_back : IsBack were.shared batch c caller script
    is_back = let number : c - 1 + 1 ≡ c = omega (arith, some) in
        subst (λ n. IsBack were.shared batch n caller script) number
        (were.back (c - 1) (some_caller were.callers (c - 1) here) (some_script scripts (c - 1) there) here)

    own_is : entries_of c middle ≡ caller.own
    own_is =
        other_entries c some
        ∙ subst (λ n. entries_of n log ≡ caller.own) is_back.number (were.confirmed (c - 1) (some_caller were.callers (c - 1) here) here).1

  -- nobody holds anything then
  pub gave_back : HaveGivenBack opening log
  gave_back = record {
    middle = middle;
    parts = parts;
    program = none_program;
    holds_none = λ c t token some. elim (cases_lt (length were.callers) c) [
      | inl above ↦ ap (λ es. owns es t token) (others_none c (inr above))
      | inr few ↦ ap (λ es. owns es t token) (own_is c some (omega (arith, few))) ∙ (is_back c some (omega (arith, few))).nothing t token
    ];
  }

  -- and where the lines of all are done, each has done its lines and given back
  pub have_done : length scripts ≡ callers_of batch.lines → AreEnded scripts → HaveDone batch opening log
  have_done count ended = record {
    middle = middle;
    parts = parts;
    done = λ c some few. let inside : c ≤ length were.callers = within c few in
        subst (λ es. IsDone batch c es) (sym (own_is c some inside))
        (is_done were.shared batch c (caller c some inside) (script c some inside) (is_back c some inside)
        (ended (c - 1) (some_script scripts (c - 1) (there c some inside)) (there c some inside)));
    others = λ c outside. others_none c (moved c outside);
  }
    where
      within : (c : ℕ) → c ≤ callers_of batch.lines → c ≤ length were.callers
      within c few = let same : length scripts ≡ length were.callers = were.same in omega (arith, few, count, same)

      moved : (c : ℕ) → (c ≡ 0) ⊎ (callers_of batch.lines < c) → (c ≡ 0) ⊎ (length were.callers < c)
      moved c (inl zero_) = inl zero_
      moved c (inr above) = let same : length scripts ≡ length were.callers = were.same in inr (omega (arith, above, count, same))
