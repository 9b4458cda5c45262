-- Whole runs: a run in a stated order is a run, and where all is given back and closed nothing is up.
use Rattle.std.proofs.Common.{◌≡◌, ◌⊎◌, ℕ, ◌+◌, ◌-◌, ◌<◌, ◌≤◌, zero, suc, Bool, true, false, nat_eq, List, [], ◌∷◌, ◌++◌, length, map, refl, sym, ap, subst, ◌∙◌, append_assoc, arith, inl, inr}
use Rattle.std.specs.List.{list_all, range_with_len}
use Rattle.std.specs.Prelude.{All, slice_index_or}
use Rattle.std.proofs.lemmas.Bool.{cases_Bool, cases_eq, cases_lt, eq-eqb, ne_eqb, true≢false}
use Rattle.std.proofs.lemmas.List.{append-nil}
use Rattle.std.proofs.lemmas.List.Elements.{filter-append}
use Rattle.std.proofs.lemmas.List.Folds.{list_all-append}
use Rattle.std.proofs.lemmas.List.FromFn.{get_or-range_with_len}
use Rattle.ossl_base.specs.declared.entry.Entry.{Entry}
use Rattle.ossl_provider.specs.Members.{is_in}
use Rattle.ossl_provider.specs.Sheet.{Sheet}
use Rattle.ossl_calls.specs.Registry.{HasSheets, IsDown}
use Rattle.ossl_commands.specs.Counts.{callers_of}
use Rattle.std.specs.Str.Lines.{lines}
use Rattle.ossl_state.specs.declared.call.Call.{Call}
use Rattle.ossl_state.specs.declared.call.Reply.{Reply}
use Rattle.ossl_state.specs.History.{Fixed, IsLegal}
use Rattle.ossl_state.specs.Tokens.{Token, context_token, entries_of, method_token}
use Rattle.ossl_script.specs.Caller.{Follows}
use Rattle.ossl_script.proofs.HeldLaws.{giving_back_leaves_none}
use Rattle.ossl_ordered.specs.declared.player.Player.{Player}
use Rattle.ossl_ordered.specs.Owned.{AreClosed, is_program_call}
use Rattle.ossl_ordered.specs.Run.{RunInOrderIsRun, own_numbers}
use Rattle.ossl_ordered.specs.Turns.{IsDone, returning_calls}
use Rattle.ossl_ordered.specs.Work.{AreAtWork, IsAtWork, ReturnsAll}
use Rattle.ossl_ordered.proofs.ClosedLaws.{closed_down, sheets_down}
use Rattle.ossl_ordered.proofs.DoneLaws.{calls_by, calls_by-entries, calls_by-inside, calls_by-outside, each_caller_is_done, no_calls_no_entries, none_by_program, none_of, no_turns, parts_of}
use Rattle.ossl_ordered.proofs.LiveLaws.{owns_element}
use Rattle.ossl_ordered.proofs.ProgramLaws.{program_owns_none}
use Rattle.ossl_print.specs.Batched.{Batch, giving_back_of, replies_to}
use Rattle.ossl_print.specs.Order.{history_number}

-- 1. A run in a stated order is a run.

in_range : (from n c : ℕ) → from ≤ c → c < from + n → is_in c (range_with_len from n) ≡ true
in_range from zero c low high = absurd (omega (arith, low, high))
in_range from (suc n) c low high = elim (cases_eq from c) [
  | inl same ↦ rw (eq-eqb from c same) refl
  | inr other ↦ rw (in_range (from + 1) n c (omega (arith, low, other)) (omega (arith, high))) (elim (cases_Bool (nat_eq from c)) [ inl a ↦ rw a refl | inr b ↦ rw b refl ])
]

pub run_in_order_is_run : RunInOrderIsRun
run_in_order_is_run text files settings batch list entries is run = record {
  opening = run.opening;
  middle = run.turns ++ run.returning;
  closing = run.closing;
  parts = run.parts ∙ ap (λ l. l ++ run.closing) (append_assoc run.opening run.turns run.returning);
  opened = run.opened;
  done = λ c some few. subst (λ n. IsDone batch c (entries_of n (run.turns ++ run.returning))) (sym (number c some few))
      (subst (λ es. IsDone batch c es) (middle c some) ((each_caller_is_done settings batch list entries c run some).0 few));
  others = λ c outside. of c outside;
  closed = run.closed;
}
  where
    number : (c : ℕ) → 0 < c → c ≤ callers_of batch.lines → history_number (own_numbers batch) c ≡ c
    number c some few =
        let place : c - 1 < callers_of batch.lines = omega (arith, some, few) in
        get_or-range_with_len 1 (callers_of batch.lines) (c - 1) 0 place ∙ (omega (arith, some))

    middle : (c : ℕ) → 0 < c → entries_of c entries ≡ entries_of c (run.turns ++ run.returning)
    middle c some =
        let apart : nat_eq 0 c ≡ false = ne_eqb 0 c (λ same. absurd (omega (arith, some, same))) in
        ap (entries_of c) run.parts
        ∙ parts_of c run.opening run.turns run.returning run.closing (none_of c 0 run.opening apart run.opened.caller) (none_of c 0 run.closing apart run.closed.caller)
        ∙ sym (filter-append (λ (e : Entry Call Reply). nat_eq e.caller c) run.turns run.returning)

    program : entries_of 0 (run.turns ++ run.returning) ≡ []
    program =
        filter-append (λ (e : Entry Call Reply). nat_eq e.caller 0) run.turns run.returning
        ∙ ap (λ l. l ++ entries_of 0 run.returning) (no_turns batch 0 list [] run.turns (none_by_program 1 [] (lines text) (record { lines = batch.lines; files = files }) is) run.in_turn)
        ∙ no_calls_no_entries (entries_of 0 run.returning) (
        sym (calls_by-entries 0 run.returning) ∙ ap (calls_by 0) run.returned
        ∙ calls_by-outside (λ k. giving_back_of batch k (replies_to k run.turns)) 0 1 (callers_of batch.lines) (λ k from below. ne_eqb k 0 (λ zero_. absurd (omega (arith, from, zero_)))))

    of : (c : ℕ) → is_in c (own_numbers batch) ≡ false → entries_of c (run.turns ++ run.returning) ≡ []
    of zero outside = program
    of (suc c) outside = elim (cases_lt (callers_of batch.lines) (suc c)) [
      | inl above ↦ sym (middle (suc c) (omega arith)) ∙ (each_caller_is_done settings batch list entries (suc c) run (omega arith)).1 above
      | inr few ↦ absurd (true≢false (sym (in_range 1 (callers_of batch.lines) (suc c) (omega arith) (omega (arith, few))) ∙ outside))
    ]

-- 2. Nobody owns a method or an operation context at the end.

program_parts : (opening middle closing : List (Entry Call Reply)) → entries_of 0 opening ≡ opening → entries_of 0 middle ≡ [] → entries_of 0 closing ≡ closing →
    entries_of 0 (opening ++ middle ++ closing) ≡ opening ++ closing
program_parts opening middle closing first none last =
    let mine : Entry Call Reply → Bool = λ e. nat_eq e.caller 0 in
    filter-append mine (opening ++ middle) closing
    ∙ ap (λ l. l ++ entries_of 0 closing) (filter-append mine opening middle ∙ ap (λ l. entries_of 0 opening ++ l) none ∙ append-nil (entries_of 0 opening) ∙ first)
    ∙ ap (λ l. opening ++ l) last

other_parts : (c : ℕ) (opening middle closing : List (Entry Call Reply)) → 0 < c → entries_of 0 opening ≡ opening → entries_of 0 closing ≡ closing →
    entries_of c (opening ++ middle ++ closing) ≡ entries_of c middle
other_parts c opening middle closing some first last =
    let mine : Entry Call Reply → Bool = λ e. nat_eq e.caller c in
    let apart : nat_eq 0 c ≡ false = ne_eqb 0 c (λ same. absurd (omega (arith, some, same))) in
    filter-append mine (opening ++ middle) closing
    ∙ ap (λ l. entries_of c (opening ++ middle) ++ l) (none_of c 0 closing apart last) ∙ append-nil (entries_of c (opening ++ middle))
    ∙ filter-append mine opening middle
    ∙ ap (λ l. l ++ entries_of c middle) (none_of c 0 opening apart first)

module _ (fixed : Fixed) (sheets : List Sheet) (opening middle closing entries : List (Entry Call Reply)) (parts : entries ≡ opening ++ middle ++ closing)
    (apart : entries_of 0 opening ≡ opening) (program : list_all (λ (e : Entry Call Reply). is_program_call e.call) opening ≡ true)
    (last : entries_of 0 closing ≡ closing) (calls : list_all (λ (e : Entry Call Reply). is_program_call e.call) closing ≡ true)
    (others : (c t : ℕ) → 0 < c → owns_element (entries_of c middle) t ≡ false) (none : entries_of 0 middle ≡ [])
    (legal : IsLegal fixed entries) (closed : AreClosed fixed.contexts fixed entries) (kept : HasSheets fixed sheets entries) where
  nobody : (c t : ℕ) → owns_element (entries_of c entries) t ≡ false
  nobody zero t =
      let own : entries_of 0 entries ≡ opening ++ closing = ap (entries_of 0) parts ∙ program_parts opening middle closing apart none last in
      let both : list_all (λ (e : Entry Call Reply). is_program_call e.call) (opening ++ closing) ≡ true = rw (list_all-append (λ (e : Entry Call Reply). is_program_call e.call) opening closing, program, calls) refl in
      ap (λ es. owns_element es t) own ∙ program_owns_none (opening ++ closing) t both
  nobody (suc c) t = ap (λ es. owns_element es t) (ap (entries_of (suc c)) parts ∙ other_parts (suc c) opening middle closing (omega arith) apart last) ∙ others (suc c) t (omega arith)

  -- no box is up
  pub all_down : All IsDown sheets
  all_down = sheets_down fixed sheets entries kept (closed_down fixed entries legal closed nobody)

-- callers that have given back own nothing
module _ (batch : Batch) (contexts : ℕ) (opening turns before after : List (Entry Call Reply)) (players : List Player) (at : AreAtWork batch contexts opening turns before players) (returned : ReturnsAll batch turns before after) where
  pub whole_middle : after ≡ opening ++ (turns ++ returned.0)
  whole_middle = returned.1 ∙ ap (λ l. l ++ returned.0) at.parts ∙ append_assoc opening turns returned.0

  returning_own : (c : ℕ) → map (λ e. e.call) (entries_of c returned.0) ≡ calls_by c (returning_calls batch turns)
  returning_own c = sym (calls_by-entries c returned.0) ∙ ap (calls_by c) returned.2

  none_returned : (c : ℕ) → (c ≡ 0) ⊎ (callers_of batch.lines < c) → entries_of c returned.0 ≡ []
  none_returned c outside = no_calls_no_entries (entries_of c returned.0) (returning_own c ∙ calls_by-outside (λ k. giving_back_of batch k (replies_to k turns)) c 1 (callers_of batch.lines) (λ k from below. ne_eqb k c (λ same. apart k from below same outside)))
    where
      apart : (k : ℕ) → 1 ≤ k → k < 1 + callers_of batch.lines → k ≡ c → (c ≡ 0) ⊎ (callers_of batch.lines < c) → ⊥
      apart k from below same (inl zero_) = absurd (omega (arith, from, same, zero_))
      apart k from below same (inr above) = absurd (omega (arith, below, same, above))

  pub none_middle : (c : ℕ) → (c ≡ 0) ⊎ (callers_of batch.lines < c) → entries_of c (turns ++ returned.0) ≡ []
  none_middle c outside = filter-append (λ (e : Entry Call Reply). nat_eq e.caller c) turns returned.0 ∙ ap (λ l. l ++ entries_of c returned.0) (at.others c outside) ∙ none_returned c outside

  pub nothing_owned : (c t : ℕ) → 0 < c → owns_element (entries_of c (turns ++ returned.0)) t ≡ false
  nothing_owned c t some = elim (cases_lt (callers_of batch.lines) c) [
    | inl above ↦ ap (λ es. owns_element es t) (none_middle c (inr above))
    | inr few ↦
        let k : ℕ = c - 1 in
        let here : c - 1 < length players = omega (arith, some, few, at.each) in
        let number : c - 1 + 1 ≡ c = omega (arith, some) in
        let own : entries_of c (turns ++ returned.0) ≡ entries_of c turns ++ entries_of c returned.0 = filter-append (λ (e : Entry Call Reply). nat_eq e.caller c) turns returned.0 in
        let calls : map (λ (e : Entry Call Reply). e.call) (entries_of c returned.0) ≡ giving_back_of batch c (replies_to c turns) =
        returning_own c ∙ calls_by-inside (λ k. giving_back_of batch k (replies_to k turns)) c 1 (callers_of batch.lines) (omega (arith, some)) (omega (arith, few)) in
        let none = λ (token : Token). giving_back_leaves_none batch.lines batch.contents c (entries_of c turns) (entries_of c returned.0) (follows_of c (c - 1) here number) calls t token in
        ap (λ es. owns_element es t) own ∙ rw (none method_token, none context_token) refl
  ]
    where
      follows_of : (c k : ℕ) → k < length players → k + 1 ≡ c → Follows batch.lines batch.contents c [] (entries_of c turns)
      follows_of c k here number = subst (λ n. Follows batch.lines batch.contents n [] (entries_of n turns)) number (of players at.work here)
        where
          of : (ps : List Player) → ((k : ℕ) (other : Player) → k < length ps → IsAtWork batch (k + 1) turns (slice_index_or ps k other)) → k < length ps → Follows batch.lines batch.contents (k + 1) [] (entries_of (k + 1) turns)
          of [] work here = absurd (omega (arith, here))
          of (p ∷ ps) work here = (work k p here).follows
