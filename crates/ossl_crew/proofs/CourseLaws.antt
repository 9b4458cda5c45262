-- The course of a run: its callers between the opening and the closing.
use Rattle.std.proofs.Common.{◌≡◌, ◌⊎◌, ℕ, ◌+◌, ◌-◌, ◌<◌, ◌≤◌, zero, suc, true, false, nat_eq, List, [], ◌++◌, length, refl, sym, ap, subst, ◌∙◌, arith, inl, inr}
use Rattle.std.specs.List.{list_all, range_with_len}
use Rattle.std.specs.Prelude.{All, slice_index_or}
use Rattle.std.proofs.lemmas.Bool.{cases_Bool, cases_eq, cases_lt, eq-eqb, true≢false}
use Rattle.std.proofs.lemmas.List.{append-nil}
use Rattle.std.proofs.lemmas.List.Elements.{filter-append}
use Rattle.std.proofs.lemmas.List.FromFn.{get_or-range_with_len}
use Rattle.ossl_base.specs.declared.entry.Entry.{Entry}
use Rattle.ossl_calls.specs.Registry.{HasSheets, IsDown}
use Rattle.ossl_commands.specs.Counts.{callers_of, contexts_of}
use Rattle.ossl_conf.specs.View.{SettingsView}
use Rattle.ossl_crew.specs.Course.{HaveEnded, IsFinished}
use Rattle.ossl_crew.specs.Crew.{HaveDone, HaveGivenBack, WereAtWork}
use Rattle.ossl_ordered.specs.Opened.{IsLoading}
use Rattle.ossl_ordered.specs.Opening.{IsClosed, IsEnded, IsOpened, activations_of, closing_calls}
use Rattle.ossl_ordered.specs.Owned.{AreClosed, ClosesBy, Follow, OwnsAll}
use Rattle.ossl_ordered.specs.Run.{IsRun, own_numbers}
use Rattle.ossl_ordered.specs.Turns.{IsDone, IsRefusedRun}
use Rattle.ossl_ordered.proofs.RunLaws.{all_down}
use Rattle.ossl_print.specs.Batched.{Batch}
use Rattle.ossl_print.specs.Order.{history_number}
use Rattle.ossl_provider.specs.Members.{is_in}
use Rattle.ossl_provider.specs.Sheet.{Sheet}
use Rattle.ossl_script.specs.View.{ScriptCallerView}
use Rattle.ossl_state.specs.declared.call.Call.{Call}
use Rattle.ossl_state.specs.declared.call.Reply.{Reply}
use Rattle.ossl_state.specs.History.{Fixed, IsLegal}
use Rattle.ossl_state.specs.Tokens.{activation_token, context_token, entries_of, method_token, owns}

-- where nobody did anything nobody holds anything
pub gave_nothing : (entries : List (Entry Call Reply)) → HaveGivenBack entries entries
gave_nothing entries = record { middle = []; parts = sym (append-nil entries); program = refl; holds_none = λ c t token some. refl }

in_range : (from n c : ℕ) → from ≤ c → c < from + n → is_in c (range_with_len from n) ≡ true
in_range from zero c low high = absurd (omega (arith, low, high))
in_range from (suc n) c low high = elim (cases_eq from c) [
  | inl same ↦ rw (eq-eqb from c same) refl
  | inr other ↦ rw (in_range (from + 1) n c (omega (arith, low, other)) (omega (arith, high))) (elim (cases_Bool (nat_eq from c)) [ inl a ↦ rw a refl | inr b ↦ rw b refl ])
]

outside_of : (n c : ℕ) → is_in c (range_with_len 1 n) ≡ false → (c ≡ 0) ⊎ (n < c)
outside_of n zero is = inl refl
outside_of n (suc c) is = elim (cases_lt n (suc c)) [
  | inl above ↦ inr above
  | inr few ↦ absurd (true≢false (sym (in_range 1 n (suc c) (omega arith) (omega (arith, few))) ∙ is))
]

own_number : (batch : Batch) (c : ℕ) → 0 < c → c ≤ callers_of batch.lines → history_number (own_numbers batch) c ≡ c
own_number batch c some few =
    let place : c - 1 < callers_of batch.lines = omega (arith, some, few) in
    get_or-range_with_len 1 (callers_of batch.lines) (c - 1) 0 place ∙ (omega (arith, some))

-- the closing gives back what the opening was answered
closed_by : (contexts : ℕ) (tokens : List ℕ) (opening before after : List (Entry Call Reply)) → tokens ≡ activations_of opening
    → (adds : ClosesBy contexts tokens before after) → IsClosed contexts opening adds.added
closed_by contexts tokens opening before after answered adds =
    record { caller = adds.apart; calls = adds.calls_are ∙ ap (closing_calls contexts) answered }

-- a finished run
pub finished_run : (settings : SettingsView) (batch : Batch) (contexts : ℕ) (tokens : List ℕ) (opening before after : List (Entry Call Reply))
    → contexts_of batch.lines ≡ contexts → tokens ≡ activations_of opening → IsOpened settings opening → HaveDone batch opening before
    → ClosesBy contexts tokens before after → IsRun settings batch (own_numbers batch) after
finished_run settings batch contexts tokens opening before after few answered opened did adds = record {
  opening = opening;
  middle = did.middle;
  closing = adds.added;
  parts = adds.parts ∙ ap (λ l. l ++ adds.added) did.parts;
  opened = opened;
  done = λ c some within. subst (λ n. IsDone batch c (entries_of n did.middle)) (sym (own_number batch c some within)) (did.done c some within);
  others = λ c outside. did.others c (outside_of (callers_of batch.lines) c outside);
  closed = subst (λ n. IsClosed n opening adds.added) (sym few) (closed_by contexts tokens opening before after answered adds);
}

-- and what each caller is then, behind it
pub finished : (P : Type 0) (settings : SettingsView) (batch : Batch) (contexts : ℕ) (tokens : List ℕ)
    (opening before after : List (Entry Call Reply)) (scripts : List ScriptCallerView)
    → contexts_of batch.lines ≡ contexts → tokens ≡ activations_of opening → IsOpened settings opening
    → HaveEnded P batch opening before scripts → ClosesBy contexts tokens before after
    → IsFinished P settings batch after scripts
unfolding finished_run
finished P settings batch contexts tokens opening before after scripts few answered opened all adds = record {
  run = finished_run settings batch contexts tokens opening before after few answered opened all.done adds;
  each = all.each;
  ended = all.ended;
  worked = subst (λ es. WereAtWork P batch opening es scripts) all.done.parts all.worked;
}

-- a run whose opening was refused
pub refused_run : (settings : SettingsView) (batch : Batch) (contexts : ℕ) (name tokens : List ℕ) (opening before after : List (Entry Call Reply))
    → contexts_of batch.lines ≡ contexts → tokens ≡ activations_of opening → IsEnded settings opening
    → name ≡ slice_index_or settings.activations (length opening - 1) [] → before ≡ opening → ClosesBy contexts tokens before after
    → IsRefusedRun settings batch name after
refused_run settings batch contexts name tokens opening before after few answered ended named same adds = record {
  opening = opening;
  closing = adds.added;
  parts = adds.parts ∙ ap (λ l. l ++ adds.added) same;
  ended = ended;
  named = named;
  closed = subst (λ n. IsClosed n opening adds.added) (sym few) (closed_by contexts tokens opening before after answered adds);
}

module _ (fixed : Fixed) (tokens : List ℕ) (opening before : List (Entry Call Reply)) (loading : IsLoading fixed opening tokens)
    (back : HaveGivenBack opening before) where
  own_program : entries_of 0 before ≡ entries_of 0 opening
  own_program =
      ap (entries_of 0) back.parts ∙ filter-append (λ (e : Entry Call Reply). nat_eq e.caller 0) opening back.middle
      ∙ ap (λ l. entries_of 0 opening ++ l) back.program ∙ append-nil (entries_of 0 opening)

  -- the program owns what it opened
  pub owned_kept : OwnsAll tokens before
  owned_kept = record {
    owned = subst (λ es. list_all (λ t. owns es t activation_token) tokens ≡ true) (sym own_program) loading.owns.owned;
    distinct = loading.owns.distinct;
  }

  -- behind the closing no box is up
  pub none_up : (after closing : List (Entry Call Reply)) → Follow before after closing → IsLegal fixed after → AreClosed fixed.contexts fixed after
      → (sheets : List Sheet) → HasSheets fixed sheets after → All IsDown sheets
  none_up after closing follow legal closed sheets kept =
      all_down fixed sheets opening back.middle closing after (follow.parts ∙ ap (λ l. l ++ closing) back.parts) loading.apart loading.calls follow.apart follow.calls
      (λ c t some. rw (back.holds_none c t method_token some, back.holds_none c t context_token some) refl) back.program legal closed kept
