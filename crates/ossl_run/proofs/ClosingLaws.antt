-- What the closing of a run leaves: no box is up, and a run that is finished or was refused.
use Rattle.std.proofs.Common.{◌≡◌, ℕ, ◌-◌, ◌<◌, ◌≤◌, false, nat_eq, List, [], ◌++◌, Global, Vec, length, map}
use Rattle.std.proofs.Common.{refl, sym, ◌∙◌, ap, subst, arith}
use Rattle.std.specs.Prelude.{All, Err, IfOk, Ok, Result, slice_index_or}
use Rattle.std.specs.Result.{IsOkAnd, MatchResult}
use Rattle.std.specs.declared.alloc.AllocError.{AllocError}
use Rattle.std.proofs.lemmas.Bool.{ne_eqb}
use Rattle.std.proofs.lemmas.List.{append-nil}
use Rattle.std.proofs.lemmas.List.Elements.{filter-append}
use Rattle.ossl_base.specs.declared.entry.Entry.{Entry}
use Rattle.ossl_provider.specs.Sheet.{Sheet}
use Rattle.ossl_calls.specs.Registry.{HasSheets, IsDown}
use Rattle.ossl_commands.specs.Counts.{callers_of, contexts_of}
use Rattle.ossl_conf.specs.View.{SettingsView}
use Rattle.ossl_prepare.specs.declared.reading.Task.{Task}
use Rattle.ossl_prepare.specs.Task.{order_of}
use Rattle.ossl_script.specs.declared.caller.LineResult.{LineResult}
use Rattle.ossl_state.specs.declared.call.Call.{Call}
use Rattle.ossl_state.specs.declared.call.Reply.{Reply}
use Rattle.ossl_state.specs.History.{Fixed, IsLegal}
use Rattle.ossl_state.specs.Tokens.{entries_of}
use Rattle.ossl_ordered.specs.Opening.{IsClosed, IsEnded, IsOpened, activations_of, closing_calls}
use Rattle.ossl_ordered.specs.declared.opening.OpeningRefused.TheVariants.{Provider}
use Rattle.ossl_ordered.specs.Opened.{EndsOpening, IsLoading}
use Rattle.ossl_ordered.specs.Owned.{AreClosed, ClosesBy, Follow}
use Rattle.ossl_ordered.specs.Run.{own_numbers}
use Rattle.ossl_ordered.specs.Turns.{IsRefusedRun, IsRunInOrder}
use Rattle.ossl_ordered.proofs.DoneLaws.{none_of, parts_of}
use Rattle.ossl_ordered.proofs.RunLaws.{all_down}
use Rattle.ossl_print.specs.Batched.{Batch, replies_of, replies_to, results_of}
use Rattle.ossl_print.specs.Order.{history_number}
use Rattle.ossl_run.specs.Ending.{batch_of}
use Rattle.ossl_run.specs.declared.course.Course.{Course}
use Rattle.ossl_run.specs.declared.course.Course.TheVariants.{Finished, Refused}
use Rattle.ossl_run.specs.Middle.{DidAll, GaveBack, HasResults, IsCourse}
use Rattle.ossl_run.proofs.CallerLaws.{own_number}

-- 1. What is up.

-- where nothing was done since, nobody holds anything
pub nothing_since : (opening before : List (Entry Call Reply)) → before ≡ opening → GaveBack opening before
nothing_since opening before same = record {
  middle = [];
  parts = same ∙ sym (append-nil opening);
  program = refl;
  holds_none = λ c t some. refl;
}

module _ (fixed : Fixed) (tokens : List ℕ) (opening before : List (Entry Call Reply))
    (loading : IsLoading fixed opening tokens) (back : GaveBack opening before) where
  -- behind the closing no box is up
  none_up : (after closing : List (Entry Call Reply)) → Follow before after closing → IsLegal fixed after
      → AreClosed fixed.contexts fixed after
      → (sheets : List Sheet) → HasSheets fixed sheets after → All IsDown sheets
  none_up after closing follow legal closed sheets kept =
      let parts = follow.parts ∙ ap (λ l. l ++ closing) back.parts in
      all_down fixed sheets opening back.middle closing after parts loading.apart loading.calls
      follow.apart follow.calls back.holds_none back.program legal closed kept

  -- the same of a registry at its closing, for which nothing has changed that never changes
  pub down_after : (now : Fixed) (contexts : ℕ) (after : List (Entry Call Reply)) → now ≡ fixed
      → contexts ≡ fixed.contexts → (closing : List (Entry Call Reply)) × Follow before after closing
      → IsLegal now after → AreClosed contexts now after
      → (sheets : List Sheet) → HasSheets now sheets after → All IsDown sheets
  down_after now contexts after same count follow legal closed sheets kept =
      none_up after follow.0 follow.1 (subst (λ f. IsLegal f after) same legal)
      (subst (λ n. AreClosed n fixed after) count (subst (λ f. AreClosed contexts f after) same closed))
      sheets (subst (λ f. HasSheets f sheets after) same kept)

-- 2. The closing.

-- the closing gives back what the opening was answered
closed_by : (contexts : ℕ) (tokens : List ℕ) (opening before after : List (Entry Call Reply))
    → tokens ≡ activations_of opening → (adds : ClosesBy contexts tokens before after)
    → IsClosed contexts opening adds.added
closed_by contexts tokens opening before after answered adds =
    record { caller = adds.apart; calls = adds.calls_are ∙ ap (closing_calls contexts) answered }

-- a run whose opening was refused
refused_run : (settings : SettingsView) (batch : Batch) (name tokens : List ℕ)
    (opening after : List (Entry Call Reply)) → tokens ≡ activations_of opening → IsEnded settings opening
    → name ≡ slice_index_or settings.activations (length opening - 1) []
    → ClosesBy (contexts_of batch.lines) tokens opening after → IsRefusedRun settings batch name after
refused_run settings batch name tokens opening after answered ended named adds = record {
  opening = opening;
  closing = adds.added;
  parts = adds.parts;
  ended = ended;
  named = named;
  closed = closed_by (contexts_of batch.lines) tokens opening opening after answered adds;
}

-- a finished run
module _ (task : Task) (results : List (List LineResult)) (tokens : List ℕ)
    (opening before after : List (Entry Call Reply)) (answered : tokens ≡ activations_of opening)
    (opened : IsOpened task.prepared.settings opening)
    (did : DidAll (batch_of task.prepared) (order_of task.job) opening before results)
    (adds : ClosesBy (contexts_of task.prepared.script.commands) tokens before after) where
  parts : after ≡ opening ++ did.turns ++ did.returning ++ adds.added
  parts = adds.parts ∙ ap (λ l. l ++ adds.added) did.parts

  -- a caller's entries are those between the opening and the closing
  own_middle : (c : ℕ) → 0 < c → entries_of c after ≡ entries_of c (did.turns ++ did.returning)
  own_middle c some =
      let apart : nat_eq 0 c ≡ false = ne_eqb 0 c (λ same. absurd (omega (arith, some, same))) in
      let before_it = none_of c 0 opening apart opened.caller in
      let behind_it = none_of c 0 adds.added apart adds.apart in
      ap (entries_of c) parts
      ∙ parts_of c opening did.turns did.returning adds.added before_it behind_it
      ∙ sym (filter-append (λ (e : Entry Call Reply). nat_eq e.caller c) did.turns did.returning)

  in_order : IsRunInOrder task.prepared.settings (batch_of task.prepared) (order_of task.job) after
  in_order = record {
    opening = opening;
    turns = did.turns;
    returning = did.returning;
    closing = adds.added;
    parts = parts;
    opened = opened;
    in_turn = did.in_turn;
    returned = did.returned;
    closed = closed_by (contexts_of task.prepared.script.commands) tokens opening before after answered adds;
  }

  has_results : HasResults task results after
  has_results = record {
    each = did.each;
    are_results = λ c some few.
        did.are_results c some few ∙ ap (results_of batch c) (same c some (omega (arith, few, did.each)));
    told = did.told;
  }
    where
      batch : Batch
      batch = batch_of task.prepared

      number : ℕ → ℕ
      number c = history_number (own_numbers (batch_of task.prepared)) c

      same : (c : ℕ) → 0 < c → c ≤ callers_of task.prepared.script.commands
          → replies_to (number c) (did.turns ++ did.returning) ≡ replies_to (number c) after
      same c some few =
          let own = own_number (batch_of task.prepared) c some few in
          ap replies_of (sym (own_middle (number c) (omega (arith, some, own))))

-- 3. What a run comes to.

-- by what its opening and its callers came to
module _ (task : Task) (contexts : ℕ) (settings : SettingsView) (tokens : List ℕ)
    (opening before after : List (Entry Call Reply)) (answered : tokens ≡ activations_of opening)
    (same : settings ≡ task.prepared.settings) (counted : contexts ≡ contexts_of task.prepared.script.commands)
    (adds : ClosesBy contexts tokens before after) where
  adds_all : ClosesBy (contexts_of task.prepared.script.commands) tokens before after
  adds_all = subst (λ n. ClosesBy n tokens before after) counted adds

  pub finished_course : IsOpened settings opening → (r : Result (Vec (Vec LineResult Global) Global) AllocError)
      (course : Result Course AllocError)
      → IfOk r (λ results. DidAll (batch_of task.prepared) (order_of task.job) opening before
      (map (λ (rs : Vec LineResult Global). rs.items) results.items))
      → MatchResult r (λ results. IsOkAnd course (λ made. made ≡ Finished results)) (λ e. course ≡ Err e)
      → IfOk course (λ course. IsCourse false course task after)
  finished_course opened (Ok results) (Ok course) did made =
      let all = map (λ (rs : Vec LineResult Global). rs.items) results.items in
      let begun = subst (λ s. IsOpened s opening) same opened in
      subst (λ course. IsCourse false course task after) (sym made) (
        in_order task all tokens opening before after answered begun did adds_all,
        has_results task all tokens opening before after answered begun did adds_all,
      )
  finished_course opened (Ok results) (Err e) did made = absurd made
  finished_course opened (Err e) course did made =
      subst (λ r. IfOk r (λ course. IsCourse false course task after)) (sym made) tt

  pub refused_course : (name : List ℕ) → before ≡ opening → EndsOpening settings opening (Provider name)
      → IsCourse false (Refused name) task after
  refused_course name nothing ended =
      let contexts_all = contexts_of task.prepared.script.commands in
      refused_run task.prepared.settings (batch_of task.prepared) name tokens opening after answered
      (subst (λ s. IsEnded s opening) same ended.0)
      (ended.1 ∙ ap (λ (s : SettingsView). slice_index_or s.activations (length opening - 1) []) same)
      (subst (λ es. ClosesBy contexts_all tokens es after) nothing adds_all)
