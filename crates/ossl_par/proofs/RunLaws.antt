-- What is told of a finished run in threads are the results of its entries.
use Rattle.std.proofs.Common.{◌≡◌, ℕ, ◌+◌, ◌-◌, ◌<◌, ◌≤◌, Ok, Err, true, zero, suc, List, [], ◌∷◌, ◌++◌, length, map}
use Rattle.std.proofs.Common.{get_or, refl, sym, ap, subst, ◌∙◌, arith}
use Rattle.std.specs.Prelude.{IfOk, Result}
use Rattle.std.specs.declared.alloc.AllocError.{AllocError}
use Rattle.std.proofs.lemmas.List.{length-map, map-append}
use Rattle.ossl_base.specs.declared.entry.Entry.{Entry}
use Rattle.ossl_calls.specs.Registry.{Shown}
use Rattle.ossl_commands.specs.Counts.{callers_of, contexts_of}
use Rattle.ossl_commands.specs.View.{ScriptView}
use Rattle.ossl_conf.specs.View.{SettingsView}
use Rattle.ossl_core.specs.Answered.{CallerFacts}
use Rattle.ossl_crew.specs.declared.course.Course.{Course as Worked}
use Rattle.ossl_crew.specs.declared.course.Course.TheVariants as worked
use Rattle.ossl_crew.specs.Course.{AreOf, IsCourse as IsWorked, IsFinished}
use Rattle.ossl_crew.specs.Crew.{AreScripts, IsBack}
use Rattle.ossl_crew.proofs.RunLaws.{at_end}
use Rattle.ossl_ordered.specs.Run.{own_numbers}
use Rattle.ossl_ordered.specs.Turns.{IsRefusedRun}
use Rattle.ossl_par.specs.Threads.{IsOver, IsToldBy, IsToldOf}
use Rattle.ossl_par.proofs.EachLaws.{before_closing}
use Rattle.ossl_prepare.specs.declared.reading.Task.{Task}
use Rattle.ossl_prepare.specs.View.{PreparedView}
use Rattle.ossl_print.specs.Batched.{Batch, replies_of, replies_to, results_of}
use Rattle.ossl_print.specs.Order.{history_number}
use Rattle.ossl_print.specs.Results.{IsEachTold, told_to}
use Rattle.ossl_print.proofs.EndedLaws.{ended_told}
use Rattle.ossl_run.specs.Ending.{batch_of}
use Rattle.ossl_run.specs.Middle.{HasResults, IsCourse, IsRunnable}
use Rattle.ossl_run.specs.declared.course.Course.{Course}
use Rattle.ossl_run.specs.declared.course.Course.TheVariants.{Finished, Refused}
use Rattle.ossl_run.proofs.CallerLaws.{ended_results, own_number}
use Rattle.ossl_run.proofs.TextLaws.{callers_counted, numbers_distinct}
use Rattle.ossl_script.specs.Caller.{results_of as results_in}
use Rattle.ossl_script.specs.View.{ScriptCallerView, printed_of}
use Rattle.ossl_state.specs.declared.call.Call.{Call}
use Rattle.ossl_state.specs.declared.call.Reply.{Reply}
use Rattle.ossl_state.specs.Tokens.{entries_of}
use Rattle.ossl_turn.specs.Passes.{SharedFacts}

-- 1. A caller whose lines are done.

module _ {P : Type 0} (shared : SharedFacts (Shown P)) (batch : Batch) (n : ℕ) (caller : CallerFacts P)
    (script : ScriptCallerView) (back : IsBack shared batch n caller script) (ended : script.ended ≡ true) where
  abbrev made : List Reply
  made = replies_of back.has_made.made

  -- what is printed of its lines are their results by what it was told of its calls
  printed_made : printed_of script ≡ results_of batch n made
  printed_made =
      (back.of_batch.speaks script.replies).1
      ∙ ap (λ m. results_in batch.lines batch.contents m script.replies) back.of_batch.caller
      ∙ ap (results_in batch.lines batch.contents n) back.has_made.replies

  -- and by all that the history has of it
  printed_is : printed_of script ≡ results_of batch n (replies_of caller.own)
  printed_is =
      let given : List Reply = replies_of back.has_made.given in
      let parts : replies_of caller.own ≡ made ++ given =
      ap replies_of back.has_made.parts
      ∙ map-append (λ (e : Entry Call Reply). e.reply) back.has_made.made back.has_made.given in
      printed_made
      ∙ sym (ended_results batch n made given (at_end shared batch n caller script back ended))
      ∙ ap (results_of batch n) (sym parts)

  told_is : IsEachTold batch.lines n (printed_of script)
  told_is = subst (IsEachTold batch.lines n) (sym printed_made)
      (ended_told batch n made (at_end shared batch n caller script back ended))

-- 2. All callers of a finished run.

some_caller : {P : Type 0} (callers : List (CallerFacts P)) (k : ℕ) → k < length callers → CallerFacts P
some_caller [] k here = absurd (omega (arith, here))
some_caller (caller ∷ callers) k here = caller

some_script : (scripts : List ScriptCallerView) (k : ℕ) → k < length scripts → ScriptCallerView
some_script [] k here = absurd (omega (arith, here))
some_script (script ∷ scripts) k here = script

mapped_at : {X Y : Type 0} (f : X → Y) (xs : List X) (i : ℕ) (d : X) (e : Y) → i < length xs
    → get_or (map f xs) i e ≡ f (get_or xs i d)
mapped_at f [] i d e within = absurd (omega (arith, within))
mapped_at f (x ∷ xs) zero d e within = refl
mapped_at f (x ∷ xs) (suc i) d e within = mapped_at f xs i d e (omega (arith, within))

module _ (P : Type 0) (settings : SettingsView) (batch : Batch) (entries : List (Entry Call Reply))
    (scripts : List ScriptCallerView) (all : IsFinished P settings batch entries scripts) where
  abbrev log : List (Entry Call Reply)
  log = all.run.opening ++ all.run.middle

  module _ (c : ℕ) (some : 0 < c) (few : c ≤ length scripts) where
    there : c - 1 < length scripts
    there = omega (arith, some, few)

    here : c - 1 < length all.worked.callers
    here = let same : length scripts ≡ length all.worked.callers = all.worked.same in omega (arith, some, few, same)

    inside : c ≤ callers_of batch.lines
    inside = let each : length scripts ≡ callers_of batch.lines = all.each in omega (arith, few, each)

    abbrev caller : CallerFacts P
    caller = get_or all.worked.callers (c - 1) (some_caller all.worked.callers (c - 1) here)

    abbrev script : ScriptCallerView
    script = get_or scripts (c - 1) (some_script scripts (c - 1) there)

    is_back : IsBack all.worked.shared batch c caller script
    is_back = let number : c - 1 + 1 ≡ c = omega (arith, some) in
        subst (λ n. IsBack all.worked.shared batch n caller script) number
        (all.worked.back (c - 1) (some_caller all.worked.callers (c - 1) here) (some_script scripts (c - 1) there) here)

    is_ended : script.ended ≡ true
    is_ended = all.ended (c - 1) (some_script scripts (c - 1) there) there

    -- the history has of it what it made
    own_is : entries_of c entries ≡ caller.own
    own_is =
        ap (entries_of c) all.run.parts
        ∙ before_closing c log all.run.closing some all.run.closed.caller
        ∙ subst (λ n. entries_of n log ≡ caller.own) is_back.number
        (all.worked.confirmed (c - 1) (some_caller all.worked.callers (c - 1) here) here).1

    told_at : told_to (map printed_of scripts) c ≡ printed_of script
    told_at = mapped_at printed_of scripts (c - 1) (some_script scripts (c - 1) there) [] there

    result_is : told_to (map printed_of scripts) c
        ≡ results_of batch c (replies_to (history_number (own_numbers batch) c) entries)
    result_is =
        told_at
        ∙ printed_is all.worked.shared batch c caller script is_back is_ended
        ∙ ap (λ es. results_of batch c (replies_of es)) (sym own_is)
        ∙ ap (λ n. results_of batch c (replies_to n entries)) (sym (own_number batch c some inside))

    each_told : IsEachTold batch.lines c (told_to (map printed_of scripts) c)
    each_told = subst (IsEachTold batch.lines c) (sym told_at)
        (told_is all.worked.shared batch c caller script is_back is_ended)

-- 3. What a run comes to.

module _ (P : Type 0) (task : Task) (entries : List (Entry Call Reply))
    (runnable : IsRunnable task.prepared.script) where
  abbrev batch : Batch
  batch = batch_of task.prepared

  has_results : (scripts : List ScriptCallerView) → IsFinished P task.prepared.settings batch entries scripts
      → HasResults task (map printed_of scripts) entries
  has_results scripts all = record {
    each = long;
    are_results = λ c some few. result_is P task.prepared.settings batch entries scripts all c some (within c few);
    told = record {
      callers = callers_counted runnable.text _ runnable.said (length (map printed_of scripts)) (sym long);
      numbers = numbers_distinct runnable.text _ runnable.said;
      each = λ c some few. each_told P task.prepared.settings batch entries scripts all c some (within c few);
    };
  }
    where
      long : length (map printed_of scripts) ≡ callers_of batch.lines
      long = length-map scripts printed_of ∙ all.each

      within : (c : ℕ) → c ≤ length (map printed_of scripts) → c ≤ length scripts
      within c few =
          let same : length (map printed_of scripts) ≡ length scripts = length-map scripts printed_of in
          omega (arith, few, same)

  course_told : (came : Worked) (course : Course) → IsWorked P task.prepared.settings batch entries came
      → IsToldBy came course → IsCourse true course task entries
  course_told (worked.Finished scripts) (Finished results) all told =
      (all.run, subst (λ rs. HasResults task rs entries) (sym told) (has_results scripts.items all))
  course_told (worked.Finished scripts) (Refused name) all told = absurd told
  course_told (worked.Refused name) (Finished results) run told = absurd told
  course_told (worked.Refused name) (Refused named) run told =
      subst (λ n. IsRefusedRun task.prepared.settings batch n entries) (sym told) run

  -- what is told of a run is what it came to
  pub course_of : (came : Result Worked AllocError) (course : Result Course AllocError)
      → IfOk came (λ came. IsWorked P task.prepared.settings batch entries came) → IfOk course (IsToldOf came)
      → IfOk course (λ course. IsCourse true course task entries)
  course_of (Ok came) (Ok course) run told = course_told came course run told
  course_of (Ok came) (Err e) run told = tt
  course_of (Err e) (Ok course) run told = absurd told
  course_of (Err e) (Err f) run told = tt

-- 4. What the course of a run asks for and gives.

-- the scripts of a crew are those of all callers of the batch, over a registry that was opened for it
pub scripts_of : {P : Type 0} (prepared : PreparedView) (text : ScriptView) (contents : List (List ℕ)) (contexts : ℕ)
    (shared registry begun : Shown P) (scripts : List ScriptCallerView) → text ≡ prepared.script
    → contents ≡ prepared.contents → contexts ≡ contexts_of text.commands → shared ≡ registry → registry ≡ begun
    → begun.contexts ≡ contexts → length scripts ≡ callers_of text.commands
    → AreScripts (record { lines = text.commands; contents = contents }) scripts
    → AreOf (batch_of prepared) shared.contexts scripts
scripts_of {P} prepared text contents contexts shared registry begun scripts same held count is fresh many each are =
    record {
      few = sym (of shared registry is ∙ of registry begun fresh ∙ many ∙ count
          ∙ ap (λ (s : ScriptView). contexts_of s.commands) same);
      are = subst (λ (z : ScriptView × List (List ℕ)). AreScripts (record { lines = z.0.commands; contents = z.1 })
          scripts) (λ i. (same i, held i)) are;
      each = each ∙ ap (λ (s : ScriptView). callers_of s.commands) same;
    }
  where
    of : (one other : Shown P) → one ≡ other → one.contexts ≡ other.contexts
    of one other is = ap (λ (r : Shown P). r.contexts) is

pub came_of : (P : Type 0) (prepared : PreparedView) (settings : SettingsView) (entries : List (Entry Call Reply))
    (opened : ℕ) (scripts : List ScriptCallerView) (came : Result Worked AllocError) → settings ≡ prepared.settings
    → AreOf (batch_of prepared) opened scripts
    → IfOk came (λ course. (batch : Batch) → AreOf batch opened scripts → IsWorked P settings batch entries course)
    → IfOk came (λ course. IsWorked P prepared.settings (batch_of prepared) entries course)
came_of P prepared settings entries opened scripts (Ok course) same of all =
    subst (λ s. IsWorked P s (batch_of prepared) entries course) same (all (batch_of prepared) of)
came_of P prepared settings entries opened scripts (Err e) same of all = tt

-- in a finished run the lines of each caller are done
pub over : (P : Type 0) (settings : SettingsView) (of : Batch) (entries : List (Entry Call Reply))
    (came : Result Worked AllocError) → IfOk came (λ came. IsWorked P settings of entries came) → IfOk came IsOver
over P settings of entries (Ok (worked.Finished scripts)) all = all.ended
over P settings of entries (Ok (worked.Refused name)) run = tt
over P settings of entries (Err e) run = tt
