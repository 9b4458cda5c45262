-- A task that is due has the commands of a text, which name no more callers and library contexts than there may be.
use Rattle.std.proofs.Common.{◌≡◌, ℕ, ◌≤◌, List, [], length, map, Bool, true, false, refl, ap, nat_lt, subst, sym, ◌∙◌, arith, inl, inr}
use Rattle.std.specs.Prelude.{Option, Some, None, Result, Ok, Err, if◌then◌else◌}
use Rattle.std.proofs.lemmas.Bool.{cases_lt, lt-ltb, true≢false}
use Rattle.ossl_commands.specs.declared.limit.Limit as limit
use Rattle.ossl_commands.specs.declared.limit.Limit.TheVariants as limits
use Rattle.ossl_commands.specs.Counts.{callers_of, contexts_of, line_count}
use Rattle.ossl_commands.specs.Fits.{passed_limit}
use Rattle.ossl_commands.specs.Judging.{Commands, Fault, commands_of}
use Rattle.ossl_commands.specs.Limit.{most_of}
use Rattle.ossl_commands.specs.View.{ScriptView}
use Rattle.ossl_prepare.specs.declared.error_line.ErrorLine.{ErrorLine}
use Rattle.ossl_prepare.specs.declared.reading.Task.{Task}
use Rattle.ossl_prepare.specs.Answered.{AreContents, IsDue, IsDueBehind, Then, Told}
use Rattle.ossl_prepare.specs.Due.{fitting, passing, script_of, script_said}
use Rattle.ossl_prepare.specs.Task.{Inputs, IsDueOf, IsDueRun, conf_of, task_with}
use Rattle.ossl_prepare.specs.View.{PreparedView}
use Rattle.ossl_words.specs.Commands.{job_of}
use Rattle.ossl_words.specs.declared.job.Job.{Job}
use Rattle.ossl_run.specs.Middle.{IsRunnable}

-- what the text of a script says
abbrev saying : ScriptView → Result Commands Fault
saying script = Ok (record { lines = script.commands; files = script.files })

said_by : (text : List ℕ) (script : ScriptView) → script_of text ≡ Ok script → commands_of text ≡ saying script
said_by text script is = of (commands_of text) refl is
  where
    of : (r : Result Commands Fault) → commands_of text ≡ r → script_said (line_count text) r ≡ Ok script
        → commands_of text ≡ saying script
    of (Err fault) was is = cc
    of (Ok said) was is =
        let view : ScriptView = record { lines = line_count text; commands = said.lines; files = said.files } in
        let same : view ≡ script = cc in
        was ∙ ap saying same

-- the second of two limits is not passed where none is
second : (a b : Bool) (x y : limit.Limit) (rest : Option limit.Limit)
    → (if a then Some x else if b then Some y else rest) ≡ None → b ≡ false
second true b x y rest none = cc
second false true x y rest none = cc
second false false x y rest none = refl

few_callers : (script : ScriptView) (lengths : List ℕ) → passed_limit script.lines script.commands lengths ≡ None
    → callers_of script.commands ≤ 16
few_callers script lengths none = elim (cases_lt 16 (callers_of script.commands)) [
  | inl above ↦ absurd (true≢false (sym (lt-ltb 16 (callers_of script.commands) above)
      ∙ second (nat_lt (most_of limits.Lines) script.lines)
      (nat_lt (most_of limits.Callers) (callers_of script.commands))
      limits.Lines limits.Callers _ none))
  | inr few ↦ omega (arith, few)
]

-- the third of three limits is not passed where none is
third : (a b c : Bool) (x y z : limit.Limit) (rest : Option limit.Limit)
    → (if a then Some x else if b then Some y else if c then Some z else rest) ≡ None → c ≡ false
third true b c x y z rest none = cc
third false true c x y z rest none = cc
third false false true x y z rest none = cc
third false false false x y z rest none = refl

few_contexts : (script : ScriptView) (lengths : List ℕ) → passed_limit script.lines script.commands lengths ≡ None
    → contexts_of script.commands ≤ 8
few_contexts script lengths none = elim (cases_lt 8 (contexts_of script.commands)) [
  | inl above ↦ absurd (true≢false (sym (lt-ltb 8 (contexts_of script.commands) above)
      ∙ third (nat_lt (most_of limits.Lines) script.lines)
      (nat_lt (most_of limits.Callers) (callers_of script.commands))
      (nat_lt (most_of limits.Contexts) (contexts_of script.commands))
      limits.Lines limits.Callers limits.Contexts _ none))
  | inr few ↦ omega (arith, few)
]

passing_none : (first : Option limit.Limit) (x : Unit {0}) → passing first ≡ Ok x → first ≡ None
passing_none None x is = refl
passing_none (Some first) x is = cc

module _ (text : List ℕ) (p : PreparedView) where
  runnable_of : (script : ScriptView) (held : List (List ℕ)) → script_of text ≡ Ok script
      → (x : Unit {0}) → fitting script [] ≡ Ok x → p.script ≡ script → IsRunnable p.script
  runnable_of script held said x fits same = subst IsRunnable (sym same) (record {
    text = text;
    said = said_by text script said;
    callers = few_callers script [] (passing_none (passed_limit script.lines script.commands []) x fits);
    few = few_contexts script [] (passing_none (passed_limit script.lines script.commands []) x fits);
  })

-- what is due behind the files of a script, behind its limits with their lengths, and behind those of its text
abbrev Behind : Told → Option (List ℕ) → ScriptView → List (List ℕ) → Result PreparedView ErrorLine → Type 0
Behind files conf script held result =
    IsDueBehind files conf (λ settings. record { script = script; contents = held; settings = settings }) result

abbrev Fitted : Told → Option (List ℕ) → ScriptView → List (List ℕ) → Result (Unit {0}) ErrorLine
    → Result PreparedView ErrorLine → Type 0
Fitted files conf script held fits result = Then fits (λ x. Behind files conf script held result) result

abbrev Filled : Told → Option (List ℕ) → ScriptView → Result (Unit {0}) ErrorLine
    → Result PreparedView ErrorLine → Type 0
Filled files conf script fits result =
    Then fits (λ x. (contents : Result (List (List ℕ)) ErrorLine) × AreContents files [] script.files contents
    × Then contents (λ held. Fitted files conf script held (fitting script (map length held)) result) result) result

due_text : (files : Told) (conf : Option (List ℕ)) (text : List ℕ) (p : PreparedView)
    → IsDue files conf text (Ok p) → IsRunnable p.script
due_text files conf text p due = of (script_of text) refl due
  where
    behind : (script : ScriptView) (held : List (List ℕ)) → Behind files conf script held (Ok p) → p.script ≡ script
    behind script held (Err e, settings, is) = cc
    behind script held (Ok s, settings, is) = cc

    second : (script : ScriptView) (held : List (List ℕ)) (f : Result (Unit {0}) ErrorLine)
        → Fitted files conf script held f (Ok p) → p.script ≡ script
    second script held (Err e) h = cc
    second script held (Ok x) h = behind script held h

    first : (script : ScriptView) → script_of text ≡ Ok script → (f : Result (Unit {0}) ErrorLine)
        → fitting script [] ≡ f → Filled files conf script f (Ok p) → IsRunnable p.script
    first script said (Err e) was h = cc
    first script said (Ok x) was (Err e, contents, h) = cc
    first script said (Ok x) was (Ok held, contents, h) =
        runnable_of text p script held said x was (second script held (fitting script (map length held)) h)

    of : (r : Result ScriptView ErrorLine) → script_of text ≡ r
        → Then r (λ script. Filled files conf script (fitting script []) (Ok p)) (Ok p) → IsRunnable p.script
    of (Err e) was h = cc
    of (Ok script) was h = first script was (fitting script []) refl h

pub due_runnable : (inputs : Inputs) (task : Task) → IsDueRun inputs (Ok task) → IsRunnable task.prepared.script
due_runnable inputs task due = of (job_of inputs.threads inputs.words) due
  where
    of : (job : Option Job) → IsDueOf inputs job (Ok task) → IsRunnable task.prepared.script
    of None is = cc
    of (Some job) (Err e, text, is) = cc
    of (Some job) (Ok t, text, (Err e, prepared, is)) = cc
    of (Some job) (Ok t, text, (Ok p, prepared, is)) =
        let same : task_with job p ≡ task = cc in
        subst (λ (x : Task). IsRunnable x.prepared.script) same (due_text inputs.files (conf_of job) t p prepared)
