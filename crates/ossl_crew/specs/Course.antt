-- The scripts of a whole batch, and what a run of them in threads comes to.
use Rattle.std.specs.Prelude.{ℕ, ◌≡◌, ⊤, Ok, Err, Result, List, ◌++◌, length}
use Rattle.std.specs.declared.alloc.AllocError.{AllocError}
use Rattle.ossl_base.specs.declared.entry.Entry.{Entry}
use Rattle.ossl_commands.specs.Counts.{callers_of, contexts_of}
use Rattle.ossl_conf.specs.View.{SettingsView}
use Rattle.ossl_crew.specs.declared.course.Course.{Course}
use Rattle.ossl_crew.specs.declared.course.Course.TheVariants.{Finished, Refused}
use Rattle.ossl_crew.specs.Crew.{AreEnded, AreScripts, HaveDone, WereAtWork}
use Rattle.ossl_ordered.specs.declared.opening.OpeningRefused.{OpeningRefused}
use Rattle.ossl_ordered.specs.declared.opening.OpeningRefused.TheVariants.{Provider, NoMemory}
use Rattle.ossl_ordered.specs.Run.{IsRun, own_numbers}
use Rattle.ossl_ordered.specs.Turns.{IsRefusedRun}
use Rattle.ossl_print.specs.Batched.{Batch}
use Rattle.ossl_script.specs.View.{ScriptCallerView}
use Rattle.ossl_state.specs.declared.call.Call.{Call}
use Rattle.ossl_state.specs.declared.call.Reply.{Reply}

-- these are the scripts of all callers of a batch, which names so many library contexts
pub record AreOf (batch : Batch) (contexts : ℕ) (scripts : List ScriptCallerView) : Type 0 where
  pub few : contexts_of batch.lines ≡ contexts
  pub are : AreScripts batch scripts
  pub each : length scripts ≡ callers_of batch.lines

-- behind an opening the callers of a batch did all their lines, and these are their scripts then
pub record HaveEnded (P : Type 0) (batch : Batch) (opening entries : List (Entry Call Reply))
    (scripts : List ScriptCallerView) : Type 0 where
  pub done : HaveDone batch opening entries
  pub each : length scripts ≡ callers_of batch.lines
  pub ended : AreEnded scripts
  pub worked : WereAtWork P batch opening entries scripts

-- what follows an opening: where it is not refused, the callers did all their lines; where it is, at the load of this
-- provider, nothing; or memory was refused
abbrev pub Came : Type 0 → ℕ → List ScriptCallerView → List (Entry Call Reply) → List (Entry Call Reply)
    → Result Unit OpeningRefused → Result Course AllocError → Type 0
Came P contexts scripts opening entries (Ok u) (Ok (Finished left)) =
    (batch : Batch) → AreOf batch contexts scripts → HaveEnded P batch opening entries left.items
Came P contexts scripts opening entries (Ok u) (Ok (Refused name)) = ⊥
Came P contexts scripts opening entries (Ok u) (Err e) = ⊤
Came P contexts scripts opening entries (Err (Provider named)) (Ok (Finished left)) = ⊥
Came P contexts scripts opening entries (Err (Provider named)) (Ok (Refused name)) =
    (name ≡ named) × (entries ≡ opening)
Came P contexts scripts opening entries (Err (Provider named)) (Err e) = ⊤
Came P contexts scripts opening entries (Err NoMemory) (Ok course) = ⊥
Came P contexts scripts opening entries (Err NoMemory) (Err e) = ⊤

-- a finished run in threads: what each caller is then is what it became by its entries
pub record IsFinished (P : Type 0) (settings : SettingsView) (batch : Batch) (entries : List (Entry Call Reply))
    (scripts : List ScriptCallerView) : Type 0 where
  pub run : IsRun settings batch (own_numbers batch) entries
  pub each : length scripts ≡ callers_of batch.lines
  pub ended : AreEnded scripts
  pub worked : WereAtWork P batch run.opening (run.opening ++ run.middle) scripts

-- the whole run: a finished one, in whatever order, or one whose opening was refused
abbrev pub IsCourse : Type 0 → SettingsView → Batch → List (Entry Call Reply) → Course → Type 0
IsCourse P settings batch entries (Finished scripts) = IsFinished P settings batch entries scripts.items
IsCourse P settings batch entries (Refused name) = IsRefusedRun settings batch name entries
