-- The parts of a run: what its callers leave between the opening and the closing, and what it comes to.
use Rattle.std.specs.Prelude.{ℕ, ◌≡◌, ◌<◌, ◌≤◌, Bool, false, ◌||◌, Ok, Err, Result, Option, Some, None, List, []}
use Rattle.std.specs.Prelude.{◌++◌, length, map}
use Rattle.std.specs.declared.alloc.AllocError.{AllocError}
use Rattle.std.specs.Io.KnownBytes.{Appends}
use Rattle.ossl_provider.specs.Sheet.{Facts}
use Rattle.ossl_base.specs.declared.entry.Entry.{Entry}
use Rattle.ossl_commands.specs.Counts.{callers_of, contexts_of}
use Rattle.ossl_commands.specs.Judging.{commands_of}
use Rattle.ossl_commands.specs.View.{ScriptView}
use Rattle.ossl_print.specs.Batched.{Batch}
use Rattle.ossl_print.specs.Output.{AreResults}
use Rattle.ossl_print.specs.Results.{AreTold}
use Rattle.ossl_prepare.specs.declared.reading.Task.{Task}
use Rattle.ossl_script.specs.declared.caller.LineResult.{LineResult}
use Rattle.ossl_state.specs.declared.call.Call.{Call}
use Rattle.ossl_state.specs.declared.call.Reply.{Reply}
use Rattle.ossl_state.specs.Tokens.{context_token, entries_of, method_token, owns}
use Rattle.ossl_ordered.specs.Run.{own_numbers}
use Rattle.ossl_ordered.specs.Turns.{IsInTurn, IsRefusedRun, by_caller, returning_calls}
use Rattle.ossl_run.specs.declared.course.Course.{Course}
use Rattle.ossl_run.specs.declared.course.Course.TheVariants.{Finished, Refused}
use Rattle.ossl_run.specs.declared.answer.Answer.{Answer}
use Rattle.ossl_run.specs.Ending.{AreNamed, Boxes, IsAnswered, IsLeft, IsRunBy, IsSent, Sunk, batch_of}

-- the commands of a text, which name no more callers and no more library contexts than there may be
pub record IsRunnable (script : ScriptView) : Type 0 where
  pub text : List ℕ
  pub said : commands_of text ≡ Ok (record { lines = script.commands; files = script.files })
  pub callers : callers_of script.commands ≤ 16
  pub few : contexts_of script.commands ≤ 8

-- entries follow that are none of the program's, and after which no caller holds a method or an operation context
pub record GaveBack (old new : List (Entry Call Reply)) : Type 0 where
  pub middle : List (Entry Call Reply)
  pub parts : new ≡ old ++ middle
  pub program : entries_of 0 middle ≡ []
  pub holds_none : (c t : ℕ) → 0 < c
      → (owns (entries_of c middle) t method_token || owns (entries_of c middle) t context_token) ≡ false

-- all turns follow, and then what callers give back; these are the results of each caller, from 1
pub record DidAll (batch : Batch) (list : List ℕ) (old new : List (Entry Call Reply)) (results : List (List LineResult))
    : Type 0 where
  pub turns : List (Entry Call Reply)
  pub returning : List (Entry Call Reply)
  pub parts : new ≡ old ++ turns ++ returning
  pub in_turn : IsInTurn batch list [] turns
  pub returned : map (λ e. by_caller e.caller e.call) returning ≡ returning_calls batch turns
  pub each : length results ≡ callers_of batch.lines
  pub are_results : AreResults batch (own_numbers batch) (turns ++ returning) results
  pub told : AreTold batch.lines results

-- these are the results of each caller of a task, from 1, after these entries
pub record HasResults (task : Task) (results : List (List LineResult)) (entries : List (Entry Call Reply))
    : Type 0 where
  pub each : length results ≡ callers_of task.prepared.script.commands
  pub are_results : AreResults (batch_of task.prepared) (own_numbers (batch_of task.prepared)) entries results
  pub told : AreTold task.prepared.script.commands results

-- a finished run, with the results of each caller; or one whose opening was refused
abbrev pub IsCourse : Bool → Course → Task → List (Entry Call Reply) → Type 0
IsCourse threads (Finished results) task entries =
    IsRunBy threads task entries × HasResults task (map (λ rs. rs.items) results.items) entries
IsCourse threads (Refused name) task entries = IsRefusedRun task.prepared.settings (batch_of task.prepared) name entries

-- what a run leaves: the boxes as they came where no registry was opened
abbrev pub IsRan : Bool → Option (Result Course AllocError) → Task → Boxes → List (Entry Call Reply) → Type 0
IsRan threads None task boxes entries = (entries ≡ []) × (boxes.after ≡ boxes.before)
IsRan threads (Some (Err e)) task boxes entries = IsLeft boxes (contexts_of task.prepared.script.commands) entries
IsRan threads (Some (Ok course)) task boxes entries =
    IsLeft boxes (contexts_of task.prepared.script.commands) entries × IsCourse threads course task entries

-- what was answered to a run, with the numbers of its callers; or memory was wanting
abbrev pub IsToldOf : Bool → Task → List Facts → List (Entry Call Reply) → Result Answer AllocError → List ℕ → Type 0
IsToldOf threads task facts entries (Ok answer) callers =
    IsAnswered threads task facts
    (record { status = answer.status; text = answer.text.items; entries = entries; callers = callers })
IsToldOf threads task facts entries (Err e) callers = AreNamed (batch_of task.prepared) entries callers

-- an answer is written, or there is none, for want of memory
abbrev pub Sends : Sunk → Result Answer AllocError → ℕ → Type 0
Sends sunk (Ok answer) status = IsSent sunk answer.status answer.text.items status
Sends sunk (Err e) status = (status ≡ 9) × Appends sunk.taken sunk.now []
