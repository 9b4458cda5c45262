-- What a top call leaves, and how it ends: an error line, an opening that is refused, a finished run, or want of
-- memory.
use Rattle.std.specs.Prelude.{ℕ, ◌≡◌, ◌⊎◌, All, Bool, true, false, Ok, Err, Option, None, List, []}
use Rattle.std.specs.Prelude.{count_by, length, map, sum_by}
use Rattle.std.specs.Io.KnownBytes.{Appends}
use Rattle.ossl_base.specs.declared.entry.Entry.{Entry}
use Rattle.ossl_base.specs.Causes.{Rose}
use Rattle.ossl_base.specs.Whole.{AppendsPrefix}
use Rattle.ossl_provider.specs.Sheet.{Facts, Sheet}
use Rattle.ossl_state.specs.declared.call.Call.{Call}
use Rattle.ossl_state.specs.declared.call.Reply.{Reply}
use Rattle.ossl_state.specs.History.{Fixed, IsLegal}
use Rattle.ossl_state.specs.Tokens.{entries_of}
use Rattle.ossl_calls.specs.Registry.{HasSheets, IsDown}
use Rattle.ossl_watch.specs.Changes.{fixed_over}
use Rattle.ossl_commands.specs.Counts.{contexts_of}
use Rattle.ossl_commands.specs.Fits.{capped}
use Rattle.ossl_script.specs.declared.caller.LineResult.{LineResult}
use Rattle.ossl_words.specs.declared.job.Job.{Job}
use Rattle.ossl_words.specs.declared.job.Job.TheVariants.{Run, Gen}
use Rattle.ossl_generate.specs.declared.summary.Summary.{Summary}
use Rattle.ossl_generate.specs.Summary.{is_good, summary_text}
use Rattle.ossl_print.specs.Batched.{Batch, replies_to, results_of}
use Rattle.ossl_print.specs.Output.{printed_batch}
use Rattle.ossl_print.specs.Results.{batch_results, results_text}
use Rattle.ossl_prepare.specs.declared.error_line.ErrorLine.{ErrorLine}
use Rattle.ossl_prepare.specs.declared.error_line.ErrorLine.TheVariants.{Provider}
use Rattle.ossl_prepare.specs.declared.reading.Task.{Task}
use Rattle.ossl_prepare.specs.ErrorLine.{error_status, error_text}
use Rattle.ossl_prepare.specs.Task.{Inputs, IsDueRun, order_of}
use Rattle.ossl_prepare.specs.View.{PreparedView}
use Rattle.ossl_ordered.specs.Run.{IsRun, own_numbers}
use Rattle.ossl_ordered.specs.Turns.{IsRefusedRun, IsRunInOrder}

-- 1. The boxes.

-- the boxes that are handed in: their facts and their counts of faults; and their sheets before and after the call
pub record Boxes : Type 0 where
  pub facts : List Facts
  pub opened : List ℕ
  pub before : List Sheet
  pub after : List Sheet

abbrev pub boxes_of : {P : Type 0} → (P → Facts) → (P → Sheet) → List P → List P → Boxes
boxes_of facts sheet old new = record {
  facts = map facts old;
  opened = map (λ b. (sheet b).faults) old;
  before = map sheet old;
  after = map sheet new;
}

-- what never changes in a registry over these boxes
abbrev pub registry_over : Boxes → ℕ → Fixed
registry_over boxes contexts = record { facts = boxes.facts; contexts = contexts; opened = boxes.opened }

-- a registry was opened over the boxes and so many library contexts: its history is legal, each box has done what the
-- history says, and no box is up
pub record IsLeft (boxes : Boxes) (contexts : ℕ) (entries : List (Entry Call Reply)) : Type 0 where
  pub legal : IsLegal (registry_over boxes contexts) entries
  pub sheets : HasSheets (registry_over boxes contexts) boxes.after entries
  pub down : All IsDown boxes.after

-- no registry was opened: there is no history and no caller, and the boxes are as they came
pub record IsUntouched (boxes : Boxes) (entries : List (Entry Call Reply)) (callers : List ℕ) : Type 0 where
  pub no_entry : entries ≡ []
  pub no_caller : callers ≡ []
  pub as_came : boxes.after ≡ boxes.before

-- 2. What is written.

-- the batch of a task
abbrev pub batch_of : PreparedView → Batch
batch_of prepared = record { lines = prepared.script.commands; contents = prepared.contents }

-- how many results are good
abbrev pub good_among : List LineResult → ℕ
good_among results = count_by (λ result. is_good result.text) results

-- how many lines of a finished run have good results, each caller of which stands under its own number
abbrev pub good_after : Batch → List (Entry Call Reply) → ℕ
good_after batch entries =
    sum_by (λ caller. good_among (results_of batch caller (replies_to caller entries))) (own_numbers batch)

-- the summary of a generated batch, with how many results are good, as a number of 64 bits holds it, how many entries
-- there are, and the digest of the results as they would be printed
abbrev pub summary_after : Batch → List (Entry Call Reply) → Summary → List ℕ
summary_after batch entries told =
    summary_text (record told { good = capped (good_after batch entries); entries = length entries })
    (results_text (batch_results batch (λ caller. replies_to caller entries)))

abbrev pub summary_of : ℕ → ℕ → ℕ → Summary
summary_of lines seed callers = record { lines = lines; seed = seed; callers = callers; good = 0; entries = 0 }

-- what a finished run writes: its order and its results, or the summary of a generated batch
abbrev pub text_of : Job → List Facts → Batch → List (Entry Call Reply) → List ℕ
text_of (Run conf order hits) facts batch entries =
    printed_batch (fixed_over facts (contexts_of batch.lines)) batch (own_numbers batch) None entries
text_of (Gen lines seed callers) facts batch entries = summary_after batch entries (summary_of lines seed callers)

-- 3. The endings.

-- how a call is to end: its status, what is to be written, the history, and the number of each caller of the batch in
-- it
pub record Ending : Type 0 where
  pub status : ℕ
  pub text : List ℕ
  pub entries : List (Entry Call Reply)
  pub callers : List ℕ

-- the first error in the order of the checks, and nothing else happens
pub record IsRefusedLine (inputs : Inputs) (boxes : Boxes) (ending : Ending) : Type 0 where
  pub error : ErrorLine
  pub due : IsDueRun inputs (Err error)
  pub status : ending.status ≡ error_status error
  pub text : ending.text ≡ error_text error
  pub untouched : IsUntouched boxes ending.entries ending.callers

-- the run of a task whose opening is refused: a load is not answered with an activation, which is named, what was
-- opened is closed, and no caller of the batch has an entry
pub record IsRefusedOpening (task : Task) (ending : Ending) : Type 0 where
  pub name : List ℕ
  pub run : IsRefusedRun task.prepared.settings (batch_of task.prepared) name ending.entries
  pub status : ending.status ≡ 8
  pub text : ending.text ≡ error_text (Provider name)
  pub callers : ending.callers ≡ []

-- the entries of a finished run: in the order that the task states; or, of callers in threads, by their own numbers
abbrev pub IsRunBy : Bool → Task → List (Entry Call Reply) → Type 0
IsRunBy false task entries = IsRunInOrder task.prepared.settings (batch_of task.prepared) (order_of task.job) entries
IsRunBy true task entries =
    IsRun task.prepared.settings (batch_of task.prepared) (own_numbers (batch_of task.prepared)) entries

-- a finished run of a task, by a program with threads or one without
pub record IsFinishedRun (threads : Bool) (task : Task) (facts : List Facts) (ending : Ending) : Type 0 where
  pub run : IsRunBy threads task ending.entries
  pub status : ending.status ≡ 0
  pub text : ending.text ≡ text_of task.job facts (batch_of task.prepared) ending.entries
  pub callers : ending.callers ≡ own_numbers (batch_of task.prepared)

abbrev pub IsAnswered : Bool → Task → List Facts → Ending → Type 0
IsAnswered threads task facts ending = IsRefusedOpening task ending ⊎ IsFinishedRun threads task facts ending

-- the words, the batch, the files and the configuration are in order, and this is how their run ends
pub record IsRunDue (inputs : Inputs) (boxes : Boxes) (ending : Ending) : Type 0 where
  pub task : Task
  pub due : IsDueRun inputs (Ok task)
  pub answered : IsAnswered inputs.threads task boxes.facts ending
  pub left : IsLeft boxes (contexts_of task.prepared.script.commands) ending.entries

abbrev pub IsEnding : Inputs → Boxes → Ending → Type 0
IsEnding inputs boxes ending = IsRefusedLine inputs boxes ending ⊎ IsRunDue inputs boxes ending

-- these are the callers of a batch, or there is no entry but the program's
abbrev pub AreNamed : Batch → List (Entry Call Reply) → List ℕ → Type 0
AreNamed batch entries callers = (callers ≡ own_numbers batch) ⊎ (callers ≡ []) × (entries_of 0 entries ≡ entries)

-- a run was begun that memory did not let end
pub record IsStopped (inputs : Inputs) (boxes : Boxes) (entries : List (Entry Call Reply)) (callers : List ℕ) : Type 0
  where
    pub task : Task
    pub due : IsDueRun inputs (Ok task)
    pub named : AreNamed (batch_of task.prepared) entries callers
    pub left : IsLeft boxes (contexts_of task.prepared.script.commands) entries

-- what a sink has taken, where it tells it, and its count of faults, before and after a call
pub record Sunk : Type 0 where
  pub taken : Option (List ℕ)
  pub now : Option (List ℕ)
  pub faults : ℕ
  pub faults_now : ℕ

-- all of a text is written, and the status is that which is due; or it is 4: the sink failed, which it counted, and
-- took a prefix
abbrev pub IsSent : Sunk → ℕ → List ℕ → ℕ → Type 0
IsSent sunk due text status =
    (status ≡ due) × Appends sunk.taken sunk.now text
    ⊎ (status ≡ 4) × Rose sunk.faults sunk.faults_now × AppendsPrefix sunk.taken sunk.now text

-- how a call ends, of which this history and these callers are left: as is due; or at 9, for want of memory, with
-- nothing written
abbrev pub Ends : Inputs → Boxes → Sunk → ℕ → List (Entry Call Reply) → List ℕ → Type 0
Ends inputs boxes sunk status entries callers =
    ((due : ℕ) × (text : List ℕ)
    × IsEnding inputs boxes (record { status = due; text = text; entries = entries; callers = callers })
    × IsSent sunk due text status)
    ⊎ ((status ≡ 9) × Appends sunk.taken sunk.now []
    × (IsUntouched boxes entries callers ⊎ IsStopped inputs boxes entries callers))
