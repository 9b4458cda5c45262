-- The workers of a batch: before their runs and after them.
use Rattle.std.specs.Prelude.{ℕ, ◌≡◌, ◌+◌, ◌<◌, ◌≤◌, ◌⊎◌, ◌++◌, true, false, All, List, [], length, slice_index_or}
use mathlib.Core.List.{IsPrefix}
use Rattle.ossl_base.specs.declared.entry.Entry.{Entry}
use Rattle.ossl_calls.specs.Registry.{Shown}
use Rattle.ossl_commands.specs.Counts.{callers_of}
use Rattle.ossl_ordered.specs.Turns.{IsDone}
use Rattle.ossl_core.specs.Answered.{CallerFacts, IsStillOf}
use Rattle.ossl_core.specs.Owned.{OwnsNothing}
use Rattle.ossl_print.specs.Batched.{Batch}
use Rattle.ossl_script.specs.View.{ScriptCallerView, SpeaksFor, back_of}
use Rattle.ossl_state.specs.declared.call.Call.{Call}
use Rattle.ossl_state.specs.declared.call.Reply.{Reply}
use Rattle.ossl_state.specs.Tokens.{Token, entries_of, owns}
use Rattle.ossl_turn.specs.Passes.{CameFrom, Confirms, SharedFacts}
use Rattle.ossl_worker.specs.Work.{HasMade, IsFreshScript, IsSameScript, IsWithin, WorkerFacts}

-- what the caller of this number does in a batch
pub record IsScriptOf (batch : Batch) (n : ℕ) (script : ScriptCallerView) : Type 0 where
  pub caller : script.caller ≡ n
  pub speaks : SpeaksFor batch.lines batch.contents script

-- the scripts of the callers from 1 on, none of which has given a call
abbrev pub AreScripts : Batch → List ScriptCallerView → Type 0
AreScripts batch scripts = (k : ℕ) (other : ScriptCallerView) → k < length scripts
    → IsScriptOf batch (k + 1) (slice_index_or scripts k other) × IsFreshScript (slice_index_or scripts k other)

-- a worker before its run
pub record IsHired {P : Type 0} (shared : SharedFacts (Shown P)) (batch : Batch) (n : ℕ) (worker : WorkerFacts P)
    : Type 0 where
  pub from : CameFrom shared worker.caller
  pub number : worker.caller.number ≡ n
  pub made : worker.caller.made ≡ 0
  pub none : worker.caller.own ≡ []
  pub script : IsScriptOf batch n worker.script
  pub fresh : IsFreshScript worker.script

-- so many workers before their runs, that of the greatest number first
abbrev pub AreHired : {P : Type 0} → SharedFacts (Shown P) → Batch → ℕ → List (WorkerFacts P) → Type 0
AreHired {P} shared batch count workers = (k : ℕ) (other : WorkerFacts P) → k < length workers
    → (n : ℕ) → n + k ≡ count → IsHired shared batch n (slice_index_or workers k other)

-- a worker may run: its caller came from the shared registry, and its script names no more library contexts than that
-- has
pub record IsReady {P : Type 0} (shared : SharedFacts (Shown P)) (worker : WorkerFacts P) : Type 0 where
  pub from : CameFrom shared worker.caller
  pub none : worker.caller.own ≡ []
  pub fresh : IsFreshScript worker.script
  pub within : IsWithin shared.origin.contexts worker.script

-- a worker has run
pub record HasRun {P : Type 0} (shared : SharedFacts (Shown P)) (old new : WorkerFacts P) : Type 0 where
  pub from : IsStillOf shared old.caller new.caller
  pub same : IsSameScript old.script new.script
  pub made : HasMade new.script new.caller.own
  pub returned : new.script.given ≡ back_of new.script
  pub nothing : OwnsNothing new.caller.own
  pub ended : new.finished ≡ true → new.script.ended ≡ true

-- each of these workers has run
abbrev pub HaveRun : {P : Type 0} → SharedFacts (Shown P) → List (WorkerFacts P) → List (WorkerFacts P) → Type 0
HaveRun {P} shared old new = (length new ≡ length old) × ((k : ℕ) (other : WorkerFacts P) → k < length old
    → HasRun shared (slice_index_or old k other) (slice_index_or new k other))

-- a caller after its run: what it made are the calls of its lines and those that give back, and it owns nothing
pub record IsBack {P : Type 0} (shared : SharedFacts (Shown P)) (batch : Batch) (n : ℕ) (caller : CallerFacts P)
    (script : ScriptCallerView) : Type 0 where
  pub from : CameFrom shared caller
  pub number : caller.number ≡ n
  pub made : caller.made ≡ 0
  pub of_batch : IsScriptOf batch n script
  pub has_made : HasMade script caller.own
  pub returned : script.given ≡ back_of script
  pub nothing : OwnsNothing caller.own

-- so many workers after their runs, that of the greatest number first; each is finished only where its lines are done
abbrev pub AreBack : {P : Type 0} → SharedFacts (Shown P) → Batch → ℕ → List (WorkerFacts P) → Type 0
AreBack {P} shared batch count workers = (k : ℕ) (other : WorkerFacts P) → k < length workers
    → (n : ℕ) → n + k ≡ count
    → let worker = slice_index_or workers k other in
    IsBack shared batch n worker.caller worker.script × (worker.finished ≡ true → worker.script.ended ≡ true)

-- the callers and their scripts, from 1 on
abbrev pub AreReturned : {P : Type 0} → SharedFacts (Shown P) → Batch → List (CallerFacts P) → List ScriptCallerView
    → Type 0
AreReturned {P} shared batch callers scripts =
    (k : ℕ) (caller : CallerFacts P) (script : ScriptCallerView) → k < length callers
    → IsBack shared batch (k + 1) (slice_index_or callers k caller) (slice_index_or scripts k script)

-- the lines of each are done
abbrev pub AreEnded : List ScriptCallerView → Type 0
AreEnded scripts = (k : ℕ) (other : ScriptCallerView) → k < length scripts
    → (slice_index_or scripts k other).ended ≡ true

-- callers of a batch were at work over a shared registry, after an opening of the program: each of them is back, what
-- it made is all that the history has under its number, and nobody else has an entry behind the opening
pub record WereAtWork (P : Type 0) (batch : Batch) (opening log : List (Entry Call Reply))
    (scripts : List ScriptCallerView) : Type 0 where
  pub shared : SharedFacts (Shown P)
  pub callers : List (CallerFacts P)
  pub back : AreReturned shared batch callers scripts
  pub same : length scripts ≡ length callers
  pub confirmed : All (Confirms log) callers
  pub within : All (λ e. e.caller ≤ length callers) log
  pub begins : IsPrefix opening log
  pub program : entries_of 0 log ≡ opening

-- entries follow that are none of the program's, and after which nobody else owns a token
pub record HaveGivenBack (old new : List (Entry Call Reply)) : Type 0 where
  pub middle : List (Entry Call Reply)
  pub parts : new ≡ old ++ middle
  pub program : entries_of 0 middle ≡ []
  pub holds_none : (c t : ℕ) (token : Token) → 0 < c → owns (entries_of c middle) t token ≡ false

-- entries follow, in some order, in which each caller of the batch does its lines to their end and gives back what it
-- holds, and nobody else has an entry
pub record HaveDone (batch : Batch) (old new : List (Entry Call Reply)) : Type 0 where
  pub middle : List (Entry Call Reply)
  pub parts : new ≡ old ++ middle
  pub done : (caller : ℕ) → 0 < caller → caller ≤ callers_of batch.lines
      → IsDone batch caller (entries_of caller middle)
  pub others : (c : ℕ) → (c ≡ 0) ⊎ (callers_of batch.lines < c) → entries_of c middle ≡ []
