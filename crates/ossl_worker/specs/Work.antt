-- A caller's own entries against its script, and what a worker shows.
use Rattle.std.specs.Prelude.{ℕ, ◌≡◌, ◌≤◌, Bool, true, List, [], ◌++◌, map}
use Rattle.ossl_base.specs.declared.entry.Entry.{Entry}
use Rattle.ossl_commands.specs.declared.command.Line.{Line}
use Rattle.ossl_commands.specs.Counts.{contexts_of}
use Rattle.ossl_core.specs.Answered.{CallerFacts}
use Rattle.ossl_script.specs.declared.caller.Next.TheVariants as nexts
use Rattle.ossl_script.specs.Caller.{Follows}
use Rattle.ossl_script.specs.View.{ScriptCallerView, SpeaksFor, back_of, fresh, next_of}
use Rattle.ossl_state.specs.declared.call.Call.{Call}
use Rattle.ossl_state.specs.declared.call.Reply.{Reply}
use Rattle.ossl_state.specs.History.{Fixed, IsLegal}
use Rattle.ossl_state.specs.Tokens.{entries_of}

-- a caller's entries are, one by one, the calls that its script gave, with the replies that it took, and then those
-- that give back; a call that found no memory is none of them
pub record HasMade (script : ScriptCallerView) (entries : List (Entry Call Reply)) : Type 0 where
  pub made : List (Entry Call Reply)
  pub given : List (Entry Call Reply)
  pub parts : entries ≡ made ++ given
  pub follows : Follows script.lines script.contents script.caller [] made
  pub replies : script.replies ≡ map (λ e. e.reply) made
  pub returned : map (λ e. e.call) given ≡ script.given
  pub ended : script.ended ≡ true → next_of script ≡ nexts.End

-- the script has given no call and was refused nothing
abbrev pub IsFreshScript : ScriptCallerView → Type 0
IsFreshScript script = script ≡ fresh script.lines script.contents script.caller

-- the script is of a batch that names at most so many library contexts
pub record IsWithin (contexts : ℕ) (script : ScriptCallerView) : Type 0 where
  pub lines : List Line
  pub contents : List (List ℕ)
  pub speaks : SpeaksFor lines contents script
  pub few : contexts_of lines ≤ contexts

-- the script is of the same lines, contents and number
pub record IsSameScript (old new : ScriptCallerView) : Type 0 where
  pub lines : new.lines ≡ old.lines
  pub contents : new.contents ≡ old.contents
  pub caller : new.caller ≡ old.caller

-- these are all entries of a caller in some legal history
pub record IsLegalOf (fixed : Fixed) (number : ℕ) (entries : List (Entry Call Reply)) : Type 0 where
  pub history : List (Entry Call Reply)
  pub legal : IsLegal fixed history
  pub own : entries_of number history ≡ entries

-- a worker: its number in the batch, its caller in the history, its script, and whether its run was finished
pub record WorkerFacts (P : Type 0) : Type 0 where
  pub number : ℕ
  pub caller : CallerFacts P
  pub script : ScriptCallerView
  pub finished : Bool

-- what a worker keeps
pub record IsWorker {P : Type 0} (worker : WorkerFacts P) : Type 0 where
  pub number : worker.number ≡ worker.script.caller
  pub has_made : HasMade worker.script worker.caller.own
  pub finished : worker.finished ≡ true → (worker.script.ended ≡ true) × (worker.script.given ≡ back_of worker.script)
