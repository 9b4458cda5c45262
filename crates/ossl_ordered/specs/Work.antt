-- Callers of a batch at work in a run.
use Rattle.std.specs.Prelude.{ℕ, ◌+◌, ◌-◌, ◌≡◌, ◌<◌, ◌≤◌, ◌⊎◌, true, Option, Some, None, List, [], ◌∷◌, ◌++◌, length}
use Rattle.std.specs.Prelude.{map, slice_index_or}
use Rattle.ossl_base.specs.declared.entry.Entry.{Entry}
use Rattle.ossl_commands.specs.declared.command.Line.{Line}
use Rattle.ossl_commands.specs.Counts.{callers_of, contexts_of, lines_of}
use Rattle.ossl_state.specs.History.{Fixed, IsAllowed}
use Rattle.ossl_state.specs.declared.call.Call.{Call}
use Rattle.ossl_state.specs.declared.call.Reply.{Reply}
use Rattle.ossl_state.specs.Tokens.{entries_of}
use Rattle.ossl_script.specs.declared.caller.Next.TheVariants as nexts
use Rattle.ossl_script.specs.Caller.{Follows}
use Rattle.ossl_script.specs.View.{GoesOn, SpeaksFor, back_of, is_call, is_end, next_of}
use Rattle.ossl_ordered.specs.declared.player.Player.{Player}
use Rattle.ossl_ordered.specs.declared.turns.Turn.{Turn}
use Rattle.ossl_ordered.specs.Turns.{IsInTurn, by_caller, returning_calls, turn_of}
use Rattle.ossl_print.specs.Batched.{Batch, next_of as next_in, replies_to}

-- a caller works for a batch: its entries are its next calls, one by one, it took each reply, and it gave nothing back
pub record IsAtWork (batch : Batch) (caller : ℕ) (entries : List (Entry Call Reply)) (player : Player) : Type 0 where
  pub number : player.caller ≡ caller
  pub same : player.work.caller ≡ caller
  pub speaks : SpeaksFor batch.lines batch.contents player.work
  pub follows : Follows batch.lines batch.contents caller [] (entries_of caller entries)
  pub replies : player.work.replies ≡ replies_to caller entries
  pub keeps : player.work.given ≡ []

-- its next call waits for its turn, or its lines are done
pub record IsReady (player : Player) : Type 0 where
  pub goes : GoesOn player.work (is_call player.next)
  pub next : player.next ≡ next_of player.work
  pub ended : player.work.ended ≡ is_end player.next

-- the turn of a caller that has a call left of a line
abbrev pub turn_in : Player → Option Turn
turn_in player = turn_of player.caller player.next

-- the caller made its next call, and took the reply
pub record Took (old new : Player) (e : Entry Call Reply) : Type 0 where
  pub caller : e.caller ≡ old.caller
  pub line : ℕ
  pub call : old.next ≡ nexts.Call line e.call
  pub number : new.caller ≡ old.caller
  pub same : new.work.caller ≡ old.work.caller
  pub lines : new.work.lines ≡ old.work.lines
  pub contents : new.work.contents ≡ old.work.contents
  pub replies : new.work.replies ≡ old.work.replies ++ e.reply ∷ []
  pub given : new.work.given ≡ old.work.given

-- the callers of a batch, from 1 on, are at work after these turns, which follow the program's opening
pub record AreAtWork (batch : Batch) (contexts : ℕ) (opening turns entries : List (Entry Call Reply))
    (players : List Player) : Type 0 where
  pub parts : entries ≡ opening ++ turns
  pub apart : entries_of 0 opening ≡ opening
  pub few : contexts_of batch.lines ≤ contexts
  pub none : lines_of 0 batch.lines ≡ []
  pub others : (c : ℕ) → (c ≡ 0) ⊎ (callers_of batch.lines < c) → entries_of c turns ≡ []
  pub each : length players ≡ callers_of batch.lines
  pub work : (k : ℕ) (other : Player) → k < length players
      → IsAtWork batch (k + 1) turns (slice_index_or players k other)

-- each of them is ready
abbrev pub AreReady : List Player → Type 0
AreReady players = (k : ℕ) (other : Player) → k < length players → IsReady (slice_index_or players k other)

-- an entry is the next call of the caller at a place
pub record IsNextOf (batch : Batch) (turns : List (Entry Call Reply)) (place : ℕ) (e : Entry Call Reply) : Type 0 where
  pub caller : e.caller ≡ place + 1
  pub line : ℕ
  pub call : next_in batch (place + 1) (replies_to (place + 1) turns) ≡ nexts.Call line e.call

-- a caller that gives back is otherwise as it was
pub record IsKept (old new : Player) : Type 0 where
  pub number : new.caller ≡ old.caller
  pub work : new.work ≡ record old.work { given = new.work.given }

abbrev pub AreKept : List Player → List Player → Type 0
AreKept old new = (length new ≡ length old) × ((k : ℕ) (other : Player) → k < length old
    → IsKept (slice_index_or old k other) (slice_index_or new k other))

-- the lines of each caller are done
abbrev pub AreEnded : List Player → Type 0
AreEnded players = (k : ℕ) (other : Player) → k < length players → (slice_index_or players k other).work.ended ≡ true

-- a caller at the start
pub record IsFresh (lines : List Line) (contents : List (List ℕ)) (caller : ℕ) (player : Player) : Type 0 where
  pub number : player.caller ≡ caller
  pub same : player.work.caller ≡ caller
  pub fresh : player.work.replies ≡ []
  pub keeps : player.work.given ≡ []
  pub speaks : SpeaksFor lines contents player.work

-- callers that are at the start: each has taken no reply
abbrev pub AreFresh : List Line → List (List ℕ) → List Player → Type 0
AreFresh lines contents players = (k : ℕ) (other : Player) → k < length players
    → IsFresh lines contents (k + 1) (slice_index_or players k other)

-- a caller may make the call that comes next
abbrev pub MayGo : Fixed → List (Entry Call Reply) → Player → Type 0
MayGo fixed entries player =
    (line : ℕ) × (call : Call) × (player.next ≡ nexts.Call line call)
    × IsAllowed fixed (entries_of player.caller entries) call

-- the caller took one turn
abbrev pub Takes : Player → Player → List (Entry Call Reply) → List (Entry Call Reply) → Type 0
Takes old new before after = (e : Entry Call Reply) × (after ≡ before ++ e ∷ []) × Took old new e

-- the callers of some batch are at work, after turns that follow an opening
abbrev pub Working : ℕ → List (Entry Call Reply) → List Player → Type 0
Working contexts entries players =
    (batch : Batch) × (opening : List (Entry Call Reply)) × (turns : List (Entry Call Reply))
    × AreAtWork batch contexts opening turns entries players

-- the caller at a place has a call left
abbrev pub HasCall : List Player → ℕ → Type 0
HasCall players place = (other : Player) → (turn : Turn) × (turn_in (slice_index_or players place other) ≡ Some turn)

-- what callers do between two moments, from whatever turns on: further turns follow, of which this is told
abbrev pub Goes : ℕ → List (Entry Call Reply) → List (Entry Call Reply) → List Player → List Player
    → (Batch → List (Entry Call Reply) → List (Entry Call Reply) → Type 0) → Type 0
Goes contexts before after old new Tells =
    (batch : Batch) (opening turns : List (Entry Call Reply)) → AreAtWork batch contexts opening turns before old
    → (made : List (Entry Call Reply)) × AreAtWork batch contexts opening (turns ++ made) after new
    × Tells batch turns made

-- nothing more is told
abbrev pub Runs : ℕ → List (Entry Call Reply) → List (Entry Call Reply) → List Player → List Player → Type 0
Runs contexts before after old new = Goes contexts before after old new (λ batch turns made. Unit {0})

-- the caller at a place took its turn
abbrev pub TakesAt : ℕ → ℕ → List (Entry Call Reply) → List (Entry Call Reply) → List Player → List Player → Type 0
TakesAt place contexts before after old new =
    Goes contexts before after old new (λ batch turns made. (e : Entry Call Reply) × (made ≡ e ∷ [])
    × IsNextOf batch turns place e)

-- the turns that a list gives before this rest of it
abbrev pub RunsBy : List ℕ → List ℕ → ℕ → List (Entry Call Reply) → List (Entry Call Reply) → List Player
    → List Player → Type 0
RunsBy list rest contexts before after old new =
    Goes contexts before after old new (λ batch turns made.
    (more : List (Entry Call Reply)) → IsInTurn batch rest (turns ++ made) more
    → IsInTurn batch list turns (made ++ more))

-- all turns, by a list and behind it by the order of the text
abbrev pub RunsInTurn : List ℕ → ℕ → List (Entry Call Reply) → List (Entry Call Reply) → List Player
    → List Player → Type 0
RunsInTurn list contexts before after old new =
    Goes contexts before after old new (λ batch turns made. IsInTurn batch list turns made)

-- a caller that may give back what it holds
abbrev pub IsGiving : List (Entry Call Reply) → Player → Type 0
IsGiving entries player = (batch : Batch) × IsAtWork batch player.caller entries player

-- a caller gave back what it held
abbrev pub Returns : Player → List (Entry Call Reply) → List (Entry Call Reply) → Type 0
Returns player before after = (given : List (Entry Call Reply)) × (after ≡ before ++ given)
    × (map (λ e. by_caller e.caller e.call) given ≡ map (by_caller player.caller) (back_of player.work))

-- all callers of a batch gave back what they held after these turns
abbrev pub ReturnsAll : Batch → List (Entry Call Reply) → List (Entry Call Reply) → List (Entry Call Reply) → Type 0
ReturnsAll batch turns before after = (returning : List (Entry Call Reply)) × (after ≡ before ++ returning)
    × (map (λ e. by_caller e.caller e.call) returning ≡ returning_calls batch turns)

-- a caller whose item in a list is passed over: it is none of the batch, or has no call left
abbrev pub IsPassed : List Player → ℕ → Type 0
IsPassed players caller =
    (caller ≡ 0) ⊎ ((length players < caller)
    ⊎ ((0 < caller) × (caller - 1 < length players) × ((other : Player)
    → turn_in (slice_index_or players (caller - 1) other) ≡ None)))
