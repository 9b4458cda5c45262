-- The order of a run: whose turn it is after the entries so far, by a list of callers, and behind the list by the
-- order of the text.
use Rattle.std.specs.Prelude.{ℕ, ◌-◌, ◌≡◌, ◌<◌, ◌≤◌, ⊤, Bool, true, false, nat_lt, Ok, Option, Some, None, option_map}
use Rattle.std.specs.Prelude.{List, [], ◌∷◌, ◌++◌, filter_map, fold, length, map, slice_index_or, if◌then◌else◌}
use Rattle.std.specs.List.{flat_map, range_with_len}
use Rattle.std.specs.Option.{option_or}
use Rattle.ossl_base.specs.declared.entry.Entry.{Entry}
use Rattle.ossl_state.specs.declared.call.Call.{Call}
use Rattle.ossl_state.specs.declared.call.Reply.{Reply}
use Rattle.ossl_state.specs.declared.call.Reply.TheVariants.{StartRefused}
use Rattle.ossl_state.specs.History.{Fixed, IsLegal}
use Rattle.ossl_state.specs.Tokens.{entries_of}
use Rattle.ossl_conf.specs.View.{SettingsView}
use Rattle.ossl_script.specs.declared.caller.Next.{Next}
use Rattle.ossl_script.specs.declared.caller.Next.TheVariants as nexts
use Rattle.ossl_script.specs.Caller.{Follows}
use Rattle.ossl_commands.specs.Counts.{callers_of, contexts_of}
use Rattle.ossl_commands.specs.Judging.{commands_of}
use Rattle.ossl_ordered.specs.declared.turns.Turn.{Turn}
use Rattle.ossl_print.specs.Batched.{Batch, giving_back_of, next_of, replies_to}
use Rattle.ossl_ordered.specs.Opening.{IsClosed, IsEnded, IsOpened}
use Rattle.ossl_print.specs.Batched.{replies_of}

-- the turn of a caller that has a call left of a line
abbrev pub turn_of : ℕ → Next → Option Turn
turn_of caller (nexts.Call line call) = Some (record { caller = caller; line = line })
turn_of caller nexts.End = None

-- the turn of a caller after the entries so far
abbrev pub turn_at : Batch → List (Entry Call Reply) → ℕ → Option Turn
turn_at batch past caller = turn_of caller (next_of batch caller (replies_to caller past))

-- the callers of a batch, ascending
abbrev pub callers_in : Batch → List ℕ
callers_in batch = range_with_len 1 (callers_of batch.lines)

-- of two turns the one of the lesser line
abbrev pub lesser : Option Turn → Turn → Option Turn
lesser None turn = Some turn
lesser (Some first) turn = if nat_lt turn.line first.line then Some turn else Some first

-- the turn of the least line
abbrev pub least : List Turn → Option Turn
least turns = fold lesser None turns

-- a turn, with what is left of the list
pub record Drawn : Type 0 where
  pub turn : Turn
  pub rest : List ℕ

abbrev pub drawn : List ℕ → Option Turn → Option Drawn
drawn rest turn = option_map (λ turn. record { turn = turn; rest = rest }) turn

-- the first caller of the list that has a call left; those before it are passed over
abbrev pub listed : Batch → List (Entry Call Reply) → List ℕ → Option Drawn
listed batch past [] = None
listed batch past (caller ∷ list) = option_or (drawn list (turn_at batch past caller)) (listed batch past list)

-- behind the list the caller whose next call has the least line
abbrev pub by_text : Batch → List (Entry Call Reply) → Option Turn
by_text batch past = least (filter_map (turn_at batch past) (callers_in batch))

-- whose turn it is; none where no line has a call left
abbrev pub next_turn : Batch → List (Entry Call Reply) → List ℕ → Option Drawn
next_turn batch past list = option_or (listed batch past list) (drawn [] (by_text batch past))

-- an entry is a turn: the next call of its caller, of that line
pub record IsTurn (batch : Batch) (past : List (Entry Call Reply)) (turn : Turn) (e : Entry Call Reply) : Type 0 where
  pub caller : e.caller ≡ turn.caller
  pub call : next_of batch e.caller (replies_to e.caller past) ≡ nexts.Call turn.line e.call

-- behind the entries so far, the entries are the turns, one by one, until no line has a call left
abbrev pub IsInTurn : Batch → List ℕ → List (Entry Call Reply) → List (Entry Call Reply) → Type 0
IsInTurn batch list past [] = next_turn batch past list ≡ None
IsInTurn batch list past (e ∷ es) =
    (next : Drawn) × (next_turn batch past list ≡ Some next) × IsTurn batch past next.turn e
    × IsInTurn batch next.rest (past ++ e ∷ []) es

-- a caller together with a call
abbrev pub by_caller : ℕ → Call → ℕ × Call
by_caller caller call = (caller, call)

-- then each caller, ascending, gives back what it holds
abbrev pub returning_calls : Batch → List (Entry Call Reply) → List (ℕ × Call)
returning_calls batch past =
    flat_map (λ caller. map (by_caller caller) (giving_back_of batch caller (replies_to caller past)))
    (callers_in batch)

-- a finished run in the order of a list: the opening, the lines in turn, what callers give back, and the closing
pub record IsRunInOrder (settings : SettingsView) (batch : Batch) (list : List ℕ)
    (entries : List (Entry Call Reply)) : Type 0 where
  pub opening : List (Entry Call Reply)
  pub turns : List (Entry Call Reply)
  pub returning : List (Entry Call Reply)
  pub closing : List (Entry Call Reply)
  pub parts : entries ≡ opening ++ turns ++ returning ++ closing
  pub opened : IsOpened settings opening
  pub in_turn : IsInTurn batch list [] turns
  pub returned : map (λ e. by_caller e.caller e.call) returning ≡ returning_calls batch turns
  pub closed : IsClosed (contexts_of batch.lines) opening closing

-- a run that a refused load of this provider ends before it begins: the opening up to that load, and the closing
pub record IsRefusedRun (settings : SettingsView) (batch : Batch) (name : List ℕ)
    (entries : List (Entry Call Reply)) : Type 0 where
  pub opening : List (Entry Call Reply)
  pub closing : List (Entry Call Reply)
  pub parts : entries ≡ opening ++ closing
  pub ended : IsEnded settings opening
  pub named : name ≡ slice_index_or settings.activations (length opening - 1) []
  pub closed : IsClosed (contexts_of batch.lines) opening closing

-- the number of the line of a call that comes next
abbrev pub line_in : Next → List ℕ
line_in (nexts.Call line call) = line ∷ []
line_in nexts.End = []

-- the numbers of the lines of which the entries are turns, behind the entries so far
abbrev pub lines_from : Batch → List (Entry Call Reply) → List (Entry Call Reply) → List ℕ
lines_from batch past [] = []
lines_from batch past (e ∷ es) =
    line_in (next_of batch e.caller (replies_to e.caller past)) ++ lines_from batch (past ++ e ∷ []) es

-- none of these numbers is less than the one before it, and the first is at least this
abbrev pub NeverFalls : ℕ → List ℕ → Type 0
NeverFalls least [] = ⊤
NeverFalls least (number ∷ numbers) = (least ≤ number) × NeverFalls number numbers

-- without a list the lines run one after the other, in the order of the text: the line of an entry is never less than
-- that of the one before it, and each line is of one caller
abbrev pub OrderOfText : Type 0
OrderOfText = (text : List ℕ) (files : List (List ℕ)) (batch : Batch) (entries : List (Entry Call Reply))
    → commands_of text ≡ Ok (record { lines = batch.lines; files = files })
    → IsInTurn batch [] [] entries
    → NeverFalls 0 (lines_from batch [] entries)

-- all entries of a caller in a finished run: the calls that come next, one by one, to the end of its lines, and then
-- those that give back
pub record IsDone (batch : Batch) (caller : ℕ) (entries : List (Entry Call Reply)) : Type 0 where
  pub made : List (Entry Call Reply)
  pub given : List (Entry Call Reply)
  pub parts : entries ≡ made ++ given
  pub follows : Follows batch.lines batch.contents caller [] made
  pub ended : next_of batch caller (replies_of made) ≡ nexts.End
  pub returned : map (λ e. e.call) given ≡ giving_back_of batch caller (replies_of made)

-- whatever the list, a run holds each caller's calls once and in its order, and those of no other caller but the
-- program
abbrev pub EachCallerIsDone : Type 0
EachCallerIsDone = (settings : SettingsView) (batch : Batch) (list : List ℕ)
    (entries : List (Entry Call Reply)) (caller : ℕ)
    → IsRunInOrder settings batch list entries
    → 0 < caller
    → (caller ≤ callers_of batch.lines → IsDone batch caller (entries_of caller entries))
    × (callers_of batch.lines < caller → entries_of caller entries ≡ [])

-- the program's entries are the opening and the closing, before and behind all others
abbrev pub ProgramIsApart : Type 0
ProgramIsApart = (text : List ℕ) (files : List (List ℕ)) (settings : SettingsView) (batch : Batch)
    (list : List ℕ) (entries : List (Entry Call Reply))
    → commands_of text ≡ Ok (record { lines = batch.lines; files = files })
    → (run : IsRunInOrder settings batch list entries)
    → entries_of 0 entries ≡ run.opening ++ run.closing

-- a reply says that a start was refused: the one choice that neither the batch nor the registry makes
abbrev pub is_refused_start : Reply → Bool
is_refused_start (StartRefused provider) = true
is_refused_start reply = false

-- the entry at this place, from 0, says so; there may be none
abbrev pub refuses_at : ℕ → List (Entry Call Reply) → Bool
refuses_at k entries = slice_index_or (map (λ e. is_refused_start e.reply) entries) k false

-- over boxes of the same facts and as many library contexts, with the same starts refused, there is only one finished
-- run in the order of a list
abbrev pub RunIsFixed : Type 0
RunIsFixed = (settings : SettingsView) (batch : Batch) (list : List ℕ) (fixed other : Fixed)
    (entries others : List (Entry Call Reply))
    → other.facts ≡ fixed.facts
    → other.contexts ≡ fixed.contexts
    → IsRunInOrder settings batch list entries
    → IsLegal fixed entries
    → IsRunInOrder settings batch list others
    → IsLegal other others
    → ((k : ℕ) → refuses_at k others ≡ refuses_at k entries)
    → others ≡ entries
