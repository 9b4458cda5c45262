-- The printed order: every call of a history with its reply, and what it started and stopped.
use Rattle.std.specs.Prelude.{ℕ, ◌+◌, ◌-◌, Bool, true, false, nat_eq, Option, Some, None, option_map, option_and_then}
use Rattle.std.specs.Prelude.{unwrap_or, List, [], ◌∷◌, ◌++◌, codes, position, slice_get, slice_index_or, if◌then◌else◌}
use Rattle.std.specs.List.{flat_map}
use Rattle.std.specs.Fmt.{decimal}
use Rattle.ossl_base.specs.declared.entry.Entry.{Entry}
use Rattle.ossl_provider.specs.Sheet.{Facts}
use Rattle.ossl_state.specs.declared.call.Call.{Call}
use Rattle.ossl_state.specs.declared.call.Reply.{Reply}
use Rattle.ossl_state.specs.declared.call.Reply.TheVariants.{Fetched}
use Rattle.ossl_state.specs.declared.state.State.{State}
use Rattle.ossl_state.specs.Boxes.{facts_at}
use Rattle.ossl_state.specs.History.{Fixed, after_entry}
use Rattle.ossl_state.specs.State.{opening_state}
use Rattle.ossl_state.specs.Text.{entry_text}
use Rattle.ossl_watch.specs.declared.up.Up.{Up}
use Rattle.ossl_watch.specs.Changes.{is_among, ups_of}

-- a word, the name of an instance's provider, and its number
abbrev pub instance_text : List ℕ → List Facts → Up → List ℕ
instance_text word facts u =
    codes "; " ++ word ++ codes " " ++ (facts_at facts u.place).name ++ codes " " ++ decimal u.number

-- each of these instances, behind a word
abbrev pub told_text : List ℕ → List Facts → List Up → List ℕ
told_text word facts us = flat_map (instance_text word facts) us

-- an instance that the other list lacks
abbrev pub change_text : List ℕ → List Facts → List Up → Up → List ℕ
change_text word facts others u = if is_among others u then [] else instance_text word facts u

-- the instances of the first list that the second lacks
abbrev pub changes_text : List ℕ → List Facts → List Up → List Up → List ℕ
changes_text word facts these others = flat_map (change_text word facts others) these

-- how an entry of the history is shown: its caller's number in the batch by that in the history, and whether it is
-- marked as a hit or a miss of the query cache, by its own number
pub record Showing : Type 0 where
  pub caller : ℕ → ℕ
  pub mark : ℕ → Option Bool

-- where a caller has one number in both, and nothing is marked
abbrev pub plainly : Showing
plainly = record { caller = λ number. number; mark = λ number. None }

-- the caller of the batch that stands under a number in the history: its place in this list, counted from 1; 0 for
-- the program
abbrev pub batch_caller : List ℕ → ℕ → ℕ
batch_caller callers number = unwrap_or (option_map (λ i. i + 1) (position (λ other. nat_eq other number) callers)) 0

-- the number under which a caller of the batch, counted from 1, stands in the history
abbrev pub history_number : List ℕ → ℕ → ℕ
history_number callers caller = slice_index_or callers (caller - 1) 0

-- the mark of an entry, counted from 1, where there are marks
abbrev pub mark_at : Option (List Bool) → ℕ → Option Bool
mark_at marks number = option_and_then (λ ms. slice_get ms (number - 1)) marks

abbrev pub showing_of : List ℕ → Option (List Bool) → Showing
showing_of callers marks = record { caller = batch_caller callers; mark = mark_at marks }

-- an entry with its number and its caller
abbrev pub numbered_text : Showing → ℕ → Entry Call Reply → List ℕ
numbered_text showing number e =
    decimal number ++ codes " " ++ decimal (showing.caller e.caller) ++ codes " " ++ entry_text e

-- a fetch that found a method is marked as a hit or a miss
abbrev pub mark_text : Option Bool → Reply → List ℕ
mark_text (Some true) (Fetched n p i r code) = codes " hit"
mark_text (Some false) (Fetched n p i r code) = codes " miss"
mark_text mark reply = []

-- the line of an entry: its number, its text, its mark, and then what it started and what it stopped, each by
-- increasing instance
abbrev pub entry_line : Showing → List Facts → ℕ → Entry Call Reply → List Up → List Up → List ℕ
entry_line showing facts number e before after =
    numbered_text showing number e ++ mark_text (showing.mark number) e.reply
    ++ changes_text (codes "start") facts after before ++ changes_text (codes "stop") facts before after ++ codes "\n"

-- the lines of the entries that follow a state, the first of them of this number
abbrev pub entry_lines : Showing → List Facts → ℕ → State → List (Entry Call Reply) → List ℕ
entry_lines showing facts number s [] = []
entry_lines showing facts number s (e ∷ es) =
    let after = after_entry facts s e in
    entry_line showing facts number e (ups_of s) (ups_of after) ++ entry_lines showing facts (number + 1) after es

-- the lines of a history
abbrev pub lines_of : Showing → Fixed → List (Entry Call Reply) → List ℕ
lines_of showing fixed entries = entry_lines showing fixed.facts 1 (opening_state fixed.contexts) entries

-- how many entries there are, and their lines
abbrev pub order_text : ℕ → List ℕ → List ℕ
order_text count lines = codes "order " ++ decimal count ++ codes "\n" ++ lines
