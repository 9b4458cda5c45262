-- Whole histories: the state that entries leave, and which lists of entries are histories.
use Rattle.std.specs.Prelude.{ℕ, ⊤, Bool, false, IsTrue, List, [], ◌∷◌, ◌++◌, count_by}
use Rattle.std.specs.Str.{bytes_eq}
use Rattle.ossl_base.specs.declared.entry.Entry.{Entry}
use Rattle.ossl_provider.specs.Sheet.{Facts}
use Rattle.ossl_state.specs.declared.call.Call.{Call}
use Rattle.ossl_state.specs.declared.call.Reply.{Reply}
use Rattle.ossl_state.specs.declared.call.Reply.TheVariants.{StartRefused}
use Rattle.ossl_state.specs.declared.state.State.{State}
use Rattle.ossl_state.specs.State.{opening_state}
use Rattle.ossl_state.specs.Step.{after_call, Answers}
use Rattle.ossl_state.specs.Tokens.{entries_of, owns_named, names_context}

-- what never changes in a registry: the facts of its boxes, the number of its library contexts, and the counts of
-- faults that the boxes had at its opening
pub record Fixed : Type 0 where
  pub facts : List Facts
  pub contexts : ℕ
  pub opened : List ℕ

-- a caller with these entries may make a call
pub record IsAllowed (fixed : Fixed) (mine : List (Entry Call Reply)) (call : Call) : Type 0 where
  pub lib : IsTrue (names_context fixed.contexts call)
  pub tokens : IsTrue (owns_named mine call)

abbrev pub after_entry : List Facts → State → Entry Call Reply → State
after_entry facts s e = after_call facts s e.caller e.call e.reply

-- the state that entries leave
abbrev pub state_from : List Facts → State → List (Entry Call Reply) → State
state_from facts s [] = s
state_from facts s (e ∷ es) = state_from facts (after_entry facts s e) es

-- the state after a history
abbrev pub state_after : Fixed → List (Entry Call Reply) → State
state_after fixed entries = state_from fixed.facts (opening_state fixed.contexts) entries

-- an entry is a step from a state, after these entries: its call is allowed to its caller, and its reply may come
pub record IsStep (fixed : Fixed) (s : State) (past : List (Entry Call Reply)) (e : Entry Call Reply) : Type 0 where
  pub allowed : IsAllowed fixed (entries_of e.caller past) e.call
  pub answers : Answers fixed.facts s e.caller e.call e.reply

-- further entries are steps, one after another
abbrev pub IsRun : Fixed → State → List (Entry Call Reply) → List (Entry Call Reply) → Type 0
IsRun fixed s past [] = ⊤
IsRun fixed s past (e ∷ es) = IsStep fixed s past e × IsRun fixed (after_entry fixed.facts s e) (past ++ e ∷ []) es

-- a legal history: each entry is a step, from the state at the start on
abbrev pub IsLegal : Fixed → List (Entry Call Reply) → Type 0
IsLegal fixed entries = IsRun fixed (opening_state fixed.contexts) [] entries

-- an entry may come next after a history
abbrev pub IsNext : Fixed → List (Entry Call Reply) → Entry Call Reply → Type 0
IsNext fixed entries e = IsStep fixed (state_after fixed entries) entries e

-- a reply says that the provider of this name refused a start
abbrev pub says_refused : List ℕ → Reply → Bool
says_refused name (StartRefused p) = bytes_eq p name
says_refused name _ = false

-- how many starts of a provider were refused
abbrev pub refusals : List ℕ → List (Entry Call Reply) → ℕ
refusals name entries = count_by (λ e. says_refused name e.reply) entries
