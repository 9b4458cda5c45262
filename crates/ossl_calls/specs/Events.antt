-- Devices of the private methods of the plain registry: the kinds of entry that they append. None of them is a rule of
-- the product; those stand in Step, Tokens and History.
use Rattle.std.specs.Prelude.{ℕ, ◌≡◌, ◌<◌, length, IsTrue, IsFalse, List, [], ◌∷◌, ◌++◌, None, Some}
use Rattle.std.specs.declared.option.Option.{Option}
use Rattle.ossl_base.specs.declared.entry.Entry.{Entry}
use Rattle.ossl_provider.specs.Sheet.{Facts}
use Rattle.ossl_state.specs.declared.call.Call.{Call}
use Rattle.ossl_state.specs.declared.call.Reply.{Reply}
use Rattle.ossl_state.specs.declared.state.Born.{Born}
use Rattle.ossl_state.specs.declared.state.Going.{Going}
use Rattle.ossl_state.specs.declared.state.Going.TheVariants.{Activation, Nothing}
use Rattle.ossl_state.specs.declared.state.Live.{Live}
use Rattle.ossl_state.specs.declared.state.State.{State}
use Rattle.ossl_state.specs.Boxes.{facts_at}
use Rattle.ossl_state.specs.Going.{IsThere, without_going}
use Rattle.ossl_calls.specs.Registry.{Shown, fixed_of}
use Rattle.ossl_state.specs.History.{IsAllowed, says_refused}
use Rattle.ossl_state.specs.State.{lib_at, up_instances}
use Rattle.ossl_state.specs.Tokens.{entries_of}
use Rattle.ossl_state.specs.Step.{left_by, holder_of, kept_of}

-- a caller of a registry may make a call
abbrev pub MayCall : {P : Type 0} → (P → Facts) → Shown P → ℕ → Call → Type 0
MayCall facts r c call = IsAllowed (fixed_of facts r) (entries_of c r.entries) call

-- one entry was appended: a call of a caller, and its reply
abbrev pub Appends : {P : Type 0} → Shown P → Shown P → ℕ → Call → Reply → Type 0
Appends old new c call reply = new.entries ≡ old.entries ++ record { caller = c; call = call; reply = reply } ∷ []

-- what an entry leaves, but for the number of the next one
abbrev pub left_by_entry : List Facts → State → Entry Call Reply → State
left_by_entry facts s e = left_by facts s e.caller e.call e.reply

-- no provider is said to have refused a start
abbrev pub SaysNoRefusal : Entry Call Reply → Type 0
SaysNoRefusal e = (name : List ℕ) → IsFalse (says_refused name e.reply)

-- an entry leaves this state, in which the same instances were born and are up
pub record Keeps (facts : List Facts) (s : State) (e : Entry Call Reply) (left : State) : Type 0 where
  pub leaves : left_by_entry facts s e ≡ left
  pub no_refusal : SaysNoRefusal e
  pub born : left.born ≡ s.born
  pub up : up_instances left ≡ up_instances s

-- an entry takes something out
pub record Takes (facts : List Facts) (s : State) (e : Entry Call Reply) (going : Going) : Type 0 where
  pub there : IsThere s.libs going
  pub leaves : left_by_entry facts s e ≡ without_going s going
  pub no_refusal : SaysNoRefusal e

-- an entry by which the box at one place alone refuses a start
pub record Refuses (facts : List Facts) (s : State) (e : Entry Call Reply) (k : ℕ) : Type 0 where
  pub leaves : left_by_entry facts s e ≡ s
  pub here : IsTrue (says_refused (facts_at facts k).name e.reply)
  pub others : (j : ℕ) → j < length facts → (j ≡ k → ⊥) → IsFalse (says_refused (facts_at facts j).name e.reply)

-- an entry leaves this state, in which one instance more is born, which is up
pub record Bears (facts : List Facts) (s : State) (e : Entry Call Reply) (left : State) (b : Born) : Type 0 where
  pub leaves : left_by_entry facts s e ≡ left
  pub no_refusal : SaysNoRefusal e
  pub born : left.born ≡ s.born ++ b ∷ []
  pub up : up_instances left ≡ up_instances s ++ b ∷ []
  pub number : b.number ≡ s.next
  pub place : b.place < length facts

-- what goes where a token's activation is given back
abbrev pub unloading_from : List Facts → State → ℕ → Option ℕ → Going
unloading_from facts s t None = Nothing
unloading_from facts s t (Some l) = Activation l t (kept_of facts (lib_at s l))

abbrev pub unloading : List Facts → State → ℕ → Going
unloading facts s t = unloading_from facts s t (holder_of s t)
