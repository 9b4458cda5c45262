-- What a caller is told of a call: where it stands in one history of all callers (linearizability, Herlihy and Wing,
-- 1990), and what it owns after it.
use Rattle.std.specs.Prelude.{◌≡◌, ℕ, List}
use Rattle.ossl_codes.specs.declared.code.Code.{Code}
use Rattle.ossl_turn.specs.History.{entry_of}
use Rattle.ossl_turn.specs.Passes.{PassFacts, SharedFacts, CameFrom, Answers}
use Rattle.ossl_state.specs.declared.call.Call.{Call}
use Rattle.ossl_state.specs.declared.call.Reply.{Reply}
use Rattle.ossl_state.specs.History.{Fixed, IsLegal, IsNext}
use Rattle.ossl_calls.specs.Registry.{Shown}
use Rattle.ossl_state.specs.Tokens.{Token}
use Rattle.ossl_core.specs.Owned.{HasGained, HasGivenBack, HasKept, IsFresh}

-- a caller: its number, its own entries, and the history that it has seen
abbrev pub CallerFacts : Type 0 → Type 0
CallerFacts P = PassFacts Call Reply (Shown P)

-- a method: its token, and the provider and the code that were fetched
pub record MethodFacts : Type 0 where
  pub number : ℕ
  pub provider : List ℕ
  pub code : Code

-- after any call the caller is of the same shared registry, under the same number
abbrev pub IsStillOf : {P : Type 0} → SharedFacts (Shown P) → CallerFacts P → CallerFacts P → Type 0
IsStillOf shared before after = CameFrom shared after × (after.number ≡ before.number) × (after.made ≡ before.made)

module _ {P : Type 0} (fixed : Fixed) (before after : CallerFacts P) where
  -- a call was answered so: the caller has seen a legal history that begins with all that it had seen and ends with
  -- this entry, which is one more of its own
  pub record IsAnswered (call : Call) (reply : Reply) : Type 0 where
    pub answers : Answers (IsNext fixed) before after (entry_of before.number call reply)
    pub legal : IsLegal fixed after.seen

  -- the answer handed out a token, which is none that was owned before
  pub record HandsOut (call : Call) (reply : Reply) (n : ℕ) (kind : Token) : Type 0 where
    pub answered : IsAnswered call reply
    pub fresh : IsFresh before.own n
    pub gained : HasGained before.own n kind after.own

  -- the call gave a token back
  pub record TakesBack (call : Call) (reply : Reply) (n : ℕ) (kind : Token) : Type 0 where
    pub answered : IsAnswered call reply
    pub gone : HasGivenBack before.own n kind after.own

  -- the answer handed out nothing
  pub record Declines (call : Call) (reply : Reply) : Type 0 where
    pub answered : IsAnswered call reply
    pub kept : HasKept before.own after.own
