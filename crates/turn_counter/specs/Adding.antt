-- Calls that add one amount again and again.
use Rattle.std.specs.Prelude.{◌≡◌, ℕ, ◌+◌, ◌<◌, List, ◌++◌, length, map, slice_index_or, IfSome}
use Rattle.ossl_turn.specs.History.{entry_of}
use Rattle.ossl_turn.specs.Passes.{PassFacts}
use Rattle.turn_counter.specs.declared.counter.Add.{Add}
use Rattle.turn_counter.specs.declared.callers.Adder.{Adder}

module _ {F : Type 0} where
  -- a pass has made these calls more, all of one amount, and they were answered so
  abbrev pub HasAdded : Add → List ℕ → PassFacts Add ℕ F → PassFacts Add ℕ F → Type 0
  HasAdded amount replies before after = after.own ≡ before.own ++ map (λ r. entry_of before.number amount r) replies

-- a caller is of the same pass and adds the same as before
pub record IsStill (before after : Adder) : Type 0 where
  pub of : after.pass.of ≡ before.pass.of
  pub origin : after.pass.origin ≡ before.pass.origin
  pub number : after.pass.number ≡ before.pass.number
  pub made : after.pass.made ≡ before.pass.made
  pub amount : after.amount ≡ before.amount

-- what a caller heard are the answers to so many calls more
abbrev pub HasHeard : ℕ → Adder → Adder → Type 0
HasHeard times before after =
    IfSome after.heard (λ v. (length v.items ≡ times) × HasAdded before.amount v.items before.pass after.pass)

-- so many callers, the one with the greatest number first
abbrev pub AreCounted : ℕ → List Adder → Type 0
AreCounted n adders = (k : ℕ) (d : Adder) → k < length adders →
    ((slice_index_or adders k d).pass.number + k ≡ n) × ((slice_index_or adders k d).pass.made ≡ 0)
