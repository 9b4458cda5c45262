-- Histories: lists of answered calls, the oldest first.
use Rattle.std.specs.Prelude.{◌≡◌, ℕ, List, ◌∷◌, ◌++◌, ◌==◌, Bool, filter}
use Rattle.ossl_base.specs.declared.entry.Entry.{Entry}

module _ {C R : Type 0} where
  -- the call of this caller, answered so
  abbrev pub entry_of : ℕ → C → R → Entry C R
  entry_of caller call reply = record { caller = caller; call = call; reply = reply }

  -- whether the caller n made it
  abbrev pub is_of : ℕ → Entry C R → Bool
  is_of n e = e.caller == n

  -- the entries of the caller n
  abbrev pub own_of : ℕ → List (Entry C R) → List (Entry C R)
  own_of n log = filter (is_of n) log

  -- each entry may follow those before it
  abbrev pub IsHistory : (List (Entry C R) → Entry C R → Type 0) → List (Entry C R) → Type 0
  IsHistory follows log = (before : List (Entry C R)) (e : Entry C R) (after : List (Entry C R))
      → log ≡ before ++ e ∷ after → follows before e
