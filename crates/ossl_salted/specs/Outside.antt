-- What a run saw of the outside: source, files and sink as they were before and as they are now, each with its count of
-- faults.
use Rattle.std.specs.Prelude.{ℕ, List}
use Rattle.std.specs.declared.option.Option.{Option}
use Rattle.ossl_base.specs.Causes.{Rose}
use Rattle.ossl_base.specs.Files.{Entries}

-- the bytes left in a source, where it tells them
pub record Reading : Type 0 where
  pub left : Option (List ℕ)
  pub left' : Option (List ℕ)
  pub faults : ℕ
  pub faults' : ℕ

-- the files there are, where they are told
pub record Looking : Type 0 where
  pub entries : Option Entries
  pub faults : ℕ
  pub faults' : ℕ

-- the bytes that a sink has taken, where it tells them
pub record Writing : Type 0 where
  pub taken : Option (List ℕ)
  pub taken' : Option (List ℕ)
  pub faults : ℕ
  pub faults' : ℕ

-- of a source, of files and of a sink, by what they tell
abbrev pub reading : {S : Type 0} → (S → Option (List ℕ)) → (S → ℕ) → S → S → Reading
reading left faults old new = record { left = left old; left' = left new; faults = faults old; faults' = faults new }

abbrev pub looking : {F : Type 0} → (F → Option Entries) → (F → ℕ) → F → F → Looking
looking entries faults old new = record { entries = entries old; faults = faults old; faults' = faults new }

abbrev pub writing : {K : Type 0} → (K → Option (List ℕ)) → (K → ℕ) → K → K → Writing
writing taken faults old new =
    record { taken = taken old; taken' = taken new; faults = faults old; faults' = faults new }

-- a fault was counted
abbrev pub ReadFailed : Reading → Type 0
ReadFailed s = Rose s.faults s.faults'

abbrev pub LookFailed : Looking → Type 0
LookFailed f = Rose f.faults f.faults'

abbrev pub WriteFailed : Writing → Type 0
WriteFailed k = Rose k.faults k.faults'
