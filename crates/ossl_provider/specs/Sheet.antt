-- A provider by plain data: what never changes in it, and what was done with it (OSSL_PROVIDER(3), provider(7)).
use Rattle.std.specs.Prelude.{ℕ, ◌+◌, ◌-◌, ◌^◌, ◌<◌, ◌≤◌, Bool, IsTrue, List, [], ◌∷◌, ◌++◌, length}
use Rattle.ossl_base.specs.Causes.{count_after}
use Rattle.ossl_codes.specs.declared.code.Code.{Code}
use Rattle.ossl_provider.specs.declared.table.TableRow.{TableRow}
use Rattle.ossl_provider.specs.Members.{is_distinct, without}

-- what never changes: the name, the rows, and which codes are admitted with a key of how many bytes
pub record Facts : Type 0 where
  pub name : List ℕ
  pub rows : List TableRow
  pub admits : Code → ℕ → Bool

-- what was done: the instances up in the order of their starts, the number of accepted starts, and the count of faults,
-- which may stand at any number when a provider is made
pub record Sheet : Type 0 where
  pub up : List ℕ
  pub starts : ℕ
  pub faults : ℕ

-- what holds of every provider: no instance is up twice, those that are up were started, and the count is a number of
-- 64 bits
pub record IsSheet (s : Sheet) : Type 0 where
  pub distinct : IsTrue (is_distinct s.up)
  pub started : length s.up ≤ s.starts
  pub counted : s.faults < 2 ^ 64

-- how many instances were stopped: those that were started and are not up
abbrev pub stops_of : Sheet → ℕ
stops_of s = s.starts - length s.up

-- an accepted start: the instance is up, behind the others
abbrev pub after_start : Sheet → ℕ → Sheet
after_start s i = record s { up = s.up ++ i ∷ []; starts = s.starts + 1 }

-- a refused start: the count is one greater, or stays at its greatest value
abbrev pub after_refusal : Sheet → Sheet
after_refusal s = record s { faults = count_after s.faults }

-- a stop: the instance is up no more
abbrev pub after_stop : Sheet → ℕ → Sheet
after_stop s i = record s { up = without i s.up }
