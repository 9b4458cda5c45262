-- A provider that refuses the starts of chosen numbers, as contracts see it.
use Rattle.std.specs.Prelude.{ℕ, Bool, List}
use Rattle.ossl_base.specs.Causes.{count_after}
use Rattle.ossl_provider.specs.Members.{is_in}
use Rattle.ossl_provider.specs.Sheet.{Facts, Sheet}
use Rattle.ossl_provider.specs.Table.{TableView, table_facts}

-- its table, the numbers of the starts that it refuses, how many starts were asked for, and how many of these
-- it refused
pub record FaultyView : Type 0 where
  pub table : TableView
  pub refused : List ℕ
  pub asked : ℕ
  pub faults : ℕ

-- what never changes is that of its table
abbrev pub faulty_facts : FaultyView → Facts
faulty_facts f = table_facts f.table

-- what was done: the instances and accepted starts of its table, and its own count of faults
abbrev pub faulty_sheet : FaultyView → Sheet
faulty_sheet f = record { up = f.table.up; starts = f.table.starts; faults = f.faults }

-- how many starts were asked for once there is one more; the count stays at its greatest number
abbrev pub after_asking : FaultyView → ℕ
after_asking f = count_after f.asked

-- whether the next start is refused: its number is listed
abbrev pub refuses : FaultyView → Bool
refuses f = is_in (after_asking f) f.refused
