-- A provider whose rows stand in a table, as contracts see it.
use Rattle.std.specs.Prelude.{ℕ, nat_le, Bool, true, List}
use Rattle.ossl_codes.specs.declared.code.Code.{Code}
use Rattle.ossl_codes.specs.declared.code.Code.TheVariants.{Hmac, Hkdf}
use Rattle.ossl_provider.specs.declared.table.TableRow.{TableRow}
use Rattle.ossl_provider.specs.Sheet.{Facts, Sheet}

-- its name and rows, the least key of HMAC and HKDF in bytes, the instances up, and the number of starts
pub record TableView : Type 0 where
  pub name : List ℕ
  pub rows : List TableRow
  pub least_key : ℕ
  pub up : List ℕ
  pub starts : ℕ

-- the admission rule: HMAC and HKDF with keys from `least` bytes on, every other code with any
abbrev pub table_admits : ℕ → Code → ℕ → Bool
table_admits least Hmac len = nat_le least len
table_admits least Hkdf len = nat_le least len
table_admits least code len = true

-- what never changes
abbrev pub table_facts : TableView → Facts
table_facts t = record { name = t.name; rows = t.rows; admits = table_admits t.least_key }

-- what was done: it refuses no start, so its count is 0
abbrev pub table_sheet : TableView → Sheet
table_sheet t = record { up = t.up; starts = t.starts; faults = 0 }
