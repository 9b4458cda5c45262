-- What the cases of a table say, as names and codes.
use Rattle.std.specs.Prelude.{List, map}
use Rattle.std.specs.Borrow.{Bor}
use Rattle.std.specs.List.{flat_map}
use Rattle.ossl_rows.specs.declared.cases.Case.{Case}
use Rattle.ossl_rows.specs.Tables.{Named}

-- the names and codes of some cases
abbrev pub named_by : List Case → List Named
named_by cases = map (λ case. (case.names.now, case.code)) cases

-- those of several lists of cases, one list behind the other
abbrev pub named_by_all : List (Bor (List Case)) → List Named
named_by_all parts = flat_map (λ part. named_by part.now) parts
