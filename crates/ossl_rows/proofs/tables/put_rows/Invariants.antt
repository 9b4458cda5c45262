use Rattle.std.proofs.Common.{◌≡◌, ◌++◌, take}
use Rattle.ossl_rows.specs.Tables.{rows_of}
use Rattle.ossl_rows.specs.Cases.{named_by}
use Rattle.ossl_rows.proofs.tables.put_rows.Given as goal

abbrev pub invariant-loop-case : goal.invariant-loop-case
invariant-loop-case l = l.rows.items ≡ l.initial.rows.items ++ rows_of l.definition (named_by (take l.case-index l.cases))
