use Rattle.std.proofs.Common.{◌≡◌, take}
use Rattle.ossl_rows.specs.Tables.{rows_of}
use Rattle.ossl_rows.specs.Cases.{named_by_all}
use Rattle.ossl_rows.proofs.tables.provider.Given as goal

abbrev pub invariant-loop-part : goal.invariant-loop-part
invariant-loop-part l = l.rows.items ≡ rows_of l.definition (named_by_all (take l.part-index l.parts))
