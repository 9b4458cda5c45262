use Rattle.std.proofs.Common.{take}
use Rattle.ossl_store.specs.Shelves.{AreGone}
use Rattle.ossl_store.proofs.shelves.unshelve_rows.Given as goal

abbrev pub invariant-loop-row : goal.invariant-loop-row
invariant-loop-row l = AreGone l.fn.shelves l.shelves l.rank (take l.row-index l.rows)
