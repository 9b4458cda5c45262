use Rattle.std.proofs.Common.{take}
use Rattle.ossl_store.specs.Shelves.{AreShelved}
use Rattle.ossl_store.proofs.shelves.shelve_each.Given as goal

abbrev pub invariant-loop-place : goal.invariant-loop-place
invariant-loop-place l = AreShelved l.fn.shelves l.shelves l.rank (take l.place l.rows)
