use Rattle.std.proofs.Common.{take}
use Rattle.ossl_names.specs.Index.{FindsNot}
use Rattle.ossl_names.proofs.index.leave.Given as goal

abbrev pub invariant-loop-name : goal.invariant-loop-name
invariant-loop-name l = FindsNot l.initial.index l.index (take l.name-index l.names)
