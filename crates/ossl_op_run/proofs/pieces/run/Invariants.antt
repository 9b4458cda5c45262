use Rattle.std.proofs.Common.{drop}
use Rattle.ossl_op.specs.Work.{begun}
use Rattle.ossl_op_run.specs.Whole.{joined}
use Rattle.ossl_op_run.proofs.Feeding.{IsFed}
use Rattle.ossl_op_run.proofs.pieces.run.Given as goal

abbrev pub invariant-loop-piece : goal.invariant-loop-piece
invariant-loop-piece l =
    IsFed l.context (begun l.fn.code l.fn.inner l.fn.params) l.fn.out.items l.out.items
    (joined (drop l.piece-index l.pieces)) (joined l.pieces)
