use Rattle.ossl_op.proofs.WorkLaws.{no_text}
use Rattle.ossl_op.proofs.PieceLaws.{rc4_finished}
use Rattle.ossl_op.proofs.in_pieces.Rc4Algorithm.finish.Goals as goal

pub returns-clause-accepted : goal.returns-clause-accepted
returns-clause-accepted c =
    λ work text same was. rc4_finished c.args.self work text (no_text c.args._out.now.items text same) was
