use Rattle.ossl_op.proofs.PieceLaws.{mode_ends}
use Rattle.ossl_op.proofs.in_pieces.ModeAlgorithm.finish.Goals as goal

pub returns-clause-accepted : goal.returns-clause-accepted
returns-clause-accepted g c = mode_ends c.finish_in_place.result c.args.self _ _ c.finish_in_place.ensures
