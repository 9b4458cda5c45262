use Rattle.ossl_op.proofs.WorkLaws.{appends_or_not}
use Rattle.ossl_op.proofs.PieceLaws.{mode_fed, on_ok_both}
use Rattle.ossl_op.proofs.in_pieces.ModeAlgorithm.feed.Goals as goal

pub returns-clause-appends : goal.returns-clause-appends
returns-clause-appends g c = appends_or_not c.feed.result _ _ _ c.feed.ensures.appends c.feed.ensures.err

pub returns-clause-runs : goal.returns-clause-runs
returns-clause-runs g c = on_ok_both c.feed.result
    (λ gives unchecked. λ work text given was. mode_fed _ _ work c.args.bytes.now text _ _ given gives unchecked was)
    c.feed.ensures.text c.feed.ensures.unchecked
