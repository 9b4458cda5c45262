use Rattle.ossl_op.proofs.PieceLaws.{rc4_fed, on_ok_both}
use Rattle.ossl_op.proofs.in_pieces.Rc4Algorithm.feed.Goals as goal

pub returns-clause-runs : goal.returns-clause-runs
returns-clause-runs c = on_ok_both c.apply.result
    (λ appended goes_on. λ work text given was. rc4_fed _ _ work c.args.bytes.now text _ _ given appended goes_on was)
    c.apply.ensures.appended c.apply.ensures.goes_on
