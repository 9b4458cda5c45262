use Rattle.ossl_chacha.specs.KeyStream.{text_of}
use Rattle.std.proofs.lemmas.Result.{on_ok_weaker}
use Rattle.ossl_op.proofs.WorkLaws.{appends_or_not}
use Rattle.ossl_op.proofs.PieceLaws.{chacha_fed, on_ok_three}
use Rattle.ossl_op.proofs.in_pieces.ChaChaAlgorithm.feed.Goals as goal

pub returns-clause-appends : goal.returns-clause-appends
returns-clause-appends c = appends_or_not c.feed.result _ _ _
    (on_ok_weaker c.feed.result (λ given. (text_of c.args.self.now c.args.bytes.now, given)) c.feed.ensures.appended)
    c.feed.ensures.unchanged

pub returns-clause-runs : goal.returns-clause-runs
returns-clause-runs c = on_ok_three c.feed.result
    (λ appended goes_on end. λ work text given was. chacha_fed _ _ work c.args.bytes.now text _ _ given appended
    goes_on end was)
    c.feed.ensures.appended c.feed.ensures.goes_on c.feed.ensures.end
