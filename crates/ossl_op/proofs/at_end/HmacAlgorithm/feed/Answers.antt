use Rattle.std.proofs.Common.{ap, sym, append_assoc}
use Rattle.ossl_hmac.specs.Hmac.{hmac}
use Rattle.ossl_op.proofs.WorkLaws.{at_end_fed}
use Rattle.ossl_op.proofs.at_end.HmacAlgorithm.feed.Goals as goal

pub returns-clause-runs : goal.returns-clause-runs
returns-clause-runs c = λ work text same was. record {
  hash = was.hash;
  key = was.key;
  holds = c.feed.ensures was.hash was.key work.fed was.holds;
  at_end = at_end_fed work c.args.bytes.now text c.args._out.now.items _ _ same
      (λ rest. ap (hmac was.hash was.key) (sym (append_assoc work.fed c.args.bytes.now rest))) was.at_end;
}
