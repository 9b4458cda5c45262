use Rattle.std.proofs.lemmas.List.{append_assoc}
use Rattle.ossl_hmac.proofs.hmac.Hmac.feed.Goals as goal

pub returns : goal.returns
returns c = λ hash key fed held. record {
  inner = rw append_assoc at (c.feed.ensures hash _ held.inner);
  outer = held.outer;
}
