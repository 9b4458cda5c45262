use Rattle.ossl_base.proofs.Streams.{Consumes-append}
use Rattle.ossl_base.proofs.whole.read_all.Goals as goal

pub returns-then-count-limit-clause-moved : goal.returns-then-count-limit-clause-moved
returns-then-count-limit-clause-moved g c = (_, Consumes-append _ _ _ _ _ c.loop-count.invariant.taken c.in-Ok.ensures.bytes.0)

pub returns-then-is_err-clause-moved : goal.returns-then-is_err-clause-moved
returns-then-is_err-clause-moved g c = (_, Consumes-append _ _ _ _ _ c.loop-count.invariant.taken c.in-Ok.ensures.bytes.0)
