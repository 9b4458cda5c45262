use Rattle.ossl_state.proofs.MarkLaws.{mark-used}
use Rattle.ossl_state.proofs.activation.fall_back.Goals as goal

pub returns-clause-mark : goal.returns-clause-mark
returns-clause-mark g c = rw c.use_fallback.ensures (mark-used c.in_ok-mark.mark c.args.lib c.args.state.now c.activate.new.state c.in_ok-mark.ensures.mark)
