use Rattle.ossl_state.proofs.OrderedLaws.{legal_ordered}
use Rattle.ossl_state.proofs.counts.count_given.Goals as goal

-- src/counts.rt
pub returns-clause-ordered : goal.returns-clause-ordered
returns-clause-ordered c = legal_ordered
