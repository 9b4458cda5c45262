use Rattle.ossl_state.proofs.LegalLaws.{sound_after}
use Rattle.ossl_state.proofs.NextLaws.{legal-each}
use Rattle.ossl_calls.proofs.plain.PlainRegistry.history.Goals as goal

-- src/plain.rt
pub returns-clause-sound : goal.returns-clause-sound
returns-clause-sound c result = sound_after

pub returns-clause-next : goal.returns-clause-next
returns-clause-next c result = legal-each
