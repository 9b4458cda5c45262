use Rattle.ossl_modes.proofs.Returning.{text_comes_back}
use Rattle.ossl_modes.proofs.length.padded_len.Goals as goal

pub returns-clause-law : goal.returns-clause-law
returns-clause-law c = λ e d undone iv text hiv htext. text_comes_back e d undone iv text hiv htext
