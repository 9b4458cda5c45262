use Rattle.ossl_aes.proofs.BlockFacts.{added}
use Rattle.ossl_aes.proofs.columns.add.Goals as goal

pub returns : goal.returns
returns c = added c.args.s c.args.k
