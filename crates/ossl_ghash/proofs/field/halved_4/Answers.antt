use Rattle.ossl_ghash.proofs.Nibbles.{reduced_sum}
use Rattle.ossl_ghash.proofs.field.halved_4.Goals as goal

pub returns : goal.returns
returns c = reduced_sum c.args.v
