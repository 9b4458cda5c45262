use Rattle.ossl_ghash.proofs.Nibbles.{multiples}
use Rattle.ossl_ghash.proofs.key.multiples_of.Goals as goal

pub returns : goal.returns
returns c = multiples c.args.key _ _ _ c.halved-h4.ensures c.halved-h2.ensures c.halved-h1.ensures
