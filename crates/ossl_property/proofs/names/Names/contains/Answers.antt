use Rattle.ossl_property.specs.Names.{has}
use Rattle.ossl_property.proofs.names.Names.contains.Goals as goal

pub returns : goal.returns
unfolding has
returns c = c.contains.ensures
