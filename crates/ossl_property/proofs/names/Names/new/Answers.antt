use Rattle.std.proofs.Common.{refl}
use Rattle.ossl_property.specs.Names.{has}
use Rattle.ossl_property.proofs.names.Names.new.Goals as goal

pub returns : goal.returns
unfolding has
returns c = λ name. rw c.new.ensures.empty refl
