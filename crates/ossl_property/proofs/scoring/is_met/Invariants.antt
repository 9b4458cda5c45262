use Rattle.std.proofs.Common.{◌≡◌, drop}
use Rattle.ossl_property.specs.Choosing.{value_of}
use Rattle.ossl_property.proofs.scoring.is_met.Given as goal

-- the properties left have the name's value
abbrev pub invariant-loop-property : goal.invariant-loop-property
invariant-loop-property l = value_of (drop l.property-index l.properties) l.clause.name ≡ value_of l.properties l.clause.name
