use Rattle.std.proofs.Common.{◌≡◌, take}
use Rattle.ossl_property.proofs.definition.Definition.copy.Given as goal

-- the properties so far
abbrev pub invariant-loop-property : goal.invariant-loop-property
invariant-loop-property l = l.properties.items ≡ take l.property-index l.property-items
