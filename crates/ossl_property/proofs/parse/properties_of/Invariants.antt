use Rattle.std.proofs.Common.{◌≡◌, map}
use Rattle.ossl_property.specs.Reading.{property_of}
use Rattle.ossl_property.proofs.parse.properties_of.Given as goal

-- the clauses so far
abbrev pub invariant-loop-clause : goal.invariant-loop-clause
invariant-loop-clause l = l.properties.items ≡ map property_of l.yielded
