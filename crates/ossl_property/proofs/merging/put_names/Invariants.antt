use Rattle.std.proofs.Common.{◌≡◌, take}
use Rattle.ossl_property.specs.Grammar.{mentions}
use Rattle.ossl_property.specs.Names.{has}
use Rattle.ossl_property.proofs.merging.put_names.Given as goal

-- the names of the clauses so far
abbrev pub invariant-loop-clause : goal.invariant-loop-clause
invariant-loop-clause l = has l.names ≡ mentions (take l.clause-index l.clauses)
