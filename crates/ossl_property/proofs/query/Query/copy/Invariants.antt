use Rattle.std.proofs.Common.{◌≡◌, take}
use Rattle.ossl_property.proofs.query.Query.copy.Given as goal

-- the clauses so far
abbrev pub invariant-loop-clause : goal.invariant-loop-clause
invariant-loop-clause l = l.clauses.items ≡ take l.clause-index l.clause-items
