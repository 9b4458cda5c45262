use Rattle.std.proofs.Common.{◌≡◌, ◌++◌, ◌&&◌, take, not}
use Rattle.std.specs.Prelude.{filter}
use Rattle.ossl_property.specs.Choosing.{asks}
use Rattle.ossl_property.specs.Names.{has}
use Rattle.ossl_property.proofs.merging.put_asking.Given as goal

-- those of the clauses so far
abbrev pub invariant-loop-clause : goal.invariant-loop-clause
invariant-loop-clause l = l.out.items ≡ l.fn.out.items ++ filter (λ clause. asks clause && not (has l.without clause.name)) (take l.clause-index l.clauses)
