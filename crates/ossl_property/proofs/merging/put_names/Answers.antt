use Rattle.ossl_property.proofs.Merged.{names_more}
use Rattle.ossl_property.proofs.merging.put_names.Goals as goal

pub loop-clause-preserved : goal.loop-clause-preserved
loop-clause-preserved c = names_more _ _ c.args.clauses.now c.loop-clause.clause-index c.clause-item.result c.loop-clause-test.true c.clause-item.is c.loop-clause.invariant (λ name. rw c.as_slice.ensures.bytes at (c.in_ok-insert.ensures.names name))
