use Rattle.ossl_property.specs.Names.{has}
use Rattle.ossl_property.proofs.Sets.{is_among_inserted}
use Rattle.ossl_property.proofs.names.Names.insert.Goals as goal

pub returns-clause-added : goal.returns-clause-added
unfolding has
returns-clause-added c = rw (← c.in_ok-key.ensures.items) c.in_ok-insert.ensures.added

pub returns-clause-names : goal.returns-clause-names
unfolding has
returns-clause-names c = λ other. rw (c.in_ok-insert.ensures.keys, ← c.in_ok-key.ensures.items) (is_among_inserted (λ key. key.items) _ c.in_ok-key.key other)
