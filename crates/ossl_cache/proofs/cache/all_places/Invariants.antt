use Rattle.ossl_cache.proofs.Making.{AreLast}
use Rattle.ossl_cache.proofs.cache.all_places.Given as goal

abbrev pub invariant-loop-place : goal.invariant-loop-place
invariant-loop-place l = AreLast l.place l.order
