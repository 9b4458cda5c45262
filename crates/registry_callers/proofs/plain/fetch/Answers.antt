use Rattle.registry_callers.proofs.Freeing.{may_free_after}
use Rattle.registry_callers.proofs.plain.fetch.Goals as goal

pub apply-requires-2 : goal.apply-requires-2
apply-requires-2 g c = let f = c.in-Fetched in record {
  allowed = may_free_after _ _ _ 1 _ _ _ _ _ f.number _ _ _ _ c.in_ok-number.ensures.entry f.is;
}
