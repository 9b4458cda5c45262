use Rattle.std.proofs.Common.{map, ap}
use Rattle.ossl_names.proofs.Indexed.{IsIndexed-none}
use Rattle.ossl_names.proofs.map.NameMap.new.Goals as goal

pub invariant_of-result : goal.invariant_of-result
invariant_of-result c = IsIndexed-none _ _ (ap (map (λ group. group.items)) c.new.ensures.items) c.new-2.ensures.empty
