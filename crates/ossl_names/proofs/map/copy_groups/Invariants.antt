use Rattle.std.proofs.Common.{◌≡◌, take, map}
use Rattle.ossl_names.proofs.map.copy_groups.Given as goal

abbrev pub invariant-loop-group : goal.invariant-loop-group
invariant-loop-group l = map (λ group. group.items) l.copied.items ≡ map (λ group. group.items) (take l.group-index l.groups)
