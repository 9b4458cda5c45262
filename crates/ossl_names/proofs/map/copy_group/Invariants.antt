use Rattle.std.proofs.Common.{◌≡◌, take}
use Rattle.ossl_names.proofs.map.copy_group.Given as goal

abbrev pub invariant-loop-name : goal.invariant-loop-name
invariant-loop-name l = l.copied.items ≡ take l.name-index l.group
