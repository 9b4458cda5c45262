use Rattle.std.proofs.Common.{◌≡◌, ◌++◌, map, take, drop}
use Rattle.ossl_cache.specs.Places.{goes, emptied}
use Rattle.ossl_cache.proofs.places.empty.Given as goal

abbrev pub invariant-loop-slot : goal.invariant-loop-slot
invariant-loop-slot l = l.slots ≡ map (emptied (goes l.going)) (take l.slot-index l.initial.slots) ++ drop l.slot-index l.initial.slots
