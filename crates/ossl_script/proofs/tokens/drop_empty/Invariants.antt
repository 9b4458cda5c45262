use Rattle.std.proofs.Common.{◌≡◌, length}
use Rattle.ossl_script.specs.Places.{Ascends, held_in}
use Rattle.ossl_script.proofs.tokens.drop_empty.Given as goal

abbrev pub invariant-loop-place : goal.invariant-loop-place
invariant-loop-place l = record {
  same : held_in l.places.items ≡ held_in l.fn.places.items;
  ascends : Ascends l.places.items;
}

abbrev pub decreases-loop-place : goal.decreases-loop-place
decreases-loop-place l = length l.places.items
