use Rattle.std.proofs.Common.{◌≡◌, ◌<◌, length}
use Rattle.std.specs.Prelude.{vec_capacity, vec_len}
use Rattle.ossl_script.specs.Places.{Ascends, held_in}
use Rattle.ossl_script.proofs.tokens.take_newest.Given as goal

abbrev pub invariant-loop-place : goal.invariant-loop-place
invariant-loop-place l = record {
  same : held_in l.places.items ≡ held_in l.fn.places.items;
  ascends : Ascends l.places.items;
  room : vec_len l.fn.places < vec_capacity l.fn.places → vec_len l.places < vec_capacity l.places;
}

abbrev pub decreases-loop-place : goal.decreases-loop-place
decreases-loop-place l = length l.places.items
