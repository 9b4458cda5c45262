use Rattle.std.proofs.Common.{◌≡◌, ◌≤◌, ◌<◌, ◌++◌, ℕ, length, take, drop, map, get_or}
use Rattle.ossl_script.specs.declared.tokens.Place.{Place}
use Rattle.ossl_script.proofs.TokenLaws.{without}
use Rattle.ossl_script.proofs.tokens.empty_places.Given as goal

abbrev pub invariant-loop-place : goal.invariant-loop-place
invariant-loop-place l = record {
  within : l.place ≤ length l.fn.places.items;
  below : (k : ℕ) (d : Place) → k < l.place → (get_or l.fn.places.items k d).token.number ≤ l.token.number;
  so_far : l.places.items ≡ take l.place l.fn.places.items ++ map (without l.token) (drop l.place l.fn.places.items);
}

abbrev pub decreases-loop-place : goal.decreases-loop-place
decreases-loop-place l = l.place
