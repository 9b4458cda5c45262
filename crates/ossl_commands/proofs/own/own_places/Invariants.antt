use Rattle.std.proofs.Common.{◌≡◌, ◌++◌, ℕ, drop}
use Rattle.ossl_commands.specs.Counts.{own_places}
use Rattle.ossl_commands.specs.View.{places_in}
use Rattle.ossl_commands.proofs.own.own_places.Given as goal

-- the places so far, and those of the lines left
abbrev pub invariant-loop-place : goal.invariant-loop-place
invariant-loop-place l = (caller : ℕ) → places_in l.places caller ++ own_places caller l.place (drop l.place l.lines) ≡ own_places caller 0 l.lines
