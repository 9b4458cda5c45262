use Rattle.std.proofs.Common.{◌≡◌, drop}
use Rattle.std.specs.List.{filter_map, fold}
use Rattle.ossl_ordered.specs.Turns.{least, lesser}
use Rattle.ossl_ordered.specs.Work.{turn_in}
use Rattle.ossl_ordered.proofs.turns.least_turn.Given as goal

-- the least so far, and the callers that are left
abbrev pub invariant-loop-player : goal.invariant-loop-player
invariant-loop-player l = fold lesser l.first (filter_map turn_in (drop l.player-index l.players)) ≡ least (filter_map turn_in l.players)
