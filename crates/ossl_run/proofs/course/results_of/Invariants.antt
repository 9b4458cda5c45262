use Rattle.std.proofs.Common.{◌≡◌, ◌++◌, map}
use Rattle.ossl_ordered.specs.Work.{AreEnded}
use Rattle.ossl_script.specs.View.{printed_of}
use Rattle.ossl_run.proofs.course.results_of.Given as goal

-- the results of the callers so far, and the callers that are left
abbrev pub invariant-loop-player : goal.invariant-loop-player
invariant-loop-player l = record {
  ended : AreEnded l.player-iterator.rest.items;
  told : map (λ rs. rs.items) l.results.items ++ map (λ p. printed_of p.work) l.player-iterator.rest.items
      ≡ map (λ p. printed_of p.work) l.fn.players.items;
}
