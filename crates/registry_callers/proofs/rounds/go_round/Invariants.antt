use Rattle.ossl_core.specs.Answered.{IsStillOf}
use Rattle.ossl_core.specs.Owned.{HasKept}
use Rattle.registry_callers.proofs.rounds.go_round.Given as goal

abbrev pub invariant-loop : goal.invariant-loop
invariant-loop g l = record {
  of : IsStillOf l.shared l.fn.caller l.caller;
  kept : HasKept l.fn.caller.own l.caller.own;
}
