use Rattle.std.proofs.Common.{◌≡◌, ◌-◌, length}
use Rattle.ossl_calls.specs.Registry.{fixed_of}
use Rattle.ossl_core.specs.Answered.{IsStillOf}
use Rattle.ossl_script.specs.View.{back_of}
use Rattle.ossl_worker.specs.Work.{HasMade, IsLegalOf}
use Rattle.ossl_worker.proofs.labour.give_back.Given as goal

-- what was given back so far
abbrev pub invariant-loop-call : goal.invariant-loop-call
invariant-loop-call g l = record {
  from : IsStillOf l.shared l.fn.caller l.caller;
  legal : IsLegalOf (fixed_of g.P.Provider.facts l.shared.origin) l.caller.number l.caller.own;
  script : l.script ≡ record (l.fn.script) { given = l.script.given };
  made : HasMade l.script l.caller.own;
}

abbrev pub decreases-loop-call : goal.decreases-loop-call
decreases-loop-call g l = length (back_of l.script) - length l.script.given
