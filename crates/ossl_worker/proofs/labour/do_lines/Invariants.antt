use Rattle.std.proofs.Common.{false}
use Rattle.ossl_calls.specs.Registry.{fixed_of}
use Rattle.ossl_core.specs.Answered.{IsStillOf}
use Rattle.ossl_script.specs.View.{GoesOn}
use Rattle.ossl_worker.proofs.WorkLaws.{IsAtWork}
use Rattle.ossl_worker.proofs.labour.do_lines.Given as goal

-- the calls so far
abbrev pub invariant-calls : goal.invariant-calls
invariant-calls g l = record {
  from : IsStillOf l.shared l.fn.caller l.caller;
  goes : GoesOn l.script false;
  work : IsAtWork (fixed_of g.P.Provider.facts l.shared.origin) l.fn.script l.script l.caller.number l.caller.own;
}
