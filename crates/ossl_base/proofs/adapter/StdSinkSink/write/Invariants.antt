use Rattle.std.proofs.Common.{◌≡◌}
use Rattle.ossl_base.proofs.adapter.StdSinkSink.write.Given as goal

-- no fault was counted so far
abbrev pub invariant-loop : goal.invariant-loop
invariant-loop g l = l.self-inside.faults ≡ l.initial.self-inside.faults
