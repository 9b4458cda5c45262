use Rattle.std.proofs.Common.{◌≡◌}
use Rattle.registry_callers.proofs.plain.run.Given as goal

abbrev pub invariant-loop : goal.invariant-loop
invariant-loop g l = record { contexts : l.registry.contexts ≡ 2 }
