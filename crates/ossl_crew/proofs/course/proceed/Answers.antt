use Rattle.std.proofs.Common.{refl}
use Rattle.ossl_crew.proofs.ClosingLaws.{came_ended}
use Rattle.ossl_crew.proofs.course.proceed.Goals as goal

pub returns-in-Ok-scripts-clause-came : goal.returns-in-Ok-scripts-clause-came
returns-in-Ok-scripts-clause-came g c =
    came_ended g.row.P.Denot c.args.registry.contexts c.args.crew.scripts.items c.args.registry.entries
    c.run_callers-registry.result.0.entries c.args.opened c.in-Ok.field-0 c.run_callers-registry.result.1
    c.in-Ok-scripts.scripts c.in-Ok.is c.in-Ok-scripts.is c.run_callers-registry.ensures.done

pub returns-in-Err-clause-came : goal.returns-in-Err-clause-came
returns-in-Err-clause-came g c = rw c.in-Ok.is tt

pub returns-in-Err-Provider-clause-came : goal.returns-in-Err-Provider-clause-came
returns-in-Err-Provider-clause-came g c = rw (c.in-Err-Provider.is, c.in-Err-Provider.field-0-is) (refl, refl)

pub returns-in-Err-NoMemory-clause-came : goal.returns-in-Err-NoMemory-clause-came
returns-in-Err-NoMemory-clause-came g c = rw (c.in-Err-NoMemory.is, c.in-Err-NoMemory.field-0-is) tt
