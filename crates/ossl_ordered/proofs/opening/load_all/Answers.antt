use Rattle.ossl_ordered.proofs.ProgramLaws.{handed, loads_end}
use Rattle.ossl_ordered.proofs.opening.load_all.Goals as goal

pub returns-in_err-load-clause-err : goal.returns-in_err-load-clause-err
returns-in_err-load-clause-err g c =
    let e = c.in_err-load.field-0.0 in
    rw (handed c.from_residual.result e c.from_residual.ensures)
    (loads_end c.args.names.now (g.C.Program.entries c.loop-name.program) (g.C.Program.entries c.load.new.program) c.loop-name.name-index c.name-item.result e
    c.loop-name.invariant.loaded c.loop-name-test.true c.name-item.is c.in_err-load.ensures.err)
