use Rattle.ossl_ordered.proofs.ProgramLaws.{default_more}
use Rattle.ossl_ordered.proofs.opening.set_default.Goals as goal

pub returns-in_ok-call-clause-loading : goal.returns-in_ok-call-clause-loading
returns-in_ok-call-clause-loading g c =
    let legal = rw (c.call.ensures.fixed, c.in_ok-call.ensures.entry) at c.call.ensures.legal in
    rw (c.call.ensures.fixed, c.in_ok-call.ensures.entry)
    (default_more (g.C.Program.fixed c.args.program.now) (g.C.Program.entries c.args.program.now) c.args.tokens.now c.requires.loading c.in_ok-copy.field-0 c.in_ok-call.field-0 legal)
