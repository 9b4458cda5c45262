use Rattle.ossl_ordered.proofs.ProgramLaws.{close_others, close_there}
use Rattle.ossl_ordered.proofs.closing.close_one.Goals as goal

pub returns-clause-down : goal.returns-clause-down
returns-clause-down g c =
    let legal = rw (c.call.ensures.fixed, c.in_ok-call.ensures.entry) at c.call.ensures.legal in
    rw (c.call.ensures.fixed, c.in_ok-call.ensures.entry)
    (close_there (g.C.Program.fixed c.args.program.now) (g.C.Program.entries c.args.program.now) c.args.lib c.requires.there c.requires.legal c.in_ok-call.field-0 legal)

pub returns-clause-others : goal.returns-clause-others
returns-clause-others g c l closed =
    let legal = rw (c.call.ensures.fixed, c.in_ok-call.ensures.entry) at c.call.ensures.legal in
    rw (c.call.ensures.fixed, c.in_ok-call.ensures.entry)
    (close_others (g.C.Program.fixed c.args.program.now) (g.C.Program.entries c.args.program.now) c.args.lib c.requires.there c.requires.legal c.in_ok-call.field-0 l legal closed)
