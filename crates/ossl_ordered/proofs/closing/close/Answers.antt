use Rattle.std.proofs.Common.{map}
use Rattle.std.specs.Prelude.{reverse}
use Rattle.ossl_state.specs.declared.call.Call.TheVariants.{Unload}
use Rattle.ossl_ordered.proofs.ProgramLaws.{follow_calls, follow_join, unloads_program}
use Rattle.ossl_ordered.proofs.closing.close.Goals as goal

pub returns-clause-follow : goal.returns-clause-follow
returns-clause-follow g c =
    let start = g.C.Program.entries c.args.program.now in
    let middle = g.C.Program.entries c.unload_all.new.program in
    let first = follow_calls (map Unload (reverse c.args.tokens.items)) start middle (unloads_program (reverse c.args.tokens.items)) c.unload_all.ensures.unloaded in
    let last = c.close_all.ensures.follow in
    (_, follow_join start middle (g.C.Program.entries c.close_all.new.program) _ last.0 first last.1)
