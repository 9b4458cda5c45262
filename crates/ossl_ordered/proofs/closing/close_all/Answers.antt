use Rattle.std.proofs.Common.{◌∙◌, arith, inl, inr}
use Rattle.std.proofs.lemmas.Bool.{cases_eq}
use Rattle.ossl_ordered.proofs.ProgramLaws.{closes_more, follow_join}
use Rattle.ossl_ordered.proofs.closing.close_all.Goals as goal

pub loop-lib-preserved : goal.loop-lib-preserved
loop-lib-preserved g c =
    let start = g.C.Program.entries c.args.program.now in
    let before = g.C.Program.entries c.loop-lib.program in
    let after = g.C.Program.entries c.close_one-closed.new.program in
    let so_far = c.loop-lib.invariant.follow in
    let more = c.close_one-closed.ensures.follow in
    record {
      closed = rw (c.and-outcome.ensures) (closes_more c.loop-lib.outcome c.close_one-closed.result c.loop-lib.lib start before after c.loop-lib.invariant.closed c.close_one-closed.ensures.closed);
      follow = (_, follow_join start before after so_far.0 more.0 so_far.1 more.1);
      down = λ l below. elim (cases_eq l c.loop-lib.lib) [
        | inl same ↦ rw same c.close_one-closed.ensures.down
        | inr apart ↦ c.close_one-closed.ensures.others l (c.loop-lib.invariant.down l (omega (arith, below, apart)))
      ];
      legal = c.close_one-closed.ensures.legal;
      fixed = c.close_one-closed.ensures.fixed ∙ c.loop-lib.invariant.fixed;
    }
