use Rattle.std.proofs.Common.{◌≡◌, true, false, sym, ◌∙◌}
use Rattle.ossl_state.specs.Rows.{is_wanted}
use Rattle.ossl_state.proofs.ChoiceLaws.{rows-next}
use Rattle.ossl_state.proofs.best.best_of_rows.Goals as goal
use Rattle.ossl_state.proofs.best.best_of_rows.Goals.{then-is_wanted_row, else-is_wanted_row}

pub loop-row-preserved : goal.loop-row-preserved
loop-row-preserved g c =
    let row = c.row-item.result in
    let next = rows-next c.loop-row.best c.args.a c.args.op c.args.number c.args.query.now c.args.rows.now c.loop-row.row-index row c.loop-row-test.true c.row-item.is in
    elim c.if-is_wanted_row.branch [
      | then-is_wanted_row w ↦
          let wanted : is_wanted c.args.op c.args.number row ≡ true = sym c.is_wanted_row.ensures ∙ w.if-is_wanted_row.true in
          rw (w.best-is, w.better_of-best.ensures, w.score.ensures.score) (sym (rw wanted at next) ∙ c.loop-row.invariant)
      | else-is_wanted_row w ↦
          let unwanted : is_wanted c.args.op c.args.number row ≡ false = sym c.is_wanted_row.ensures ∙ w.if-is_wanted_row.false in
          rw w.best-is (sym (rw unwanted at next) ∙ c.loop-row.invariant)
    ]
