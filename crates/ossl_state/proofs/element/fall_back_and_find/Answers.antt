use Rattle.std.proofs.Common.{◌≡◌, map, refl}
use Rattle.ossl_state.specs.Best.{best_method}
use Rattle.ossl_state.specs.Mark.{fallen_back}
use Rattle.ossl_state.proofs.HistoryLaws.{after_activation-live}
use Rattle.ossl_state.proofs.MarkLaws.{mark-method}
use Rattle.ossl_state.proofs.element.fall_back_and_find.Goals as goal

pub returns-in-Ok-clause-told : goal.returns-in-Ok-clause-told
returns-in-Ok-clause-told g c =
    let facts = map g.P.Provider.facts c.args.boxes.now in
    let s = c.args.state.now in
    let same = (after_activation-live facts s c.args.lib c.args.place).1 in
    rw (c.in-Ok.ensures.told, c.in_ok-mark.ensures.ok, same) refl

pub returns-in-Ok-clause-mark : goal.returns-in-Ok-clause-mark
returns-in-Ok-clause-mark g c =
    let left = c.fall_back.new.state in
    let chosen = best_method left c.args.lib c.args.op c.args.name.now c.args.query.now in
    rw c.in-Ok.ensures.ok (mark-method c.in_ok-mark.mark c.args.lib c.args.state.now left c.args.caller chosen c.in_ok-mark.ensures.mark)
