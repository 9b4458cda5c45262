use Rattle.ossl_state.specs.declared.state.Given.{Given}
use Rattle.ossl_state.proofs.MarkLaws.{mark-given}
use Rattle.ossl_state.proofs.load.load.Goals as goal

pub returns-in-Ok-clause-mark : goal.returns-in-Ok-clause-mark
returns-in-Ok-clause-mark g c =
    let s = c.activate.new.state in
    let given : Given = record { number = s.next; place = c.args.place; owner = c.args.caller } in
    rw c.in-Ok.ensures.ok (mark-given c.in_ok-mark.mark c.args.lib c.args.state.now s c.args.retain given c.in_ok-mark.ensures.mark)
