use Rattle.std.proofs.Common.{◌≡◌, ap}
use Rattle.ossl_state.specs.declared.state.Born.{Born}
use Rattle.ossl_state.proofs.MarkLaws.{mark-joined, mark-started}
use Rattle.ossl_state.proofs.activation.activate.Goals as goal

pub returns-in_ok-join-in-Some-clause-mark : goal.returns-in_ok-join-in-Some-clause-mark
returns-in_ok-join-in-Some-clause-mark g c =
    rw (c.mark_of-mark.ensures, c.in_ok-join-in-Some.ensures.ok) (mark-joined c.args.state.now c.args.lib c.args.place c.in-Some.held c.requires.lib)

pub returns-in_ok-bear-in-None-clause-mark : goal.returns-in_ok-bear-in-None-clause-mark
returns-in_ok-bear-in-None-clause-mark g c =
    let b = c.in_ok-instance-in-None.instance in
    let here : b.lib ≡ c.args.lib = ap (λ (x : Born). x.lib) c.in_ok-instance-in-None.ensures.instance in
    rw (c.mark_of-mark.ensures, c.in_ok-bear-in-None.ensures.before, c.in_ok-bear-in-None.ensures.ok, ← here)
    (mark-started c.args.state.now b c.in_ok-instance-in-None.groups (rw here c.requires.lib))
