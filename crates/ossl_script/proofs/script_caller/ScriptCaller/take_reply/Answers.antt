use Rattle.std.proofs.Common.{true, sym, ap, ◌∙◌, subst}
use Rattle.ossl_script.specs.View.{GoesOn, ScriptCallerView, answered}
use Rattle.ossl_script.proofs.WorkLaws.{room_for_reply, room_for_token, view_after_reply, works_after_reply}
use Rattle.ossl_script.proofs.script_caller.ScriptCaller.take_reply.Goals as goal

pub take_in-requires-clause-place : goal.take_in-requires-clause-place
take_in-requires-clause-place c =
    room_for_token c.self.inside c.self.invariant (ap (λ (v : ScriptCallerView). v.refused) c.self.view_is ∙ c.requires.unrefused)

pub take_in-requires-clause-reply : goal.take_in-requires-clause-reply
take_in-requires-clause-reply c =
    room_for_reply c.self.inside c.self.invariant (ap (λ (v : ScriptCallerView). v.refused) c.self.view_is ∙ c.requires.unrefused)

pub invariant_of-self : goal.invariant_of-self
invariant_of-self c =
    let goes_on = subst (λ (v : ScriptCallerView). GoesOn v true) (sym c.self.view_is) c.requires in
    works_after_reply c.self.inside c.take_in.new.asked c.take_in.new.places c.take_in.new.replies c.args.reply c.self.invariant goes_on
    c.take_in.ensures.idle c.take_in.ensures.ascends c.take_in.ensures.held c.take_in.ensures.replies

pub returns-clause-taken : goal.returns-clause-taken
returns-clause-taken c =
    let goes_on = subst (λ (v : ScriptCallerView). GoesOn v true) (sym c.self.view_is) c.requires in
    view_after_reply c.self.inside c.take_in.new.asked c.take_in.new.places c.take_in.new.replies c.args.reply c.self.invariant goes_on
    c.take_in.ensures.idle c.take_in.ensures.ascends c.take_in.ensures.held c.take_in.ensures.replies
    ∙ ap (λ (v : ScriptCallerView). answered c.args.reply v) c.self.view_is
