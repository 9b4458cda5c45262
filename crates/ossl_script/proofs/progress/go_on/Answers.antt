use Rattle.std.proofs.Common.{◌≡◌, ◌∷◌, drop, Option, refl, sym, ◌∙◌, subst}
use Rattle.ossl_state.specs.declared.call.Call.{Call}
use Rattle.ossl_state.specs.declared.call.Reply.{Reply}
use Rattle.ossl_commands.specs.declared.command.Line.{Line}
use Rattle.ossl_script.specs.declared.stage.Stage.{Stage}
use Rattle.ossl_script.specs.Caller.{Standing}
use Rattle.ossl_script.specs.Given.{content_by}
use Rattle.ossl_script.specs.Progress.{Answered, Arrives, Ready, Stands, StandsAt, Steps}
use Rattle.ossl_script.proofs.ProgressLaws.{first_left, if_ok, last_reply}
use Rattle.ossl_script.proofs.progress.go_on.Goals as goal

pub returns-in-Some-2 : goal.returns-in-Some-2
returns-in-Some-2 c = λ standing stands.
    let content = content_by c.args.contents.now in
    let lines = c.args.lines.now in
    let stage = c.in-Some.stage in
    let at = subst (λ (s : Option Stage). StandsAt content lines c.args.replies.now c.args.progress.now standing s) (sym c.take.ensures.value ∙ c.in-Some.is) stands in
    let line = c.in-Some-get.line.now in
    let reply = c.index-replies-replies.result in
    let line_is : line ≡ at.0 = first_left c.args.progress.now.line lines at.0 line at.1 at.4 c.in-Some-get.ensures.line in
    let reply_is : reply ≡ at.3 = c.index-replies-replies.is ∙ last_reply c.args.replies.now at.2 at.3 at.5 reply in
    let here = subst (λ (l : Line). drop c.args.progress.now.line lines ≡ l ∷ at.1) (sym line_is) at.4 in
    let answered = subst (λ (l : Line). Answered content c.args.progress.now standing l at.1 stage reply) (sym line_is)
    (subst (λ (r : Reply). Answered content c.args.progress.now standing at.0 at.1 stage r) (sym reply_is) at.6) in
    let again = c.in_ok-call.ensures.steps standing lines at.1 here (record { bindings = answered.bindings; agree = answered.agree; stands = answered.stands }) in (
      line,
      refl,
      subst (λ (call : Option Call). Steps content lines c.resume_line.new.progress standing line call) c.in-Some-2.is again,
    )

pub returns-in-None : goal.returns-in-None
returns-in-None c =
    let content = content_by c.args.contents.now in
    let lines = c.args.lines.now in
    if_ok (λ next. (standing : Standing) → Ready content lines c.resume_line.new.progress standing → Arrives content lines c.next_line-in-None.new.progress standing next)
    (λ next. (standing : Standing) → Stands content lines c.args.replies.now c.args.progress.now standing → Arrives content lines c.next_line-in-None.new.progress standing next)
    c.next_line-in-None.result
    (λ next arrives standing stands.
    let stage = c.in-Some.stage in
    let at = subst (λ (s : Option Stage). StandsAt content lines c.args.replies.now c.args.progress.now standing s) (sym c.take.ensures.value ∙ c.in-Some.is) stands in
    let line = c.in-Some-get.line.now in
    let reply = c.index-replies-replies.result in
    let line_is : line ≡ at.0 = first_left c.args.progress.now.line lines at.0 line at.1 at.4 c.in-Some-get.ensures.line in
    let reply_is : reply ≡ at.3 = c.index-replies-replies.is ∙ last_reply c.args.replies.now at.2 at.3 at.5 reply in
    let here = subst (λ (l : Line). drop c.args.progress.now.line lines ≡ l ∷ at.1) (sym line_is) at.4 in
    let answered = subst (λ (l : Line). Answered content c.args.progress.now standing l at.1 stage reply) (sym line_is)
    (subst (λ (r : Reply). Answered content c.args.progress.now standing at.0 at.1 stage r) (sym reply_is) at.6) in
    let again = c.in_ok-call.ensures.steps standing lines at.1 here (record { bindings = answered.bindings; agree = answered.agree; stands = answered.stands }) in
    arrives standing (subst (λ (call : Option Call). Steps content lines c.resume_line.new.progress standing line call) c.in-None.is again))
    c.next_line-in-None.ensures
