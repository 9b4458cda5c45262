use Rattle.std.proofs.Common.{◌≡◌, List, ◌∷◌, drop, subst}
use Rattle.ossl_commands.specs.declared.command.Argument.{Argument}
use Rattle.ossl_commands.specs.Counts.{arguments_in}
use Rattle.ossl_commands.specs.declared.command.Line.{Line}
use Rattle.ossl_script.specs.declared.progress.Progress.{Progress}
use Rattle.ossl_script.specs.Caller.{Standing}
use Rattle.ossl_script.specs.Given.{content_by, fed_by}
use Rattle.ossl_script.specs.Progress.{Answered, Settled, Steps}
use Rattle.ossl_script.specs.Stages.{Leads, after}
use Rattle.ossl_script.proofs.ProgressLaws.{if_ok, steps}
use Rattle.ossl_script.proofs.progress.resume_line.Goals as goal

pub returns : goal.returns
returns c =
    let content = content_by c.args.contents.now in
    let line = c.args.line.now in
    let mid : Progress = record c.args.progress.now { names = c.resume.new.names } in
    let new = c.settle.new.progress in
    let course = c.in_ok-course.course in
    record {
      steps = if_ok (Settled mid new line.number course)
          (λ call. (standing : Standing) (lines behind : List Line) → drop c.args.progress.now.line lines ≡ line ∷ behind
          → Answered content c.args.progress.now standing line behind c.args.stage c.args.reply.now → Steps content lines new standing line call) c.settle.result
          (λ call settled standing lines behind here answered.
          steps content lines mid new standing line behind course
          (after (fed_by content (arguments_in line.command)) answered.bindings c.args.stage c.args.reply.now) call here
          (subst (λ (arguments : List Argument). Leads (fed_by content arguments) mid.names course (after (fed_by content arguments) answered.bindings c.args.stage c.args.reply.now))
          c.arguments_in-arguments.ensures (c.in_ok-course.ensures answered.bindings answered.agree))
          answered.stands settled)
          c.settle.ensures;
    }
