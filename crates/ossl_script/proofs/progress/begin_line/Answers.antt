use Rattle.std.proofs.Common.{◌≡◌, List, ◌∷◌, drop}
use Rattle.ossl_commands.specs.declared.command.Line.{Line}
use Rattle.ossl_script.specs.declared.progress.Progress.{Progress}
use Rattle.ossl_script.specs.Caller.{Standing}
use Rattle.ossl_script.specs.Commands.{course_of}
use Rattle.ossl_script.specs.Given.{content_by}
use Rattle.ossl_script.specs.Progress.{Moves, Ready, Settled, Steps}
use Rattle.ossl_script.proofs.ProgressLaws.{begins, if_ok, moves, steps}
use Rattle.ossl_script.proofs.progress.begin_line.Goals as goal

pub returns : goal.returns
returns c =
    let content = content_by c.args.contents.now in
    let line = c.args.line.now in
    let mid : Progress = record c.args.progress.now { names = c.begin.new.names } in
    let new = c.settle.new.progress in
    let course = c.in_ok-course.course in
    record {
      steps = if_ok (Settled mid new line.number course)
          (λ call. (standing : Standing) (lines behind : List Line) → drop c.args.progress.now.line lines ≡ line ∷ behind
          → Ready content lines c.args.progress.now standing → Steps content lines new standing line call) c.settle.result
          (λ call settled standing lines behind here ready.
          steps content lines mid new standing line behind course (course_of content ready.bindings line.command) call here
          (c.in_ok-course.ensures ready.bindings ready.agree) (begins content lines c.args.progress.now standing line behind here ready) settled)
          c.settle.ensures;
      moves = if_ok (Settled mid new line.number course) (Moves c.args.progress.now new) c.settle.result
          (λ call settled. moves mid new line.number course call settled) c.settle.ensures;
    }
