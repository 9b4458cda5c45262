use Rattle.std.proofs.Common.{◌+◌, drop, Option, refl, subst}
use Rattle.ossl_state.specs.declared.call.Call.{Call}
use Rattle.ossl_script.specs.Given.{content_by}
use Rattle.ossl_script.specs.Progress.{Steps}
use Rattle.ossl_script.proofs.ProgressLaws.{arrived, here_of, none_left}
use Rattle.ossl_script.proofs.progress.next_line.Goals as goal

pub returns-in-Some-2 : goal.returns-in-Some-2
returns-in-Some-2 c = λ standing ready.
    let content = content_by c.args.contents.now in
    let lines = c.args.lines.now in
    let i = c.loop-line.progress.line in
    let line = c.in-Some.line.now in
    let here = here_of lines i line c.in-Some.ensures.line in (
      line,
      refl,
      subst (λ (call : Option Call). Steps content lines c.begin_line.new.progress standing line call) c.in-Some-2.is
          (c.in_ok-call.ensures.steps standing lines (drop (i + 1) lines) here (c.loop-line.invariant standing ready)),
    )

pub loop-line-preserved : goal.loop-line-preserved
loop-line-preserved c = λ standing ready.
    let content = content_by c.args.contents.now in
    let lines = c.args.lines.now in
    let i = c.loop-line.progress.line in
    let line = c.in-Some.line.now in
    let here = here_of lines i line c.in-Some.ensures.line in
    subst (λ (call : Option Call). Steps content lines c.begin_line.new.progress standing line call) c.in_default-2.is
    (c.in_ok-call.ensures.steps standing lines (drop (i + 1) lines) here (c.loop-line.invariant standing ready))

pub returns : goal.returns
returns c = λ standing ready.
    arrived (content_by c.args.contents.now) c.args.lines.now c.loop-line.progress standing
    (none_left c.args.lines.now c.loop-line.progress.line c.in_default.ensures.line) (c.loop-line.invariant standing ready)
