use Rattle.std.proofs.Common.{◌-◌, length}
use Rattle.ossl_script.specs.Caller.{Standing}
use Rattle.ossl_script.specs.Given.{content_by}
use Rattle.ossl_script.specs.Progress.{Ready}
use Rattle.ossl_script.proofs.progress.next_line.Given as goal

abbrev pub invariant-loop-line : goal.invariant-loop-line
invariant-loop-line l = (standing : Standing) → Ready (content_by l.contents) l.lines l.fn.progress standing
    → Ready (content_by l.contents) l.lines l.progress standing

abbrev pub decreases-loop-line : goal.decreases-loop-line
decreases-loop-line l = length l.lines - l.progress.line
