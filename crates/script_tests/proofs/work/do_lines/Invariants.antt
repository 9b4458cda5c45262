use Rattle.std.proofs.Common.{false}
use Rattle.ossl_script.specs.View.{GoesOn}
use Rattle.script_tests.proofs.work.do_lines.Given as goal

-- it goes on with its lines, and no call waits
abbrev pub invariant-loop-answer : goal.invariant-loop-answer
invariant-loop-answer l = GoesOn l.work false
