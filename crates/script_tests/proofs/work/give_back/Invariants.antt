use Rattle.std.proofs.Common.{◌≡◌, ◌-◌, length}
use Rattle.ossl_script.specs.View.{back_of}
use Rattle.script_tests.proofs.work.give_back.Given as goal

-- nothing changed but what was given back so far
abbrev pub invariant-loop-call : goal.invariant-loop-call
invariant-loop-call l = l.work ≡ record (l.fn.work) { given = l.work.given }

-- what is still to be given back
abbrev pub decreases-loop-call : goal.decreases-loop-call
decreases-loop-call l = length (back_of l.work) - length l.work.given
