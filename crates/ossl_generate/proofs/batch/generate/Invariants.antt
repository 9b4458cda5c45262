use Rattle.std.proofs.Common.{◌≡◌}
use Rattle.ossl_generate.specs.Generator.{generated, state_of}
use Rattle.ossl_generate.proofs.batch.generate.Given as goal

-- the lines so far, and the state of the last of them
abbrev pub invariant-loop-line : goal.invariant-loop-line
invariant-loop-line l = record {
  text : l.text.items ≡ generated l.line l.fn.seed l.callers;
  state : l.state ≡ state_of l.fn.seed l.line;
}
