use Rattle.std.proofs.Common.{sym, ◌∙◌}
use Rattle.ossl_property.specs.Reading.{in_class}
use Rattle.ossl_property.proofs.Runs.{front_more, past_more, front_ends, past_ends}
use Rattle.ossl_property.proofs.word.run_length.Goals as goal

pub loop-i-preserved : goal.loop-i-preserved
loop-i-preserved c = record {
  run = front_more (in_class c.args.class) _ _ c.loop-i-test.true (sym c.contains.ensures ∙ c.if-not-contains.false) ∙ c.loop-i.invariant.run;
  rest = past_more (in_class c.args.class) _ _ c.loop-i-test.true (sym c.contains.ensures ∙ c.if-not-contains.false) ∙ c.loop-i.invariant.rest;
}

pub returns-then-not-contains-clause-run : goal.returns-then-not-contains-clause-run
returns-then-not-contains-clause-run c = front_ends (in_class c.args.class) _ _ c.loop-i-test.true (sym c.contains.ensures ∙ c.if-not-contains.true) ∙ c.loop-i.invariant.run

pub returns-then-not-contains-clause-rest : goal.returns-then-not-contains-clause-rest
returns-then-not-contains-clause-rest c = past_ends (in_class c.args.class) _ _ c.loop-i-test.true (sym c.contains.ensures ∙ c.if-not-contains.true) ∙ c.loop-i.invariant.rest
