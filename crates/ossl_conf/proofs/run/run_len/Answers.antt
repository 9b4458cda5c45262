use Rattle.std.proofs.Common.{arith, sym, ◌∙◌}
use Rattle.std.proofs.lemmas.List.Sums.{prefix_len-drop_yes, prefix_len-drop_no}
use Rattle.ossl_conf.specs.Private.{in_class}
use Rattle.ossl_conf.proofs.run.run_len.Goals as goal

pub loop-at-preserved : goal.loop-at-preserved
loop-at-preserved c = omega (arith, prefix_len-drop_yes (in_class c.args.class) _ _ 0 c.loop-at-test.true (sym c.contains.ensures ∙ c.if-not-contains.false))

pub returns-then-not-contains-clause-run : goal.returns-then-not-contains-clause-run
returns-then-not-contains-clause-run c = omega (arith, prefix_len-drop_no (in_class c.args.class) _ _ 0 c.loop-at-test.true (sym c.contains.ensures ∙ c.if-not-contains.true))
