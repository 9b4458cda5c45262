use Rattle.std.proofs.Common.{sym, ◌∙◌}
use Rattle.ossl_property.proofs.Runs.{past_more, past_ends}
use Rattle.ossl_commands.specs.Lines.{is_blank}
use Rattle.ossl_commands.proofs.text.past_blanks.Goals as goal

pub loop-i-preserved : goal.loop-i-preserved
loop-i-preserved c = past_more is_blank _ _ c.loop-i-test.true (sym c.is_blank.ensures ∙ c.if-not-is_blank.false) ∙ c.loop-i.invariant

pub returns-then-not-is_blank : goal.returns-then-not-is_blank
returns-then-not-is_blank c = c.split_at.ensures.back ∙ past_ends is_blank _ _ c.loop-i-test.true (sym c.is_blank.ensures ∙ c.if-not-is_blank.true) ∙ c.loop-i.invariant
