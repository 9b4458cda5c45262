use Rattle.std.proofs.Common.{◌∙◌}
use Rattle.ossl_property.proofs.Merged.{keeps_merged}
use Rattle.ossl_property.proofs.merging.merge.Goals as goal

pub returns-clause-keeps : goal.returns-clause-keeps
returns-clause-keeps c = keeps_merged c.args.given.now c.args.default.now c.as_slice.result.now c.as_slice-2.result.now _ (c.as_slice.ensures.value ∙ c.given.view_is) (c.as_slice-2.ensures.value ∙ c.default.view_is) c.in_ok-clauses.ensures
