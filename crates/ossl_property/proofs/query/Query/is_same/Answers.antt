use Rattle.std.proofs.Common.{◌∙◌, ap₂}
use Rattle.ossl_property.specs.Same.{same_query}
use Rattle.ossl_property.proofs.Equality.{query_Decides}
use Rattle.ossl_property.proofs.query.Query.is_same.Goals as goal

pub returns-clause-equal : goal.returns-clause-equal
returns-clause-equal c =
    let left = c.as_slice.ensures.value ∙ c.self.view_is in
    let right = c.as_slice-2.ensures.value ∙ c.other.view_is in
    let both = query_Decides c.args.self.now c.args.other.now c.are_same.result (c.are_same.ensures ∙ ap₂ same_query left right) in
    both
