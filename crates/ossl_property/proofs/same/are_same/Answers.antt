use Rattle.std.proofs.Common.{◌≡◌, ◌∙◌, length, arith}
use Rattle.ossl_property.proofs.Equality.{same_query-zip}
use Rattle.ossl_property.proofs.same.are_same.Goals as goal

pub returns-then-clauses-others : goal.returns-then-clauses-others
returns-then-clauses-others c =
    let lengths : length c.args.clauses.now ≡ length c.args.others.now = omega arith in
    c.are_same_so_far.ensures ∙ same_query-zip c.args.clauses.now c.args.others.now lengths
