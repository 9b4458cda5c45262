use Rattle.std.proofs.Common.{◌≡◌, false, drop, sym, ◌∙◌}
use Rattle.ossl_conf.specs.Values.{begins_with_colons}
use Rattle.ossl_conf.proofs.ColonLaws.{colons_from-later}
use Rattle.ossl_conf.proofs.said.cut_at_colons.Goals as goal

pub loop-at-preserved : goal.loop-at-preserved
loop-at-preserved c =
    let here : begins_with_colons (drop c.loop-at.at c.args.name.now) ≡ false = cc in
    sym (colons_from-later c.loop-at.at c.args.name.now c.loop-at-test.true here) ∙ c.loop-at.invariant
