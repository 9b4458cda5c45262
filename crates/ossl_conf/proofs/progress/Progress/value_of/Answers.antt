use Rattle.std.proofs.Common.{◌≡◌, Ok, ◌∷◌, ◌++◌, ap, sym, ◌∙◌}
use Rattle.ossl_conf.specs.Private.{part_of}
use Rattle.ossl_conf.specs.Progress.{conf_of}
use Rattle.ossl_conf.specs.Reading.{value_by_name}
use Rattle.ossl_conf.specs.Values.{joined, parts, replaced}
use Rattle.ossl_conf.proofs.PartLaws.{joined-part}
use Rattle.ossl_conf.proofs.progress.Progress.value_of.Goals as goal

pub parts-preserved : goal.parts-preserved
parts-preserved c =
    let before = c.parts.invariant.done in
    let put = c.in_ok-put_part.ensures before.0 before.1 in
    let step = joined-part (value_by_name (conf_of c.args.self.now)) before.0 c.in-Some.first.now c.in-Some.behind.now (part_of c.part_at-taken.result.part) c.part_at-taken.result.count c.part_at-taken.ensures put.0 put.1 in
    let whole : c.parts.rest.now ≡ c.in-Some.first.now ∷ c.in-Some.behind.now = c.in-Some.ensures.cases.0 in
    let all = ap (λ rest. joined (Ok before.0) (replaced (value_by_name (conf_of c.args.self.now)) (parts rest))) whole in
    record { done = (before.0 ++ put.0, put.2, rw c.past-rest.ensures (sym step ∙ sym all ∙ before.2)) }
