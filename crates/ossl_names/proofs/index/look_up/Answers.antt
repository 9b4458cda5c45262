use Rattle.std.proofs.Common.{◌≡◌, take, map, length, ap, subst, ◌∙◌, arith}
use Rattle.std.specs.Char.{to_ascii_lowercase}
use Rattle.std.proofs.lemmas.List.{take_all}
use Rattle.ossl_names.specs.Index.{found}
use Rattle.ossl_names.proofs.index.look_up.Goals as goal

pub returns-clause-value : goal.returns-clause-value
returns-clause-value c = λ _.
    let name = c.args.name.now in
    let lower = c.loop-i.lower in
    let whole : c.loop-i.i ≡ length name = omega arith in
    let e : take (length name) lower ≡ map to_ascii_lowercase name = subst (λ k. take k lower ≡ map to_ascii_lowercase (take k name)) whole c.loop-i.invariant.1 ∙ ap (map to_ascii_lowercase) (take_all (length name) name (omega arith)) in
    c.copied.ensures ∙ c.get.ensures.value ∙ ap (found c.args.index.now) e
