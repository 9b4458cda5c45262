use Rattle.std.proofs.Common.{◌≡◌, ◌+◌, List, ℕ, [], ◌∷◌, ◌++◌, take, subst, sym}
use Rattle.std.proofs.lemmas.List.{take_more}
use Rattle.ossl_names.specs.Index.{FindsNot}
use Rattle.ossl_names.proofs.Finds.{FindsNot-more}
use Rattle.ossl_names.proofs.index.leave.Goals as goal

pub loop-name-preserved : goal.loop-name-preserved
loop-name-preserved c =
    let names = c.args.names.now in
    let i = c.loop-name.name-index in
    let t = take_more names i c.name-item.result c.loop-name-test.true in
    let e : take (i + 1) names ≡ take i names ++ c.as_slice.result.now ∷ [] = cc in
    subst (λ (xs : List (List ℕ)). FindsNot c.args.index.now c.remove.new.self xs) (sym e) (FindsNot-more c.args.index.now c.loop-name.index c.remove.new.self (take i names) c.as_slice.result.now c.loop-name.invariant c.remove.ensures.updates)
