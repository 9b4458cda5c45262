use Rattle.std.proofs.Common.{ℕ, ◌∙◌, drop, nat_eq, rules, tests}
use Rattle.std.proofs.lemmas.List.{take_rest}
use Rattle.std.proofs.lemmas.Iterator.{YieldsList-from_slice}
use Rattle.std.proofs.lemmas.Iterator.Search.{all_from_yields_List}
use Rattle.ossl_modes.proofs.padding.ends_in.Goals as goal

pub returns : goal.returns
returns c =
    let e = take_rest c.args.block.now c.args.start in
    all_from_yields_List (λ (x : ℕ). nat_eq x c.args.n) _ _ c.all.result c.all.ensures.ran (YieldsList-from_slice (drop c.args.start c.args.block.now) (c.iter.ensures.rest ∙ e)) (λ x b q k. search (rules, tests))
