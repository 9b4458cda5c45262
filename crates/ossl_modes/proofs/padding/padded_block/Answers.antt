use Rattle.std.proofs.Common.{◌≡◌, ℕ, List, ◌+◌, ◌-◌, ◌∷◌, ◌++◌, [], take, replicate, arith, rules, ap, ◌∙◌, append_assoc}
use Rattle.std.proofs.lemmas.List.{take_more_set, replicate_more}
use Rattle.ossl_modes.proofs.padding.padded_block.Goals as goal

pub loop-i-preserved : goal.loop-i-preserved
loop-i-preserved c =
    let n = 16 - c.args.count in
    let i = c.loop-i.i in
    let head = take c.args.count c.args.block in
    let k : ℕ = i - c.args.count in
    let next : k + 1 ≡ i + 1 - c.args.count = omega arith in (
      search rules,
      take_more_set c.loop-i.last i n (omega arith)
          ∙ ap (λ (x : List ℕ). x ++ n ∷ []) c.loop-i.invariant.1
          ∙ append_assoc head (replicate k n) (n ∷ [])
          ∙ ap (λ (x : List ℕ). head ++ x) (replicate_more k n ∙ ap (λ (j : ℕ). replicate j n) next),
    )
