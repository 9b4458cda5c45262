use Rattle.std.proofs.Common.{◌≡◌, ℕ, List, ◌+◌, ◌-◌, ◌∷◌, ◌++◌, [], take, replicate, arith, rules, ap, ◌∙◌, append_assoc}
use Rattle.std.proofs.lemmas.List.{take_more_set, replicate_more}
use Rattle.ossl_cmac.proofs.subkeys.completed_block.Goals as goal

pub loop-i-init : goal.loop-i-init
loop-i-init c =
    let z : 0 ≡ c.args.count + 1 - (c.args.count + 1) = omega arith in (
      search rules,
      take_more_set c.args.block c.args.count 0x80 (omega arith) ∙ ap (λ (k : ℕ). take c.args.count c.args.block ++ 0x80 ∷ replicate k 0) z,
    )

pub loop-i-preserved : goal.loop-i-preserved
loop-i-preserved c =
    let i = c.loop-i.i in
    let head = take c.args.count c.args.block in
    let k : ℕ = i - (c.args.count + 1) in
    let next : k + 1 ≡ i + 1 - (c.args.count + 1) = omega arith in (
      search rules,
      take_more_set c.loop-i.last i 0 (omega arith)
          ∙ ap (λ (x : List ℕ). x ++ 0 ∷ []) c.loop-i.invariant.1
          ∙ append_assoc head (0x80 ∷ replicate k 0) (0 ∷ [])
          ∙ ap (λ (x : List ℕ). head ++ 0x80 ∷ x) (replicate_more k 0 ∙ ap (λ (j : ℕ). replicate j 0) next),
    )
