use Rattle.std.proofs.Common.{◌≡◌, ◌∙◌, arith, rules, ap, sym, ℕ, List, [], ◌∷◌, ◌++◌}
use Rattle.std.specs.List.{range_with_len}
use Rattle.std.proofs.lemmas.List.{take_more_set, take_all}
use Rattle.ossl_legacy.proofs.Streams.{counted_more}
use Rattle.ossl_legacy.proofs.rc4.ordered_table.Goals as goal

pub loop-i-preserved : goal.loop-i-preserved
loop-i-preserved c =
    let i = c.loop-i.i in (
      search rules,
      take_more_set c.loop-i.table i i (omega arith)
          ∙ ap (λ (x : List ℕ). x ++ i ∷ []) c.loop-i.invariant.1
          ∙ sym (counted_more i),
    )

pub returns : goal.returns
returns c =
    let end : c.loop-i.i ≡ 256 = omega arith in
    sym (take_all c.loop-i.i c.loop-i.table (omega arith)) ∙ c.loop-i.invariant.1 ∙ ap (range_with_len 0) end
