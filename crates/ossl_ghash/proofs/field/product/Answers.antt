use Rattle.std.proofs.Common.{ℕ, ◌-◌, ◌+◌, bit_xor, arith, ◌∙◌, ap, sym}
use Rattle.ossl_ghash.specs.Ghash.{times}
use Rattle.ossl_ghash.proofs.Linear.{is_first_additive, is_second_additive, times_odd, times_even, times_none}
use Rattle.ossl_ghash.proofs.field.product.Goals as goal
use Rattle.ossl_ghash.proofs.field.product.Goals.{then-x-i-eq1, else-x-i-eq1}

pub loop-i-preserved : goal.loop-i-preserved
loop-i-preserved c =
    let i = c.loop-i.i in
    let x = c.args.x in
    let next = c.halved-next.result in
    let rest = times (128 - (i + 1)) x next in
    elim c.if-x-i-eq1.branch [
      | then-x-i-eq1 w ↦ ap (λ (s : ℕ). bit_xor s rest) w.sum-is
          ∙ times_odd c.loop-i.sum i x c.loop-i.multiple next (omega arith) w.if-x-i-eq1.true c.halved-next.ensures ∙ c.loop-i.invariant
      | else-x-i-eq1 w ↦ ap (λ (s : ℕ). bit_xor s rest) w.sum-is
          ∙ times_even c.loop-i.sum i x c.loop-i.multiple next (omega arith) (omega (arith, w.if-x-i-eq1)) c.halved-next.ensures ∙ c.loop-i.invariant
    ]

pub returns-clause-value : goal.returns-clause-value
returns-clause-value c = sym (times_none c.loop-i.sum c.loop-i.i c.args.x c.loop-i.multiple (omega arith)) ∙ c.loop-i.invariant

pub returns-clause-first : goal.returns-clause-first
returns-clause-first c = is_first_additive

pub returns-clause-second : goal.returns-clause-second
returns-clause-second c = is_second_additive
