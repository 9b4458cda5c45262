use Rattle.std.proofs.Common.{◌∙◌, arith}
use Rattle.ossl_property.proofs.Numbers.{below_whole}
use Rattle.ossl_property.proofs.word.magnitude.Goals as goal

pub returns-in_err-shifted-clause-none : goal.returns-in_err-shifted-clause-none
returns-in_err-shifted-clause-none c = rw c.from_residual.ensures (λ m e.
    let whole = below_whole c.args.base c.loop-byte.number c.args.word.now c.loop-byte.byte-index m c.requires c.loop-byte-test.true (c.loop-byte.invariant ∙ e) in
    omega (arith, c.in_err-shifted.ensures))

pub returns-in_err-number-clause-none : goal.returns-in_err-number-clause-none
returns-in_err-number-clause-none c = rw c.from_residual-in_err-number.ensures (λ m e.
    let whole = below_whole c.args.base c.loop-byte.number c.args.word.now c.loop-byte.byte-index m c.requires c.loop-byte-test.true (c.loop-byte.invariant ∙ e) in
    omega (arith, c.in_err-number.ensures, c.in_ok-shifted.ensures))
