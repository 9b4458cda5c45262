use Rattle.std.proofs.Common.{bit_xor, ap, arith, ◌∙◌}
use Rattle.ossl_aes.specs.Field.{inv_affine, mul}
use Rattle.ossl_aes.proofs.TableFacts.{inverse_at, product_at}
use Rattle.ossl_aes.proofs.field.field_inverse.Goals as goal

pub returns-clause-value : goal.returns-clause-value
returns-clause-value c =
    (λ i. bit_xor (bit_xor (bit_xor (c.rotate_left.ensures i) (c.rotate_left-2.ensures i)) (c.rotate_left-3.ensures i)) 5)
    ∙ ap inv_affine c.sub-image.ensures ∙ inverse_at c.args.byte (omega arith)

pub returns-clause-one : goal.returns-clause-one
returns-clause-one c =
    (λ i. mul c.args.byte (bit_xor (bit_xor (bit_xor (c.rotate_left.ensures i) (c.rotate_left-2.ensures i)) (c.rotate_left-3.ensures i)) 5))
    ∙ ap (mul c.args.byte) (ap inv_affine c.sub-image.ensures ∙ inverse_at c.args.byte (omega arith))
    ∙ product_at c.args.byte (omega arith) (omega arith)
