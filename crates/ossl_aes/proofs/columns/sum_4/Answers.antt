use Rattle.std.proofs.Common.{◌+◌, bit_xor, ◌∙◌}
use Rattle.std.specs.Int.{w32, to_le_bytes}
use Rattle.ossl_aes.proofs.Words.{sum_4}
use Rattle.ossl_aes.proofs.columns.sum_4.Goals as goal

pub returns : goal.returns
returns c =
    c.to_le_bytes.ensures ∙ (λ i. to_le_bytes w32 (bit_xor (c.from_le_bytes-x.ensures i) (c.from_le_bytes-y.ensures i)))
    ∙ sum_4 _ _ _ _ _ _ _ _
    (c.type_inv.a c.args.i).fits (c.type_inv.a (c.args.i + 1)).fits (c.type_inv.a (c.args.i + 2)).fits (c.type_inv.a (c.args.i + 3)).fits
    (c.type_inv.b c.args.i).fits (c.type_inv.b (c.args.i + 1)).fits (c.type_inv.b (c.args.i + 2)).fits (c.type_inv.b (c.args.i + 3)).fits
