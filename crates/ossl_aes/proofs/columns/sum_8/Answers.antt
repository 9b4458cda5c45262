use Rattle.std.proofs.Common.{◌+◌, bit_xor, ◌∙◌}
use Rattle.std.specs.Int.{w64, to_le_bytes}
use Rattle.ossl_aes.proofs.Words.{sum_8}
use Rattle.ossl_aes.proofs.columns.sum_8.Goals as goal

pub returns : goal.returns
returns c =
    c.to_le_bytes.ensures ∙ (λ i. to_le_bytes w64 (bit_xor (c.from_le_bytes-x.ensures i) (c.from_le_bytes-y.ensures i)))
    ∙ sum_8 _ _ _ _ _ _ _ _ _ _ _ _ _ _ _ _
    (c.type_inv.a c.args.i).fits (c.type_inv.a (c.args.i + 1)).fits (c.type_inv.a (c.args.i + 2)).fits (c.type_inv.a (c.args.i + 3)).fits (c.type_inv.a (c.args.i + 4)).fits (c.type_inv.a (c.args.i + 5)).fits (c.type_inv.a (c.args.i + 6)).fits (c.type_inv.a (c.args.i + 7)).fits
    (c.type_inv.b c.args.i).fits (c.type_inv.b (c.args.i + 1)).fits (c.type_inv.b (c.args.i + 2)).fits (c.type_inv.b (c.args.i + 3)).fits (c.type_inv.b (c.args.i + 4)).fits (c.type_inv.b (c.args.i + 5)).fits (c.type_inv.b (c.args.i + 6)).fits (c.type_inv.b (c.args.i + 7)).fits
