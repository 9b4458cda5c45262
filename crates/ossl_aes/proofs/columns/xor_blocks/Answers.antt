use Rattle.std.proofs.Common.{◌∷◌, [], get_or, arith, ◌∙◌}
use Rattle.ossl_aes.proofs.Lists.{sum_by_bytes}
use Rattle.ossl_aes.proofs.columns.xor_blocks.Goals as goal

pub returns : goal.returns
returns c =
    (λ i. get_or (c.sum_4.ensures i) 0 0 ∷ get_or (c.sum_4.ensures i) 1 0 ∷ get_or (c.sum_4.ensures i) 2 0 ∷ get_or (c.sum_4.ensures i) 3 0 ∷ get_or (c.sum_4-2.ensures i) 0 0 ∷ get_or (c.sum_4-2.ensures i) 1 0 ∷ get_or (c.sum_4-2.ensures i) 2 0 ∷ get_or (c.sum_4-2.ensures i) 3 0 ∷ get_or (c.sum_8.ensures i) 0 0 ∷ get_or (c.sum_8.ensures i) 1 0 ∷ get_or (c.sum_8.ensures i) 2 0 ∷ get_or (c.sum_8.ensures i) 3 0 ∷ get_or (c.sum_8.ensures i) 4 0 ∷ get_or (c.sum_8.ensures i) 5 0 ∷ get_or (c.sum_8.ensures i) 6 0 ∷ get_or (c.sum_8.ensures i) 7 0 ∷ [])
    ∙ sum_by_bytes c.args.a c.args.b (omega arith) (omega arith)
