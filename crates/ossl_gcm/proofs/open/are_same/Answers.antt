use Rattle.std.proofs.Common.{ap, ◌∙◌}
use Rattle.std.specs.Int.{w128, from_be_bytes}
use Rattle.ossl_gcm.proofs.Numbers.{same_by_number}
use Rattle.ossl_gcm.proofs.open.are_same.Goals as goal

pub returns : goal.returns
returns c =
    same_by_number c.args.a.now c.args.b.now c.from_be_bytes.result c.from_be_bytes-2.result c.requires.a c.requires.b
    (λ i. (c.type_inv.a i).fits) (λ i. (c.type_inv.b i).fits)
    (c.from_be_bytes.ensures ∙ ap (from_be_bytes w128) c.copy_from_slice.ensures.after)
    (c.from_be_bytes-2.ensures ∙ ap (from_be_bytes w128) c.copy_from_slice-2.ensures.after)
