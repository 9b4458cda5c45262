use Rattle.std.proofs.Common.{◌+◌, ◌*◌, ◌^◌, bit_xor, arith, ◌∙◌}
use Rattle.ossl_ghash.specs.Ghash.{product}
use Rattle.ossl_gcm.proofs.Tags.{tag_ends}
use Rattle.ossl_gcm.proofs.state.Stream.tag.Goals as goal

pub returns : goal.returns
returns g c =
    let s = c.args.self.now in
    tag_ends s.key s.mask s.aad_bits s.hash c.args.len _ _ c.args.rest.now _ _ (omega arith) c.hash_text-hash.ensures
    (c.product.ensures ∙ (λ i. product (bit_xor c.hash_text-hash.result (c.from.ensures i * 2 ^ 64 + c.from-2.ensures i)) s.key))
    c.number_block.ensures c.xor_blocks.ensures
