use Rattle.std.proofs.Common.{◌∙◌}
use Rattle.ossl_aes.proofs.Lists.{block_slice}
use Rattle.ossl_ghash.proofs.Hashing.{hashed_none, hashed_more}
use Rattle.ossl_ghash.proofs.key.HashKey.hash_blocks.Goals as goal

pub block-init : goal.block-init
block-init c = hashed_none c.args.self.now c.args.value c.args.bytes.now

pub block-preserved : goal.block-preserved
block-preserved c =
    hashed_more c.args.self.now c.block.i c.args.value c.args.bytes.now _ _ _ _ c.block.invariant
    (c.copy_from_slice.ensures.after ∙ block_slice c.block.i c.args.bytes.now) c.from_be_bytes.ensures c.product-next.ensures
