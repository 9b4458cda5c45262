use Rattle.std.proofs.Common.{◌∙◌, rules}
use Rattle.ossl_aes.proofs.Lists.{block_slice}
use Rattle.ossl_cmac.proofs.Steps.{chained_none, chained_more}
use Rattle.ossl_cmac.proofs.mac.chain_blocks.Goals as goal

pub block-init : goal.block-init
block-init g c = (search rules, chained_none (g.C.Block.enc c.args.cipher.now) c.args.value.now c.args.bytes.now)

pub block-preserved : goal.block-preserved
block-preserved g c = (
  search rules,
  chained_more (g.C.Block.enc c.args.cipher.now) c.block.i c.args.value.now c.args.bytes.now _ _ _ _ c.block.invariant.1
      (c.copy_from_slice.ensures.after ∙ block_slice c.block.i c.args.bytes.now) c.xor_blocks.ensures c.encrypt-next.ensures,
)
