use Rattle.std.proofs.Common.{◌+◌, ◌-◌, ◌*◌, arith}
use Rattle.ossl_digests.proofs.Blocks.{registers-none, registers-more}
use Rattle.ossl_digests.proofs.md4.compress_all.Goals as goal

pub block-init : goal.block-init
block-init c = registers-none c.args.registers.now c.args.bytes.now

pub block-preserved : goal.block-preserved
block-preserved c =
    let i = c.block.i in
    registers-more i (64 * i + 64 - 64 * i) c.args.registers.now c.args.bytes.now c.block.registers _ c.block.invariant (omega arith) c.compress.ensures
