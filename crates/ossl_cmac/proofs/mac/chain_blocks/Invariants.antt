use Rattle.std.proofs.Common.{◌≡◌, length}
use Rattle.ossl_cmac.specs.Cmac.{chained}
use Rattle.ossl_cmac.proofs.mac.chain_blocks.Given as goal

abbrev pub invariant-block : goal.invariant-block
invariant-block g l = (length l.value ≡ 16) × (l.value ≡ chained (g.C.Block.enc l.cipher) l.i l.fn.value l.bytes)
