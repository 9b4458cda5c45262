use Rattle.std.proofs.Common.{◌-◌, length, arith}
use Rattle.ossl_blocks.proofs.Cuts.{are_whole}
use Rattle.ossl_blocks.proofs.state.Buffer.feed_apart.Goals as goal

pub take-requires-clause-rest : goal.take-requires-clause-rest
take-requires-clause-rest g c = are_whole g.row.SIZE (length c.args.bytes.now - g.row.KEPT) c.args.bytes.now (omega arith)
