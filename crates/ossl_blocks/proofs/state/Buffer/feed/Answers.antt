use Rattle.std.proofs.Common.{◌≡◌, ◌+◌, ◌<◌, [], ◌++◌, length, length-append, sym, ap, ◌∙◌, arith}
use Rattle.std.proofs.lemmas.List.{length-take-le}
use Rattle.ossl_blocks.specs.Held.{held_of}
use Rattle.ossl_blocks.proofs.Cuts.{none_whole}
use Rattle.ossl_blocks.proofs.state.Buffer.feed.Goals as goal

pub returns-then-bytes-self : goal.returns-then-bytes-self
returns-then-bytes-self g c =
    let s = c.args.self.now in
    let bytes = c.args.bytes.now in
    let held = length-take-le s.count s.held (omega arith) in
    let short : length (held_of s ++ bytes) < g.row.SIZE + g.row.KEPT = omega (arith, length-append (held_of s) bytes, held, c.if-bytes-self.true) in (
      [],
      record { joined = sym c.hold.ensures; len = sym (none_whole g.row.SIZE g.row.KEPT _ short (omega (arith, s.size))) },
      g.met.T.BlockTaker.nothing c.args.taker.now c.args.out.now,
    )
