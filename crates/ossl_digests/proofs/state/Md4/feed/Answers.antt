use Rattle.std.proofs.Common.{refl, length, length-append, ap, arith}
use Rattle.ossl_blocks.specs.Held.{held_of}
use Rattle.ossl_digests.proofs.Blocks.{digest_from-fed}
use Rattle.ossl_digests.proofs.state.Md4.feed.Goals as goal

pub returns-clause-gives : goal.returns-clause-gives
returns-clause-gives c = λ p.
    let s = c.args.self.now in
    digest_from-fed s.registers.0 _ c.args.bytes.now c.feed.ensures.0 (held_of c.feed.new.self) (held_of s.buffer) p _ refl c.feed.ensures.1 c.feed.ensures.2
