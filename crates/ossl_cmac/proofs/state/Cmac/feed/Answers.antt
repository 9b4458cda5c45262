use Rattle.std.proofs.Common.{sym, refl, ◌++◌, ◌∙◌}
use Rattle.ossl_blocks.specs.Held.{held_of}
use Rattle.ossl_cmac.specs.Cmac.{mac_from}
use Rattle.ossl_cmac.proofs.Steps.{chained_fed}
use Rattle.ossl_cmac.proofs.state.Cmac.feed.Goals as goal

pub returns : goal.returns
returns g c = λ rest.
    let m = c.args.self.now in
    let after = c.feed.ensures.2 in
    let held = held_of c.feed.new.self in
    chained_fed (g.C.Block.enc m.chain.cipher) m.chain.value _ c.args.bytes.now c.feed.ensures.0 held (held_of m.buffer) rest refl c.feed.ensures.1
    ∙ sym (λ i. mac_from (g.C.Block.enc (after i).cipher) (after i).value (held ++ rest))
