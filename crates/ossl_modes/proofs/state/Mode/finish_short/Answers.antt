use Rattle.std.proofs.Common.{ℕ, List, ◌-◌, ◌++◌, length, take, replicate, ap, ◌∙◌}
use Rattle.ossl_blocks.specs.Held.{held_of}
use Rattle.ossl_modes.proofs.Steps.{padded_short}
use Rattle.ossl_modes.proofs.state.Mode.finish_short.Goals as goal

pub returns : goal.returns
returns g c =
    let m = c.args.self.now in
    let b = m.mode in
    let held = held_of m.buffer in
    let last = c.padded_block-last.ensures
    ∙ (λ i. take (c.len.ensures.value i) c.block.result.now ++ replicate (16 - c.len.ensures.value i) (16 - c.len.ensures.value i))
    ∙ ap (λ (x : List ℕ). x ++ replicate (16 - length held) (16 - length held)) c.block.ensures.value in
    let e = padded_short (g.C.Block.enc b.cipher) (g.C.Block.dec b.cipher) b.kind b.decrypt b.value held c.padded_block-last.result c.through.result c.requires last c.through.ensures in
    rw (← e) c.append.ensures
