use Rattle.std.proofs.Common.{ℕ, length, take, ap, ◌∙◌, arith}
use Rattle.ossl_blocks.specs.Held.{held_of}
use Rattle.ossl_modes.specs.Modes.{equations}
use Rattle.ossl_modes.proofs.Steps.{rest_is}
use Rattle.ossl_modes.proofs.state.Mode.finish_plain.Goals as goal

pub returns : goal.returns
returns g c =
    let m = c.args.self.now in
    let b = m.mode in
    let n = length (held_of m.buffer) in
    let e = ap (λ (k : ℕ). take k c.through-text.result) c.len.ensures.value
    ∙ rest_is (g.C.Block.enc b.cipher) (g.C.Block.dec b.cipher) b.kind b.decrypt b.value c.block.result.now c.through-text.result n
    (omega (arith, m.within)) c.block.ensures.len (omega arith) c.through-text.ensures c.requires
    ∙ ap (equations (g.C.Block.enc b.cipher) (g.C.Block.dec b.cipher) b.kind b.decrypt b.value) c.block.ensures.value in
    rw (← e) c.append.ensures
