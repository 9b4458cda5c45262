use Rattle.std.proofs.Common.{◌≡◌, ◌++◌, Ok, ap, sym, ◌∙◌, arith}
use Rattle.std.proofs.lemmas.List.{take_all}
use Rattle.ossl_blocks.specs.Held.{held_of}
use Rattle.ossl_modes.proofs.Steps.{padded_full}
use Rattle.ossl_modes.proofs.state.Mode.finish_full.Goals as goal

pub returns : goal.returns
returns g c =
    let m = c.args.self.now in
    let b = m.mode in
    let held = held_of m.buffer in
    let block = c.block.result.now in
    let whole : block ≡ held = sym (take_all _ block (omega (arith, c.requires, c.block.ensures.len))) ∙ c.block.ensures.value in
    let e = padded_full (g.C.Block.enc b.cipher) (g.C.Block.dec b.cipher) b.kind b.decrypt b.value held block c.requires whole in
    ap Ok (sym (c.take.ensures.1 ∙ (λ i. c.reserve.ensures.items i ++ e i)))
