use Rattle.std.proofs.Common.{◌≡◌, ap, sym, ◌∙◌, arith, rules}
use Rattle.std.proofs.lemmas.List.{take_all}
use Rattle.ossl_blocks.specs.Held.{held_of}
use Rattle.ossl_modes.specs.Modes.{block_out, unpadded}
use Rattle.ossl_modes.proofs.state.Mode.finish_unpadded.Goals as goal

pub returns-in-Some : goal.returns-in-Some
returns-in-Some g c =
    let b = c.args.self.now.mode in
    let block = c.block.result.now in
    let whole : block ≡ held_of c.args.self.now.buffer = sym (take_all _ block (omega (arith, c.requires, c.block.ensures.len))) ∙ c.block.ensures.value in
    let text = ap unpadded (sym (c.through-text.ensures ∙ ap (block_out (g.C.Block.enc b.cipher) (g.C.Block.dec b.cipher) b.kind b.decrypt b.value) whole)) in
    rw text (search rules)

pub returns-in-None : goal.returns-in-None
returns-in-None g c =
    let b = c.args.self.now.mode in
    let block = c.block.result.now in
    let whole : block ≡ held_of c.args.self.now.buffer = sym (take_all _ block (omega (arith, c.requires, c.block.ensures.len))) ∙ c.block.ensures.value in
    let text = ap unpadded (sym (c.through-text.ensures ∙ ap (block_out (g.C.Block.enc b.cipher) (g.C.Block.dec b.cipher) b.kind b.decrypt b.value) whole)) in
    rw text (search rules)
