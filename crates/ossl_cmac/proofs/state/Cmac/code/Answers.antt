use Rattle.std.proofs.Common.{◌≡◌, ℕ, List, ◌-◌, ◌∷◌, ◌++◌, length, take, replicate, arith, ap, sym, ◌∙◌}
use Rattle.std.proofs.lemmas.List.{take_all}
use Rattle.ossl_blocks.specs.Held.{held_of}
use Rattle.ossl_cmac.specs.Cmac.{next_subkey}
use Rattle.ossl_cmac.proofs.Steps.{ends_whole, ends_short}
use Rattle.ossl_cmac.proofs.state.Cmac.code.Goals as goal
use Rattle.ossl_cmac.proofs.state.Cmac.code.Goals.{then-count-eq16, else-count-eq16}

pub returns : goal.returns
returns g c =
    let m = c.args.self.now in
    let held = held_of m.buffer in
    let block = c.block-held.result.now in
    let e = g.C.Block.enc m.chain.cipher in
    let first = c.next_subkey-subkey_1.ensures ∙ ap next_subkey c.encrypt.ensures in
    elim c.if-count-eq16.branch [
      | then-count-eq16 w ↦
          let whole : block ≡ held = sym (take_all _ block (omega (arith, w.if-count-eq16, c.len-count.ensures.value, c.block-held.ensures.len))) ∙ c.block-held.ensures.value in
          ends_whole e m.chain.value held block _ _ _ _ (omega (arith, w.if-count-eq16, c.len-count.ensures.value)) whole first
          (w.last-is ∙ w.xor_blocks-last.ensures) c.xor_blocks.ensures c.encrypt-2.ensures
      | else-count-eq16 w ↦
          let last = w.completed_block.ensures ∙ (λ i. take (c.len-count.ensures.value i) block ++ 0x80 ∷ replicate (15 - c.len-count.ensures.value i) 0)
          ∙ ap (λ (x : List ℕ). x ++ 0x80 ∷ replicate (15 - length held) 0) c.block-held.ensures.value in
          ends_short e m.chain.value held w.completed_block.result _ _ _ _ (omega (arith, w.if-count-eq16, m.within, c.len-count.ensures.value)) last
          (w.next_subkey.ensures ∙ ap next_subkey first)
          (w.last-is ∙ w.xor_blocks-last-else-count-eq16.ensures) c.xor_blocks.ensures c.encrypt-2.ensures
    ]
