use Rattle.std.proofs.Common.{Err, arith, refl, sym, ◌∙◌}
use Rattle.ossl_blocks.specs.Held.{held_of}
use Rattle.ossl_modes.specs.declared.kinds.FinishRefused.TheVariants.{WrongFinalBlock}
use Rattle.ossl_modes.proofs.Steps.{not_stream, checked_end, wrong_end}
use Rattle.ossl_modes.proofs.state.Mode.finish_in_place.Goals as goal

pub returns-then-count-eq16 : goal.returns-then-count-eq16
returns-then-count-eq16 g c =
    let m = c.args.self.now in
    let b = m.mode in
    let e = checked_end (g.C.Block.enc b.cipher) (g.C.Block.dec b.cipher) b.kind b.decrypt m.pad b.value (held_of m.buffer)
    (not_stream b.kind c.in-Ecb.is) c.if-self.true c.if-self-2.true (omega (arith, c.len-count.ensures.value, c.if-count-eq16.true)) in
    rw e c.finish_unpadded.ensures

pub returns-else-count-eq16 : goal.returns-else-count-eq16
returns-else-count-eq16 g c =
    let m = c.args.self.now in
    let b = m.mode in (
      wrong_end (g.C.Block.enc b.cipher) (g.C.Block.dec b.cipher) b.kind b.decrypt m.pad b.value (held_of m.buffer)
          (not_stream b.kind c.in-Ecb.is) c.if-self.true c.if-self-2.true (omega (arith, m.within)) (omega (arith, c.len-count.ensures.value, c.if-count-eq16.false))
          ∙ (λ i. Err (WrongFinalBlock (sym c.len-count.ensures.value i))),
      refl,
    )
