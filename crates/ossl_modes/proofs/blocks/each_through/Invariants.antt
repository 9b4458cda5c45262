use Rattle.std.proofs.Common.{◌≡◌, ◌*◌, take, drop}
use Rattle.ossl_modes.specs.Steps.{stepped, value_by}
use Rattle.ossl_modes.proofs.blocks.each_through.Given as goal

abbrev pub invariant-block : goal.invariant-block
invariant-block g l =
    let out = g.S.Step.out (g.C.Block.enc l.cipher) (g.C.Block.dec l.cipher) in
    let next = g.S.Step.next (g.C.Block.enc l.cipher) in
    record {
      gives : take (16 * l.i) l.room ≡ stepped out next l.i l.fn.value l.fn.room;
      left : drop (16 * l.i) l.room ≡ drop (16 * l.i) l.fn.room;
      next : l.value ≡ value_by out next l.i l.fn.value l.fn.room;
    }
