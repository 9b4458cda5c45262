use Rattle.std.proofs.Common.{◌≡◌, ◌≤◌, ◌+◌, ◌-◌, ◌*◌, ◌++◌, ◌∙◌, ℕ, List, length, take, drop, ap, sym, refl, arith}
use Rattle.std.proofs.lemmas.List.{drop-drop}
use Rattle.std.proofs.lemmas.Slice.{take-put_mid, drop-put_mid}
use Rattle.ossl_aes.proofs.Lists.{block_slice}
use Rattle.ossl_modes.proofs.Turns.{stepped_none, value_none, stepped_more, value_more}
use Rattle.ossl_modes.proofs.blocks.each_through.Goals as goal

pub block-init : goal.block-init
block-init g c =
    let out = g.S.Step.out (g.C.Block.enc c.args.cipher.now) (g.C.Block.dec c.args.cipher.now) in
    let next = g.S.Step.next (g.C.Block.enc c.args.cipher.now) in
    record {
      gives = stepped_none out next c.args.value.now c.args.room.now;
      left = refl;
      next = value_none out next c.args.value.now c.args.room.now;
    }

-- what is left after one block more
next_left : (i : ℕ) (xs : List ℕ) → drop 16 (drop (16 * i) xs) ≡ drop (16 * (i + 1)) xs
next_left i xs = drop-drop 16 (16 * i) xs ∙ ap (λ (k : ℕ). drop k xs) (omega arith)

pub block-preserved : goal.block-preserved
block-preserved g c =
    let out = g.S.Step.out (g.C.Block.enc c.args.cipher.now) (g.C.Block.dec c.args.cipher.now) in
    let next = g.S.Step.next (g.C.Block.enc c.args.cipher.now) in
    let v = c.args.value.now in
    let bytes = c.args.room.now in
    let i = c.block.i in
    let room = c.block.room in
    let text = c.step_in_place.new.place in
    let block = block_slice i room ∙ ap (take 16) c.block.invariant.left in
    let within : 16 * i ≤ length room = omega arith in
    let long : length text ≡ 16 * i + 16 - 16 * i = omega arith in
    record {
      gives = stepped_more out next i v bytes _ _ _ _ _ c.block.invariant.gives c.block.invariant.next block refl
          (take-put_mid (16 * i) (16 * i + 16 - 16 * i) room text (16 * (i + 1)) (omega arith) within
          ∙ ap (λ (x : List ℕ). take (16 * i) room ++ x) c.step_in_place.ensures.gives);
      left = drop-put_mid (16 * i) (16 * i + 16 - 16 * i) room text (16 * (i + 1)) (omega arith) within long
          ∙ sym (next_left i room) ∙ ap (drop 16) c.block.invariant.left ∙ next_left i bytes;
      next = value_more out next i v bytes _ _ _ c.block.invariant.next block c.step_in_place.ensures.next;
    }
