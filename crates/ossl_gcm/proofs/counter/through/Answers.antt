use Rattle.std.proofs.Common.{◌*◌, ◌/◌, length, refl, arith}
use Rattle.std.proofs.lemmas.List.{length-take-le}
use Rattle.ossl_gcm.proofs.Counting.{through_whole, through_parts}
use Rattle.ossl_gcm.proofs.counter.through.Goals as goal

pub returns-then-whole-text : goal.returns-then-whole-text
returns-then-whole-text g c =
    let text = c.args.text.now in
    let e = g.C.Block.enc c.args.cipher.now in
    through_parts e c.args.counter text c.each_through.new.room c.each_through.new.value _ c.through_rest.new.rest (length text / 16 * 16) refl (omega arith)
    (omega (arith, c.each_through.auto.room, length-take-le (length text / 16 * 16) text (omega arith))) c.each_through.ensures.gives c.each_through.ensures.next refl c.through_rest.ensures

pub returns-else-whole-text : goal.returns-else-whole-text
returns-else-whole-text g c =
    through_whole (g.C.Block.enc c.args.cipher.now) c.args.counter c.args.text.now c.each_through.new.room (length c.args.text.now / 16 * 16) refl (omega arith)
    c.each_through.ensures.gives
