use Rattle.std.proofs.Common.{◌+◌, ◌/◌, take, sym, subst, arith}
use Rattle.ossl_salted.specs.declared.job.KeySize.{KeySize}
use Rattle.ossl_salted.specs.Course.{Runs}
use Rattle.ossl_salted.specs.Ends.{status_of}
use Rattle.ossl_salted.specs.Flow.{aes_due}
use Rattle.ossl_salted.specs.Outside.{reading, writing}
use Rattle.ossl_salted.specs.Words.{bits_in}
use Rattle.ossl_salted.proofs.Courses.{runs_keyed}
use Rattle.ossl_salted.proofs.cipher.through.Goals as goal

pub returns-in-Bits128 : goal.returns-in-Bits128
returns-in-Bits128 g c =
    let bytes = c.args.material.now in
    let way = c.args.way in
    let call = c.through_aes in
    let P : KeySize → Type 0 = λ size. Runs (aes_due (bits_in size) (take (bits_in size / 8 + 16) bytes) way.decrypt way.head.items way.room) (status_of call.result)
    (reading g.S.Source.left g.S.Source.faults c.args.source.now call.new.source) (writing g.K.Sink.taken g.K.Sink.faults c.args.sink.now call.new.sink) in
    subst P (sym c.in-Bits128.is)
    (runs_keyed 128 bytes c.iv_at.result way.decrypt way.head.items way.room _ _ _ (omega (arith, c.told-material)) c.iv_at.ensures call.ensures)

pub returns-in-Bits192 : goal.returns-in-Bits192
returns-in-Bits192 g c =
    let bytes = c.args.material.now in
    let way = c.args.way in
    let call = c.through_aes-in-Bits192 in
    let P : KeySize → Type 0 = λ size. Runs (aes_due (bits_in size) (take (bits_in size / 8 + 16) bytes) way.decrypt way.head.items way.room) (status_of call.result)
    (reading g.S.Source.left g.S.Source.faults c.args.source.now call.new.source) (writing g.K.Sink.taken g.K.Sink.faults c.args.sink.now call.new.sink) in
    subst P (sym c.in-Bits192.is)
    (runs_keyed 192 bytes c.iv_at-in-Bits192.result way.decrypt way.head.items way.room _ _ _ (omega (arith, c.told-material)) c.iv_at-in-Bits192.ensures call.ensures)

pub returns-in-Bits256 : goal.returns-in-Bits256
returns-in-Bits256 g c =
    let bytes = c.args.material.now in
    let way = c.args.way in
    let call = c.through_aes-in-Bits256 in
    let P : KeySize → Type 0 = λ size. Runs (aes_due (bits_in size) (take (bits_in size / 8 + 16) bytes) way.decrypt way.head.items way.room) (status_of call.result)
    (reading g.S.Source.left g.S.Source.faults c.args.source.now call.new.source) (writing g.K.Sink.taken g.K.Sink.faults c.args.sink.now call.new.sink) in
    subst P (sym c.in-Bits256.is)
    (runs_keyed 256 bytes c.iv_at-in-Bits256.result way.decrypt way.head.items way.room _ _ _ (omega (arith, c.told-material)) c.iv_at-in-Bits256.ensures call.ensures)
