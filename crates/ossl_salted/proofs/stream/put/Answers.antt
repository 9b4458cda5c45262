use Rattle.std.proofs.Common.{◌-◌, List, ℕ, take, drop, sym, subst, arith}
use Rattle.std.specs.Io.KnownBytes.{Appends}
use Rattle.ossl_base.specs.Whole.{AppendsPrefix}
use Rattle.ossl_base.proofs.Streams.{Appends-append}
use Rattle.ossl_salted.proofs.Flows.{AppendsPrefix-append, AppendsPrefix-more, in_three, take_further}
use Rattle.ossl_salted.proofs.stream.put.Goals as goal

pub returns-in-Err-clause-part : goal.returns-in-Err-clause-part
returns-in-Err-clause-part g c =
    let sent = c.loop-sent.sent in
    let bytes = c.args.bytes.now in
    let n = c.min-end.result - sent in
    let P : List ℕ → Type 0 = λ t. AppendsPrefix (g.K.Sink.taken c.args.sink.now) (g.K.Sink.taken c.write_all.new.sink) t in
    subst P (in_three sent n bytes)
    (AppendsPrefix-more _ _ _ (drop n (drop sent bytes))
    (AppendsPrefix-append _ _ _ (take sent bytes) (take n (drop sent bytes)) c.loop-sent.invariant.sent c.in-Err.ensures.prefix))

pub loop-sent-preserved : goal.loop-sent-preserved
loop-sent-preserved g c =
    let sent = c.loop-sent.sent in
    let end = c.min-end.result in
    let bytes = c.args.bytes.now in
    let P : List ℕ → Type 0 = λ t. Appends (g.K.Sink.taken c.args.sink.now) (g.K.Sink.taken c.write_all.new.sink) t in
    record {
      within = omega arith;
      sent = subst P (sym (take_further sent end bytes (omega arith)))
          (Appends-append _ _ _ (take sent bytes) (take (end - sent) (drop sent bytes)) c.loop-sent.invariant.sent c.in-Ok.ensures.all);
      later = omega (arith, c.in-Ok.ensures.cause.later);
    }
