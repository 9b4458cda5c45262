use Rattle.std.proofs.Common.{◌≡◌, ◌++◌, ◌<◌, List, ℕ, length, take, arith, length-append, sym, subst}
use Rattle.ossl_base.specs.Causes.{Rose}
use Rattle.ossl_base.proofs.Streams.{Appends-append, Consumes-append}
use Rattle.ossl_salted.specs.Flow.{Moves}
use Rattle.ossl_salted.proofs.Flows.{handed, Appends-nil, AppendsPrefix-append, AppendsPrefix-whole, Begins-append, Begins-longer, Begins-moved, Consumes-keeps, Consumes-nil, Going-none, IsCause-wider, Moves-append}
use Rattle.ossl_salted.proofs.stream.pump.Goals as goal

pub loop-count-init : goal.loop-count-init
loop-count-init g c = record {
  within = omega arith;
  going = Going-none c.args.mode.now c.args.out.now.items _ _ (Consumes-nil _) (Appends-nil _);
  later_source = omega arith;
  later_sink = omega arith;
}

pub returns-in_default-clause-halted : goal.returns-in_default-clause-halted
returns-in_default-clause-halted g c =
    let going = c.loop-count.invariant.going in
    record {
      text = going.text;
      written = going.written;
      consumes = Consumes-keeps _ _ _ _ going.consumes c.in_default.ensures.bytes;
      appends = AppendsPrefix-whole _ _ _ going.appends;
      begins = Begins-moved _ _ _ _ _ _ going.moves;
      cause = omega (arith, c.in_default.ensures.cause.failed, c.loop-count.invariant.later_source);
    }

pub returns-then-count-room-clause-halted : goal.returns-then-count-room-clause-halted
returns-then-count-room-clause-halted g c =
    let going = c.loop-count.invariant.going in
    let piece = take c.in-Ok.count c.read.new.buf in
    let size : length piece ≡ c.in-Ok.count = sym c.in-Ok.ensures.bound.1 in
    record {
      text = going.text ++ piece;
      written = going.written;
      consumes = Consumes-append _ _ _ _ _ going.consumes c.in-Ok.ensures.bytes.0;
      appends = AppendsPrefix-whole _ _ _ going.appends;
      begins = Begins-longer _ _ _ _ _ _ _ going.moves;
      cause = omega (arith, size, going.len, length-append going.text piece);
    }

pub returns-in_err-turn-clause-halted : goal.returns-in_err-turn-clause-halted
returns-in_err-turn-clause-halted g c =
    let going = c.loop-count.invariant.going in
    let end = c.in_err-turn.field-0.0 in
    let stuck = c.in_err-turn.ensures.stuck in
    let piece = take c.in-Ok.count c.read.new.buf in
    let faults = g.K.Sink.faults in
    let wider : Rose (faults c.loop-count.sink) (faults c.turn.new.sink) → Rose (faults c.args.sink.now) (faults c.turn.new.sink) =
    λ x. omega (arith, x, c.loop-count.invariant.later_sink) in
    rw (handed c.from_residual.result end c.from_residual.ensures)
    (record {
      text = going.text ++ piece;
      written = going.written ++ stuck.written;
      consumes = Consumes-append _ _ _ _ _ going.consumes c.in-Ok.ensures.bytes.0;
      appends = AppendsPrefix-append _ _ _ _ _ going.appends stuck.appends;
      begins = Begins-append _ _ _ _ _ _ _ _ going.moves stuck.begins;
      cause = IsCause-wider end ⊥ (Rose (faults c.loop-count.sink) (faults c.turn.new.sink)) ⊥ (Rose (g.S.Source.faults c.args.source.now) (g.S.Source.faults c.read.new.self))
          (Rose (faults c.args.sink.now) (faults c.turn.new.sink)) (c.args.room < length (going.text ++ piece)) (λ x. absurd x) wider (λ x. absurd x) c.in_err-turn.ensures.cause;
    })

pub loop-count-preserved : goal.loop-count-preserved
loop-count-preserved g c =
    let going = c.loop-count.invariant.going in
    let turned = c.in_ok-turn.ensures.turned in
    let piece = take c.in-Ok.count c.read.new.buf in
    let size : length piece ≡ c.in-Ok.count = sym c.in-Ok.ensures.bound.1 in
    let P : List ℕ → Type 0 = λ out. Moves c.args.mode.now c.args.out.now.items c.turn.new.mode out (going.text ++ piece) (going.written ++ turned.written) in
    record {
      within = omega arith;
      going = record {
        text = going.text ++ piece;
        written = going.written ++ turned.written;
        consumes = Consumes-append _ _ _ _ _ going.consumes c.in-Ok.ensures.bytes.0;
        len = omega (arith, size, going.len, length-append going.text piece);
        appends = Appends-append _ _ _ _ _ going.appends turned.appends;
        moves = subst P (sym c.in_ok-turn.ensures.empty) (Moves-append _ _ _ _ _ _ _ _ _ _ going.moves turned.moves);
      };
      later_source = omega (arith, c.in-Ok.ensures.cause.later);
      later_sink = omega (arith, c.turn.ensures.later);
    }
