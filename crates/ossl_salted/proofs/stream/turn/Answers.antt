use Rattle.std.proofs.Common.{List, ℕ, [], subst}
use Rattle.ossl_base.specs.Whole.{AppendsPrefix}
use Rattle.ossl_modes.specs.Run.{outcome_of, whole_blocks_of}
use Rattle.ossl_salted.proofs.Flows.{handed, AppendsPrefix-none, Begins-nothing}
use Rattle.ossl_salted.proofs.stream.turn.Goals as goal

pub returns-in-Err-clause-stuck : goal.returns-in-Err-clause-stuck
returns-in-Err-clause-stuck g c = record {
  written = [];
  appends = AppendsPrefix-none (g.K.Sink.taken c.args.sink.now) [];
  begins = Begins-nothing c.args.mode.now c.args.out.now.items c.args.piece.now;
}

pub returns-in_err-put-clause-stuck : goal.returns-in_err-put-clause-stuck
returns-in_err-put-clause-stuck g c =
    let P : List ℕ → Type 0 = λ t. AppendsPrefix (g.K.Sink.taken c.args.sink.now) (g.K.Sink.taken c.put.new.sink) t in
    let mode = c.feed.new.self in
    rw (handed c.from_residual.result c.in_err-put.field-0.0 c.from_residual.ensures)
    (record {
      written = c.feed.new.out.items;
      appends = subst P c.as_slice.ensures.value c.in_err-put.ensures.part;
      begins = record {
        text = λ rest. (outcome_of mode rest, c.in-Ok.ensures.text rest);
        whole = λ rest. (whole_blocks_of mode rest, c.in-Ok.ensures.unchecked rest);
      };
    })
