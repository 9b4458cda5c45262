use Rattle.std.proofs.Common.{◌∙◌}
use Rattle.ossl_calls.specs.Registry.{fixed_of}
use Rattle.ossl_worker.proofs.BackLaws.{back_takes_none, gave_kept, gave_legal, gave_made, may_give}
use Rattle.ossl_worker.proofs.labour.give_back.Goals as goal

pub make-requires-clause-allowed : goal.make-requires-clause-allowed
make-requires-clause-allowed g c κs within =
    let gives = c.in-Some.ensures.call in
    may_give c.loop-call.script c.loop-call.caller.own c.loop-call.invariant.made
    (fixed_of g.P.Provider.facts c.args.shared.now.origin) c.loop-call.caller.number c.in-Some.call gives.1.0
    c.loop-call.invariant.legal gives.1.1

pub make-requires-clause-memory : goal.make-requires-clause-memory
make-requires-clause-memory g c κs within s =
    let gives = c.in-Some.ensures.call in
    back_takes_none s c.loop-call.script c.in-Some.call gives.1.0 gives.1.1

pub loop-call-preserved-in-Some : goal.loop-call-preserved-in-Some
loop-call-preserved-in-Some g c =
    let gives = c.in-Some.ensures.call in
    let from = c.make.ensures.from in
    let still = c.loop-call.invariant.from in
    let answered = c.make.ensures.answered in
    record {
      from = (from.0, from.1 ∙ still.1, from.2 ∙ still.2);
      legal = gave_legal (fixed_of g.P.Provider.facts c.args.shared.now.origin) c.args.script.now c.loop-call.script
          c.give_back.new.self c.loop-call.caller c.make.new.caller c.in-Some.call answered.0 c.loop-call.invariant.made
          c.loop-call.invariant.script gives.0 answered.1;
      script = gave_kept (fixed_of g.P.Provider.facts c.args.shared.now.origin) c.args.script.now c.loop-call.script
          c.give_back.new.self c.loop-call.caller c.make.new.caller c.in-Some.call answered.0 c.loop-call.invariant.made
          c.loop-call.invariant.script gives.0 answered.1;
      made = gave_made (fixed_of g.P.Provider.facts c.args.shared.now.origin) c.args.script.now c.loop-call.script
          c.give_back.new.self c.loop-call.caller c.make.new.caller c.in-Some.call answered.0 c.loop-call.invariant.made
          c.loop-call.invariant.script gives.0 answered.1;
    }

pub loop-call-preserved-in-Some-2 : goal.loop-call-preserved-in-Some-2
loop-call-preserved-in-Some-2 g c =
    let gives = c.in-Some.ensures.call in
    let from = c.make.ensures.from in
    let still = c.loop-call.invariant.from in
    let answered = c.make.ensures.answered in
    record {
      from = (from.0, from.1 ∙ still.1, from.2 ∙ still.2);
      legal = gave_legal (fixed_of g.P.Provider.facts c.args.shared.now.origin) c.args.script.now c.loop-call.script
          c.give_back.new.self c.loop-call.caller c.make.new.caller c.in-Some.call answered.0 c.loop-call.invariant.made
          c.loop-call.invariant.script gives.0 answered.1;
      script = gave_kept (fixed_of g.P.Provider.facts c.args.shared.now.origin) c.args.script.now c.loop-call.script
          c.give_back.new.self c.loop-call.caller c.make.new.caller c.in-Some.call answered.0 c.loop-call.invariant.made
          c.loop-call.invariant.script gives.0 answered.1;
      made = gave_made (fixed_of g.P.Provider.facts c.args.shared.now.origin) c.args.script.now c.loop-call.script
          c.give_back.new.self c.loop-call.caller c.make.new.caller c.in-Some.call answered.0 c.loop-call.invariant.made
          c.loop-call.invariant.script gives.0 answered.1;
    }

pub loop-call-preserved-in-Some-3 : goal.loop-call-preserved-in-Some-3
loop-call-preserved-in-Some-3 g c =
    let gives = c.in-Some.ensures.call in
    let from = c.make.ensures.from in
    let still = c.loop-call.invariant.from in
    let answered = c.make.ensures.answered in
    record {
      from = (from.0, from.1 ∙ still.1, from.2 ∙ still.2);
      legal = gave_legal (fixed_of g.P.Provider.facts c.args.shared.now.origin) c.args.script.now c.loop-call.script
          c.give_back.new.self c.loop-call.caller c.make.new.caller c.in-Some.call answered.0 c.loop-call.invariant.made
          c.loop-call.invariant.script gives.0 answered.1;
      script = gave_kept (fixed_of g.P.Provider.facts c.args.shared.now.origin) c.args.script.now c.loop-call.script
          c.give_back.new.self c.loop-call.caller c.make.new.caller c.in-Some.call answered.0 c.loop-call.invariant.made
          c.loop-call.invariant.script gives.0 answered.1;
      made = gave_made (fixed_of g.P.Provider.facts c.args.shared.now.origin) c.args.script.now c.loop-call.script
          c.give_back.new.self c.loop-call.caller c.make.new.caller c.in-Some.call answered.0 c.loop-call.invariant.made
          c.loop-call.invariant.script gives.0 answered.1;
    }

pub loop-call-preserved : goal.loop-call-preserved
loop-call-preserved g c =
    let gives = c.in-Some.ensures.call in
    let from = c.make.ensures.from in
    let still = c.loop-call.invariant.from in
    let answered = c.make.ensures.answered in
    record {
      from = (from.0, from.1 ∙ still.1, from.2 ∙ still.2);
      legal = gave_legal (fixed_of g.P.Provider.facts c.args.shared.now.origin) c.args.script.now c.loop-call.script
          c.give_back.new.self c.loop-call.caller c.make.new.caller c.in-Some.call answered.0 c.loop-call.invariant.made
          c.loop-call.invariant.script gives.0 answered.1;
      script = gave_kept (fixed_of g.P.Provider.facts c.args.shared.now.origin) c.args.script.now c.loop-call.script
          c.give_back.new.self c.loop-call.caller c.make.new.caller c.in-Some.call answered.0 c.loop-call.invariant.made
          c.loop-call.invariant.script gives.0 answered.1;
      made = gave_made (fixed_of g.P.Provider.facts c.args.shared.now.origin) c.args.script.now c.loop-call.script
          c.give_back.new.self c.loop-call.caller c.make.new.caller c.in-Some.call answered.0 c.loop-call.invariant.made
          c.loop-call.invariant.script gives.0 answered.1;
    }
