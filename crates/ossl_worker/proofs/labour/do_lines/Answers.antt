use Rattle.std.proofs.Common.{sym, ◌∙◌}
use Rattle.ossl_calls.specs.Registry.{fixed_of}
use Rattle.ossl_worker.proofs.WorkLaws.{goes_next, may_call, took_last, took_next}
use Rattle.ossl_worker.proofs.labour.do_lines.Goals as goal

pub perform-requires-clause-allowed : goal.perform-requires-clause-allowed
perform-requires-clause-allowed g c κs within =
    may_call (fixed_of g.P.Provider.facts c.args.shared.now.origin) c.args.script.now c.calls.script c.calls.caller.number
    c.calls.caller.own c.calls.invariant.work c.in-Call.line c.in-Call.call (sym c.in_ok-call.ensures.call ∙ c.in-Call.is)

pub returns-in_err-take_reply-in-Call-clause-made : goal.returns-in_err-take_reply-in-Call-clause-made
returns-in_err-take_reply-in-Call-clause-made g c =
    took_last (fixed_of g.P.Provider.facts c.args.shared.now.origin) c.args.script.now c.calls.script c.next_call.new.self
    c.calls.caller c.perform.new.self c.in_ok-call.field-0 c.in-Call.line c.in-Call.call c.in_ok-reply-in-Call.reply
    c.calls.invariant.work c.in_ok-call.ensures.call c.in-Call.is c.in_ok-call.ensures.told
    c.in_ok-reply-in-Call.ensures.answered c.take_reply.new.self c.in_err-take_reply-in-Call.ensures.refused

pub calls-preserved : goal.calls-preserved
calls-preserved g c =
    let from = c.perform.ensures.from in
    let still = c.calls.invariant.from in
    record {
      from = (from.0, from.1 ∙ still.1, from.2 ∙ still.2);
      goes = goes_next (fixed_of g.P.Provider.facts c.args.shared.now.origin) c.args.script.now c.calls.script
          c.next_call.new.self c.calls.caller c.perform.new.self c.in_ok-call.field-0 c.in-Call.line c.in-Call.call
          c.in_ok-reply-in-Call.reply c.calls.invariant.work c.in_ok-call.ensures.call c.in-Call.is c.in_ok-call.ensures.told
          c.in_ok-reply-in-Call.ensures.answered c.take_reply.new.self c.in_ok-take_reply-in-Call.ensures.taken
          c.calls.invariant.goes;
      work = took_next (fixed_of g.P.Provider.facts c.args.shared.now.origin) c.args.script.now c.calls.script
          c.next_call.new.self c.calls.caller c.perform.new.self c.in_ok-call.field-0 c.in-Call.line c.in-Call.call
          c.in_ok-reply-in-Call.reply c.calls.invariant.work c.in_ok-call.ensures.call c.in-Call.is c.in_ok-call.ensures.told
          c.in_ok-reply-in-Call.ensures.answered c.take_reply.new.self c.in_ok-take_reply-in-Call.ensures.taken;
    }
