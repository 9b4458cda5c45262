use Rattle.std.proofs.Common.{◌≡◌, ℕ, Some, ap, sym, ◌∙◌, subst}
use Rattle.ossl_turn.specs.History.{entry_of}
use Rattle.ossl_turn.specs.Passes.{PassFacts, Answers, facts_of}
use Rattle.ossl_turn.proofs.Calls.{has_answer, has_no_answer, answers}
use Rattle.ossl_turn.proofs.shared.Shared.call.Goals as goal

pub serve-requires-clause-answer : goal.serve-requires-clause-answer
serve-requires-clause-answer g c κs within = let o = g.O.Object in let free = c.pass.invariant in
    has_answer o.history o.fixed o.follows (λ x. o.needs_no_memory x c.pass.inside.number c.args.call.now → _) c.pass.inside.seat.me.0 c.take_turn.new.seat.me c.make_call.new.seat.me c.pass.inside.number c.args.call.now c.in-Ok.reply c.make_call.result c.in-Ok.is
    free.1 free.4 c.take_turn.ensures.turn c.make_call.ensures.table.2 c.make_call.ensures.made

pub serve_none-requires-clause-no_answer : goal.serve_none-requires-clause-no_answer
serve_none-requires-clause-no_answer g c κs within = let o = g.O.Object in let free = c.pass.invariant in
    has_no_answer o.history o.fixed o.follows (λ x. o.needs_no_memory x c.pass.inside.number c.args.call.now → _) c.pass.inside.seat.me.0 c.take_turn.new.seat.me c.make_call.new.seat.me c.pass.inside.number c.args.call.now c.in-Err.field-0 c.make_call.result c.in-Err.is
    free.1 c.take_turn.ensures.turn c.make_call.ensures.table.2 c.make_call.ensures.made

pub returns-in-Ok-clause-answered : goal.returns-in-Ok-clause-answered
returns-in-Ok-clause-answered g c = let o = g.O.Object in let free = c.pass.invariant in let inside = c.pass.inside in
    let number : inside.number ≡ c.args.pass.now.number = sym free.4 ∙ ap (λ (z : PassFacts g.row.O-Call.Denot g.row.O-Reply.Denot g.row.O.Denot). z.number) c.pass.view_is in
    let fixed : inside.seat.me.0.origin ≡ Some c.args.self.now.origin = ap (λ (z : PassFacts g.row.O-Call.Denot g.row.O-Reply.Denot g.row.O.Denot). z.origin) c.pass.view_is ∙ c.requires.pass.1 in
    let whole = answers o.history o.fixed o.follows (λ x. o.needs_no_memory x inside.number c.args.call.now → _) inside.seat.table_id c.serve.new.seat.table_id inside.seat.me.0 c.take_turn.new.seat.me c.make_call.new.seat.me c.serve.new.seat.me
    inside.number c.args.call.now c.in-Ok.reply c.make_call.result c.args.self.now.origin c.in-Ok.is free.1 free.4 fixed c.take_turn.ensures.turn c.make_call.ensures.table.2 c.make_call.ensures.made c.serve.ensures.served
    (c.serve.ensures.table.0 ∙ (c.make_call.ensures.table.0 ∙ c.take_turn.ensures.table.0)) in
    subst (λ (z : PassFacts g.row.O-Call.Denot g.row.O-Reply.Denot g.row.O.Denot × ℕ). Answers (o.follows (o.fixed c.args.self.now.origin)) z.0 (facts_of c.serve.new.seat.table_id c.serve.new.seat.me) (entry_of z.1 c.args.call.now c.in-Ok.reply))
    (λ i. (c.pass.view_is i, number i)) whole
