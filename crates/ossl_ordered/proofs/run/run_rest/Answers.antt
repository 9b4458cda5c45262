use Rattle.std.proofs.Common.{◌≡◌, ◌+◌, ◌-◌, [], sym, ap, subst, ◌∙◌, arith}
use Rattle.ossl_ordered.specs.Work.{Runs, TakesAt, Working}
use Rattle.ossl_ordered.proofs.OrderLaws.{all_ended, by_end, by_least, least_place, numbers_of, runs_both, working_after}
use Rattle.ossl_ordered.proofs.ProgramLaws.{handed}
use Rattle.ossl_ordered.proofs.run.run_rest.Goals as goal

pub returns-in-None-clause-ok : goal.returns-in-None-clause-ok
returns-in-None-clause-ok g c =
    by_end c.args.desk.now.contexts c.args.desk.now.entries c.turns.desk.entries c.turns.desk.entries c.args.players.now c.turns.players c.turns.players [] c.turns.invariant.ready
    (sym c.least_turn.ensures.turn ∙ c.in-None.is) c.turns.invariant.turns

pub returns-in-None-clause-ended : goal.returns-in-None-clause-ended
returns-in-None-clause-ended g c = all_ended c.turns.players c.turns.invariant.ready (sym c.least_turn.ensures.turn ∙ c.in-None.is)

pub overflow_sub-turn : goal.overflow_sub-turn
overflow_sub-turn g c =
    let start = c.args.desk.now in
    let working = working_after start.contexts start.entries c.turns.desk.entries c.turns.desk.entries c.args.players.now c.turns.players c.turns.players c.requires.working [] [] c.turns.invariant.turns in
    let there = least_place c.turns.players c.in-Some.turn c.turns.invariant.ready (numbers_of start.contexts c.turns.desk.entries c.turns.players working) (sym c.least_turn.ensures.turn ∙ c.in-Some.is) in
    let number : c.in-Some.turn.caller ≡ c.in-Some.turn.caller - 1 + 1 = there.2 in
    omega (arith, number)

pub take_turn-requires-clause-place : goal.take_turn-requires-clause-place
take_turn-requires-clause-place g c =
    let start = c.args.desk.now in
    let working = working_after start.contexts start.entries c.turns.desk.entries c.turns.desk.entries c.args.players.now c.turns.players c.turns.players c.requires.working [] [] c.turns.invariant.turns in
    (least_place c.turns.players c.in-Some.turn c.turns.invariant.ready (numbers_of start.contexts c.turns.desk.entries c.turns.players working) (sym c.least_turn.ensures.turn ∙ c.in-Some.is)).0

pub take_turn-requires-clause-turn : goal.take_turn-requires-clause-turn
take_turn-requires-clause-turn g c =
    let start = c.args.desk.now in
    let working = working_after start.contexts start.entries c.turns.desk.entries c.turns.desk.entries c.args.players.now c.turns.players c.turns.players c.requires.working [] [] c.turns.invariant.turns in
    (least_place c.turns.players c.in-Some.turn c.turns.invariant.ready (numbers_of start.contexts c.turns.desk.entries c.turns.players working) (sym c.least_turn.ensures.turn ∙ c.in-Some.is)).1

pub take_turn-requires-clause-working : goal.take_turn-requires-clause-working
take_turn-requires-clause-working g c =
    let start = c.args.desk.now in
    let same : c.turns.desk.contexts ≡ start.contexts = ap (λ f. f.contexts) c.turns.invariant.fixed in
    subst (λ n. Working n c.turns.desk.entries c.turns.players) (sym same)
    (working_after start.contexts start.entries c.turns.desk.entries c.turns.desk.entries c.args.players.now c.turns.players c.turns.players c.requires.working [] [] c.turns.invariant.turns)

pub returns-in_err-take_turn-in-Some-clause-err : goal.returns-in_err-take_turn-in-Some-clause-err
returns-in_err-take_turn-in-Some-clause-err g c =
    let start = c.args.desk.now in
    let same : c.turns.desk.contexts ≡ start.contexts = ap (λ f. f.contexts) c.turns.invariant.fixed in
    let more = subst (λ n. Runs n c.turns.desk.entries c.take_turn.new.desk.entries c.turns.players c.take_turn.new.players) same c.in_err-take_turn-in-Some.ensures.err in
    rw (handed c.from_residual.result c.in_err-take_turn-in-Some.field-0.0 c.from_residual.ensures)
    (runs_both start.contexts start.entries c.turns.desk.entries c.take_turn.new.desk.entries c.args.players.now c.turns.players c.take_turn.new.players [] [] c.turns.invariant.turns more)

pub turns-preserved : goal.turns-preserved
turns-preserved g c =
    let start = c.args.desk.now in
    let t = c.in-Some.turn in
    let same : c.turns.desk.contexts ≡ start.contexts = ap (λ f. f.contexts) c.turns.invariant.fixed in
    let working = working_after start.contexts start.entries c.turns.desk.entries c.turns.desk.entries c.args.players.now c.turns.players c.turns.players c.requires.working [] [] c.turns.invariant.turns in
    let is = sym c.least_turn.ensures.turn ∙ c.in-Some.is in
    let there = least_place c.turns.players t c.turns.invariant.ready (numbers_of start.contexts c.turns.desk.entries c.turns.players working) is in
    let takes = subst (λ n. TakesAt (t.caller - 1) n c.turns.desk.entries c.take_turn.new.desk.entries c.turns.players c.take_turn.new.players) same c.in_ok-take_turn-in-Some.ensures.ok in
    record {
      turns = by_least start.contexts start.entries c.turns.desk.entries c.take_turn.new.desk.entries c.args.players.now c.turns.players c.take_turn.new.players
          [] (t.caller - 1) t there.2 there.0 there.1 c.turns.invariant.ready is c.turns.invariant.turns takes;
      ready = c.in_ok-take_turn-in-Some.ensures.ready;
      legal = c.take_turn.ensures.legal;
      fixed = c.take_turn.ensures.fixed ∙ c.turns.invariant.fixed;
    }
