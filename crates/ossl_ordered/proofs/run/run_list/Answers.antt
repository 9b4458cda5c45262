use Rattle.std.proofs.Common.{◌≡◌, ◌∷◌, ◌+◌, ℕ, List, drop, get_or, ap, subst, ◌∙◌}
use Rattle.ossl_calls.specs.Registry.{fixed_of}
use Rattle.ossl_ordered.specs.Work.{Runs, RunsBy, TakesAt}
use Rattle.ossl_ordered.proofs.OrderLaws.{by_passed, by_taken, drop_number, runs_both}
use Rattle.ossl_ordered.proofs.ProgramLaws.{handed}
use Rattle.ossl_ordered.proofs.run.run_list.Goals as goal
use Rattle.ossl_ordered.proofs.run.run_list.Goals.{in-Some+in_ok-take_turn-in-Some, in-None}

pub returns-in_err-take_turn-in-Some-clause-err : goal.returns-in_err-take_turn-in-Some-clause-err
returns-in_err-take_turn-in-Some-clause-err g c =
    let fixed = fixed_of g.P.Provider.facts in
    let same : c.loop-caller.desk.contexts ≡ c.args.desk.now.contexts = ap (λ f. f.contexts) c.loop-caller.invariant.fixed in
    let more = subst (λ n. Runs n c.loop-caller.desk.entries c.take_turn.new.desk.entries c.loop-caller.players c.take_turn.new.players) same c.in_err-take_turn-in-Some.ensures.err in
    rw (handed c.from_residual.result c.in_err-take_turn-in-Some.field-0.0 c.from_residual.ensures)
    (runs_both c.args.desk.now.contexts c.args.desk.now.entries c.loop-caller.desk.entries c.take_turn.new.desk.entries c.args.players.now c.loop-caller.players c.take_turn.new.players
    c.args.list.now (drop c.loop-caller.caller-index c.args.list.now) c.loop-caller.invariant.turns more)

pub loop-caller-preserved : goal.loop-caller-preserved
loop-caller-preserved g c =
    let contexts = c.args.desk.now.contexts in
    let start = c.args.desk.now.entries in
    let first = c.args.players.now in
    let list = c.args.list.now in
    let i = c.loop-caller.caller-index in
    let caller = get_or list i 0 in
    let before = c.loop-caller.desk.entries in
    let old = c.loop-caller.players in
    let same : c.loop-caller.desk.contexts ≡ contexts = ap (λ f. f.contexts) c.loop-caller.invariant.fixed in
    let turns : RunsBy list (caller ∷ drop (i + 1) list) contexts start before first old =
    subst (λ (l : List ℕ). RunsBy list l contexts start before first old) (drop_number list i c.loop-caller-test.true) c.loop-caller.invariant.turns in
    elim c.match-ready_place.branch [
      | in-Some+in_ok-take_turn-in-Some w ↦
          let after = w.take_turn.new.desk.entries in
          let new = w.take_turn.new.players in
          let takes = subst (λ n. TakesAt w.in-Some.place n before after old new) same w.in_ok-take_turn-in-Some.ensures.ok in
          rw (w.desk-is, w.players-is) (record {
            turns = by_taken contexts start before after first old new list (drop (i + 1) list) caller w.in-Some.place w.in-Some.ensures.number w.in-Some.ensures.within w.in-Some.ensures.call c.loop-caller.invariant.ready turns takes;
            ready = w.in_ok-take_turn-in-Some.ensures.ready;
            legal = w.take_turn.ensures.legal;
            fixed = w.take_turn.ensures.fixed ∙ c.loop-caller.invariant.fixed;
          })
      | in-None w ↦
          rw (w.desk-is, w.players-is) (record {
            turns = by_passed contexts start before before first old old list (drop (i + 1) list) caller c.loop-caller.invariant.ready w.in-None.ensures.none turns;
            ready = c.loop-caller.invariant.ready;
            legal = c.loop-caller.invariant.legal;
            fixed = c.loop-caller.invariant.fixed;
          })
    ]
