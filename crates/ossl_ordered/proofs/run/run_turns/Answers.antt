use Rattle.std.proofs.Common.{◌≡◌, [], ap, subst}
use Rattle.ossl_ordered.specs.Work.{Runs, RunsInTurn}
use Rattle.ossl_ordered.proofs.OrderLaws.{by_both, runs_both}
use Rattle.ossl_ordered.proofs.TakeLaws.{on_err, on_ok}
use Rattle.ossl_ordered.proofs.run.run_turns.Goals as goal

pub returns-clause-ok : goal.returns-clause-ok
returns-clause-ok g c =
    let start = c.args.desk.now in
    let same : c.run_list.new.desk.contexts ≡ start.contexts = ap (λ f. f.contexts) c.run_list.ensures.fixed in
    on_ok c.run_rest.result _ _
    (λ rest. by_both start.contexts start.entries c.run_list.new.desk.entries c.run_rest.new.desk.entries c.args.players.now c.run_list.new.players c.run_rest.new.players c.args.list.now
    c.in_ok-run_list.ensures.ok (subst (λ n. RunsInTurn [] n c.run_list.new.desk.entries c.run_rest.new.desk.entries c.run_list.new.players c.run_rest.new.players) same rest))
    c.run_rest.ensures.ok

pub returns-clause-err : goal.returns-clause-err
returns-clause-err g c =
    let start = c.args.desk.now in
    let same : c.run_list.new.desk.contexts ≡ start.contexts = ap (λ f. f.contexts) c.run_list.ensures.fixed in
    on_err c.run_rest.result _ _
    (λ more. runs_both start.contexts start.entries c.run_list.new.desk.entries c.run_rest.new.desk.entries c.args.players.now c.run_list.new.players c.run_rest.new.players c.args.list.now []
    c.in_ok-run_list.ensures.ok (subst (λ n. Runs n c.run_list.new.desk.entries c.run_rest.new.desk.entries c.run_list.new.players c.run_rest.new.players) same more))
    c.run_rest.ensures.err
