use Rattle.std.proofs.Common.{sym, subst, ◌≡◌, ◌∙◌, ◌+◌, ◌*◌, ℕ, ap, List, [], map, length, None, arith}
use Rattle.std.specs.Prelude.{option_map}
use Rattle.ossl_property.specs.declared.clause.Clause.{Clause}
use Rattle.ossl_store.specs.declared.choice.Scored.{Scored}
use Rattle.ossl_store.specs.Best.{best_from, best_offered, candidates}
use Rattle.ossl_store.specs.Greatest.{IsBest}
use Rattle.ossl_store.specs.Shelves.{run_of}
use Rattle.ossl_store.proofs.Ascending.{above_from_sorted}
use Rattle.ossl_store.proofs.Greatest.{chosen_best}
use Rattle.ossl_store.proofs.Picking.{runs-candidates}
use Rattle.ossl_store.proofs.store.Store.best.Goals as goal

pub returns-in_err-runs-clause-best : goal.returns-in_err-runs-clause-best
returns-in_err-runs-clause-best g c =
    let offers = c.self.inside.offers in
    let none = runs-candidates offers c.args.op c.args.number [] tt (above_from_sorted offers.entries c.self.invariant.ordered)
    (λ k. ap (λ runs. run_of runs k) c.in_err-runs.ensures ∙ c.self.invariant.shelved c.args.op c.args.number k) in
    c.from_residual.ensures ∙ ap (λ cs. option_map (λ (b : Scored). b.choice) (best_from None c.args.query.now cs)) none ∙ ap (best_offered c.args.op c.args.number c.args.query.now) c.self.view_is

pub returns-clause-best : goal.returns-clause-best
returns-clause-best g c =
    let offers = c.self.inside.offers in
    let runs = c.in_ok-runs.runs.now in
    let all = runs-candidates offers c.args.op c.args.number runs.entries (above_from_sorted runs.entries c.best_of_runs.ensures.ordered) (above_from_sorted offers.entries c.self.invariant.ordered)
    (λ k. ap (λ rs. run_of rs k) c.in_ok-runs.ensures ∙ c.self.invariant.shelved c.args.op c.args.number k) in
    c.chosen.ensures ∙ ap (option_map (λ (b : Scored). b.choice)) (c.best_of_runs.ensures.best ∙ ap (best_from None c.args.query.now) all) ∙ ap (best_offered c.args.op c.args.number c.args.query.now) c.self.view_is

pub returns-clause-steps : goal.returns-clause-steps
returns-clause-steps g c =
    let offers = c.self.inside.offers in
    let runs = c.in_ok-runs.runs.now in
    let all = runs-candidates offers c.args.op c.args.number runs.entries (above_from_sorted runs.entries c.best_of_runs.ensures.ordered) (above_from_sorted offers.entries c.self.invariant.ordered)
    (λ k. ap (λ rs. run_of rs k) c.in_ok-runs.ensures ∙ c.self.invariant.shelved c.args.op c.args.number k) in
    let cost = c.best_of_runs.ensures.steps ∙ ap (λ cs. c.args.steps.now + length c.args.query.now * length cs) (all ∙ ap (candidates c.args.op c.args.number) c.self.view_is) in
    omega (arith, cost)

pub returns-in_err-runs-clause-law : goal.returns-in_err-runs-clause-law
returns-in_err-runs-clause-law g c =
    let cs = candidates c.args.op c.args.number c.args.self.now in
    subst (IsBest c.args.query.now cs) (sym (returns-in_err-runs-clause-best g c)) (chosen_best c.args.query.now cs)

pub returns-clause-law : goal.returns-clause-law
returns-clause-law g c =
    let cs = candidates c.args.op c.args.number c.args.self.now in
    subst (IsBest c.args.query.now cs) (sym (returns-clause-best g c)) (chosen_best c.args.query.now cs)
