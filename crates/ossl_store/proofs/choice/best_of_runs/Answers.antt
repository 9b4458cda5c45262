use Rattle.std.proofs.Common.{◌≡◌, ◌∙◌, ◌+◌, ◌*◌, ℕ, sym, ap, map, length, Vec}
use Rattle.std.specs.List.{flat_map}
use Rattle.std.specs.declared.alloc.Global.{Global}
use Rattle.std.proofs.lemmas.List.{length-map}
use Rattle.ossl_store.specs.Best.{candidate, best_from}
use Rattle.ossl_store.specs.Choice.{picked, offer_candidates, run_candidates}
use Rattle.ossl_store.proofs.Choosing.{best_from-append, cost-append, cost-step}
use Rattle.ossl_store.proofs.choice.best_of_runs.Goals as goal

pub loop-rank-preserved-in-Some-get : goal.loop-rank-preserved-in-Some-get
loop-rank-preserved-in-Some-get g c =
    let query = c.args.query.now in
    let taken_of = run_candidates c.args.offers.now in
    let run : ℕ × Vec ℕ Global = (c.in-Some.rank.now, c.in-Some.places.now) in
    let left = flat_map taken_of c.next.new.self in
    let make = candidate c.in-Some-get.offer.now.instance in
    let rows = c.in-Some-get.offer.now.rows.items in
    let first : taken_of run ≡ map make (picked rows c.in-Some.places.now.items) = ap (λ o. offer_candidates o c.in-Some.places.now.items) (sym c.in-Some-get.ensures.value) in
    let best = c.best_of_run-best.ensures.best ∙ ap (λ ps. best_from c.loop-rank.best query (map make (picked rows ps))) c.deref.ensures.value ∙ ap (best_from c.loop-rank.best query) (sym first) in
    let count : length (picked rows c.in-Some.places.now.items) ≡ length (taken_of run) = sym (ap length first ∙ length-map (picked rows c.in-Some.places.now.items) make) in
    let spent = c.best_of_run-best.ensures.steps ∙ ap (λ ps. c.loop-rank.steps + length query * length (picked rows ps)) c.deref.ensures.value ∙ ap (λ k. c.loop-rank.steps + length query * k) count in
    record {
      best = ap (λ b. best_from b query left) best ∙ sym (best_from-append query c.loop-rank.best (taken_of run) left)
          ∙ sym (ap (λ it. best_from c.loop-rank.best query (flat_map taken_of it)) c.in-Some.ensures.steps) ∙ c.loop-rank.invariant.best;
      steps = cost-step c.loop-rank.steps c.best_of_run-best.new.steps (length query) (length (taken_of run)) (length (flat_map taken_of c.loop-rank.rank-iterator)) (length left)
          (c.args.steps.now + length query * length (flat_map taken_of c.args.runs.now.entries)) spent
          (ap (λ it. length query * length (flat_map taken_of it)) c.in-Some.ensures.steps ∙ cost-append (length query) (taken_of run) left) c.loop-rank.invariant.steps;
    }
