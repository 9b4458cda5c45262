use Rattle.std.proofs.Common.{◌≡◌, ◌∙◌, ◌+◌, ◌*◌, ℕ, sym, ap, List, [], ◌∷◌, map, length, drop, Some, None, slice_get, get_or, arith}
use Rattle.std.proofs.lemmas.List.{drop_all}
use Rattle.ossl_store.specs.declared.offered.Offered.{Offered}
use Rattle.ossl_store.specs.Best.{candidate, scored, better, best_from}
use Rattle.ossl_store.specs.Choice.{picked}
use Rattle.ossl_store.proofs.Choosing.{cost-step, cost-append, picked-row, picked-none}
use Rattle.ossl_store.proofs.choice.best_of_run.Goals as goal
use Rattle.ossl_store.proofs.choice.best_of_run.Goals.{in-Some, in_default}

pub loop-place-preserved : goal.loop-place-preserved
loop-place-preserved g c =
    let query = c.args.query.now in
    let make = candidate c.args.offer.now.instance in
    let rows = c.args.offer.now.rows.items in
    let places = c.args.places.now in
    let i = c.loop-place.place-index in
    let within = c.loop-place-test.true in
    let rest = picked rows (drop (i + 1) places) in
    elim c.match-row_at.branch [
      | in-Some w ↦
          let row = w.in-Some.row.now in
          let found : Some row ≡ slice_get rows (get_or places i 0) = w.in-Some.ensures ∙ ap (λ (xs : List Offered). slice_get xs (get_or places i 0)) c.as_slice.ensures.value in
          let taken = picked-row rows places i within row found in
          let best = w.best-is ∙ w.better_of-best.ensures ∙ ap (better c.loop-place.best) w.score_row.ensures.value in
          record {
            best = ap (λ b. best_from b query (map make rest)) best ∙ sym (ap (λ xs. best_from c.loop-place.best query (map make xs)) taken) ∙ c.loop-place.invariant.best;
            steps = cost-step c.loop-place.steps c.match-row_at.steps (length query) 1 (length (picked rows (drop i places))) (length rest) (c.args.steps.now + length query * length (picked rows places))
                (w.steps-is ∙ w.score_row.ensures.steps ∙ once c.loop-place.steps (length query)) (ap (λ xs. length query * length xs) taken ∙ cost-append (length query) (row ∷ []) rest) c.loop-place.invariant.steps;
          }
      | in_default w ↦
          let missing : None ≡ slice_get rows (get_or places i 0) = w.in_default.ensures ∙ ap (λ (xs : List Offered). slice_get xs (get_or places i 0)) c.as_slice.ensures.value in
          let none = picked-none rows places i within missing in
          record {
            best = ap (λ b. best_from b query (map make rest)) w.best-is ∙ sym (ap (λ xs. best_from c.loop-place.best query (map make xs)) none) ∙ c.loop-place.invariant.best;
            steps = ap (λ s. s + length query * length rest) w.steps-is ∙ sym (ap (λ xs. c.loop-place.steps + length query * length xs) none) ∙ c.loop-place.invariant.steps;
          }
    ]
  where
    once : (s n : ℕ) → s + n ≡ s + n * 1
    once s n = omega arith

pub returns-clause-best : goal.returns-clause-best
returns-clause-best g c =
    let ended = drop_all c.loop-place.place-index c.args.places.now (omega arith) in
    sym (ap (λ xs. best_from c.loop-place.best c.args.query.now (map (candidate c.args.offer.now.instance) (picked c.args.offer.now.rows.items xs))) ended) ∙ c.loop-place.invariant.best

pub returns-clause-steps : goal.returns-clause-steps
returns-clause-steps g c =
    let ended = drop_all c.loop-place.place-index c.args.places.now (omega arith) in
    no_more c.loop-place.steps (length c.args.query.now) ∙ sym (ap (λ xs. c.loop-place.steps + length c.args.query.now * length (picked c.args.offer.now.rows.items xs)) ended) ∙ c.loop-place.invariant.steps
  where
    no_more : (s n : ℕ) → s ≡ s + n * 0
    no_more s n = omega arith
