use Rattle.std.proofs.Common.{◌≡◌, ℕ, ◌∙◌, List, ◌++◌, ap, length, map, refl, subst, Vec, Global}
use Rattle.std.specs.Prelude.{IfOk}
use Rattle.ossl_base.specs.declared.entry.Entry.{Entry}
use Rattle.ossl_commands.specs.Fits.{capped}
use Rattle.ossl_generate.specs.Summary.{summary_text}
use Rattle.ossl_generate.specs.declared.summary.Summary.{Summary}
use Rattle.ossl_print.specs.Batched.{Batch, replies_to}
use Rattle.ossl_print.specs.Results.{batch_results, results_by, results_text, told_to}
use Rattle.ossl_script.specs.declared.caller.LineResult.{LineResult}
use Rattle.ossl_state.specs.declared.call.Call.{Call}
use Rattle.ossl_state.specs.declared.call.Reply.{Reply}
use Rattle.ossl_run.specs.Ending.{batch_of, good_after, good_among, summary_after}
use Rattle.ossl_run.proofs.SummedLaws.{good_are, results_are, sum_items}
use Rattle.ossl_run.proofs.output.summed.Goals as goal

-- the results of a batch as they are printed
abbrev told_after : Batch → List (Entry Call Reply) → List ℕ
told_after batch entries = results_text (batch_results batch (λ caller. replies_to caller entries))

-- a summary by the results and the counts at hand
summed_at_hand : (batch : Batch) (entries : List (Entry Call Reply)) (told : Summary) (good count : ℕ)
    (printed : List ℕ) → good ≡ capped (good_after batch entries) → count ≡ length entries
    → printed ≡ told_after batch entries
    → summary_text (record told { good = good; entries = count }) printed ≡ summary_after batch entries told
summed_at_hand batch entries told good count printed good_is count_is printed_is =
    let by : ℕ → ℕ → List ℕ → List ℕ = λ g n p. summary_text (record told { good = g; entries = n }) p in
    ap (by good count) printed_is
    ∙ ap (λ g. by g count (told_after batch entries)) good_is
    ∙ ap (λ n. by (capped (good_after batch entries)) n (told_after batch entries)) count_is

pub returns : goal.returns
returns g c =
    let run = c.args.run.now in
    let batch = batch_of run.task.now.prepared in
    let entries = run.history.now in
    let lists = map (λ (rs : Vec LineResult Global). rs.items) run.results.now in
    let lines_are : c.commands.result.now ≡ batch.lines =
    c.commands.ensures.commands ∙ ap (λ s. s.commands) c.script.ensures.script in
    let has = c.requires.results in
    let good : c.good_count.result ≡ capped (good_after batch entries) =
    c.good_count.ensures.good
    ∙ ap capped (
    sum_items good_among run.results.now ∙ good_are batch entries lists has.are_results has.each) in
    let printed : c.as_slice.result.now ≡ told_after batch entries =
    c.as_slice.ensures.value
    ∙ c.in_ok-put_results.ensures.ok
    ∙ ap (λ o. o ++ results_text (results_by c.commands.result.now (told_to lists))) c.new-printed.ensures.items
    ∙ ap (λ ls. results_text (results_by ls (told_to lists))) lines_are
    ∙ ap results_text (results_are batch entries lists has.are_results has.each has.told) in
    record {
      text = subst (λ (t : List ℕ). IfOk c.summary_text.result (λ text. text.items ≡ t))
          (summed_at_hand batch entries c.args.told c.good_count.result _ c.as_slice.result.now good refl printed)
          c.summary_text.ensures.text;
    }
