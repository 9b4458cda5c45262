use Rattle.std.proofs.Common.{◌≡◌, ◌∙◌, ap, List, map, subst, sym, Vec, Global}
use Rattle.std.specs.Prelude.{ℕ, [], ◌++◌, None}
use Rattle.ossl_base.specs.declared.entry.Entry.{Entry}
use Rattle.ossl_commands.specs.Counts.{contexts_of}
use Rattle.ossl_commands.specs.declared.command.Line.{Line}
use Rattle.ossl_ordered.specs.Run.{own_numbers}
use Rattle.ossl_print.specs.Batched.{Batch}
use Rattle.ossl_print.specs.Output.{AreResults, printed_batch}
use Rattle.ossl_provider.specs.Sheet.{Facts}
use Rattle.ossl_script.specs.declared.caller.LineResult.{LineResult}
use Rattle.ossl_state.specs.declared.call.Call.{Call}
use Rattle.ossl_state.specs.declared.call.Reply.{Reply}
use Rattle.ossl_watch.specs.Changes.{fixed_over}
use Rattle.ossl_run.specs.Ending.{batch_of}
use Rattle.ossl_run.proofs.output.printed.Goals as goal

abbrev with_lines : List Line → List (List ℕ) → Batch
with_lines lines contents = record { lines = lines; contents = contents }

-- the results are those of the batch, by its lines and callers as they are at hand
are_at_hand : (batch : Batch) (lines : List Line) (callers : List ℕ) (entries : List (Entry Call Reply))
    (results : List (List LineResult)) → lines ≡ batch.lines → callers ≡ own_numbers batch
    → AreResults batch (own_numbers batch) entries results
    → AreResults (with_lines lines batch.contents) callers entries results
are_at_hand batch lines callers entries results lines_are callers_are are =
    subst (λ ls. AreResults (with_lines ls batch.contents) callers entries results) (sym lines_are)
    (subst (λ cs. AreResults batch cs entries results) (sym callers_are) are)

-- and so is what is printed
printed_at_hand : (facts : List Facts) (batch : Batch) (lines : List Line) (contexts : ℕ) (callers : List ℕ)
    (entries : List (Entry Call Reply)) (text old : List ℕ)
    → lines ≡ batch.lines → contexts ≡ contexts_of batch.lines → callers ≡ own_numbers batch → old ≡ []
    → text ≡ old ++ printed_batch (fixed_over facts contexts) (with_lines lines batch.contents) callers None entries
    → text ≡ printed_batch (fixed_over facts (contexts_of batch.lines)) batch (own_numbers batch) None entries
printed_at_hand facts batch lines contexts callers entries text old lines_are contexts_are callers_are none is =
    let by : ℕ → List Line → List ℕ → List ℕ
    = λ n ls cs. printed_batch (fixed_over facts n) (with_lines ls batch.contents) cs None entries in
    is
    ∙ ap (λ o. o ++ by contexts lines callers) none
    ∙ ap (λ n. by n lines callers) contexts_are
    ∙ ap (λ ls. by (contexts_of batch.lines) ls callers) lines_are
    ∙ ap (by (contexts_of batch.lines) batch.lines) callers_are

pub returns : goal.returns
returns g c =
    let run = c.args.run.now in
    let batch = batch_of run.task.now.prepared in
    let lists = map (λ (rs : Vec LineResult Global). rs.items) run.results.now in
    let facts = map g.P.Provider.facts run.catalogue.now in
    let lines_are : c.commands.result.now ≡ batch.lines =
    c.commands.ensures.commands ∙ ap (λ s. s.commands) c.script-script.ensures.script in
    let contexts_are : c.contexts.result ≡ contexts_of batch.lines =
    c.contexts.ensures.contexts ∙ ap (λ s. contexts_of s.commands) c.script-script.ensures.script in
    let are =
    are_at_hand batch c.commands.result.now run.callers.now run.history.now lists
    lines_are c.requires.callers c.requires.results.are_results in
    record {
      text =
          printed_at_hand facts batch c.commands.result.now c.contexts.result run.callers.now run.history.now _ _
          lines_are contexts_are c.requires.callers c.new-text.ensures.items
          (c.in_ok-put_output.ensures.batch batch.contents are);
    }
