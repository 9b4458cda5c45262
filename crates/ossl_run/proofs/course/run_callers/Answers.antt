use Rattle.std.proofs.Common.{◌≡◌, [], ◌∙◌, ap, map}
use Rattle.std.specs.Vec.{with_items}
use Rattle.std.proofs.lemmas.List.{with_items_is}
use Rattle.std.proofs.lemmas.Result.{IfOk-weaker}
use Rattle.ossl_script.specs.View.{printed_of}
use Rattle.ossl_ordered.specs.declared.player.Player.{Player}
use Rattle.ossl_run.specs.Ending.{batch_of}
use Rattle.ossl_run.proofs.CourseLaws.{as_many, at_start, back_after, did_after, ran_so, still_working}
use Rattle.ossl_run.proofs.course.run_callers.Goals as goal

pub run_turns-ran-requires-clause-working : goal.run_turns-ran-requires-clause-working
run_turns-ran-requires-clause-working g c =
    let task = c.args.task.now in
    let first = c.args.desk.now in
    let fresh = c.as_mut_slice.result.now in
    let start = at_start task.prepared first.contexts first.entries c.script.result.now c.contents.result.now
    c.in_ok-players.players.items fresh c.as_mut_slice.ensures.value c.requires.runnable c.requires.contexts
    c.requires.opening c.script.ensures.script c.contents.ensures.contents c.in_ok-players.ensures.each
    c.in_ok-players.ensures.work in
    (batch_of task.prepared, first.entries, [], start)

pub return_all-requires-clause-working : goal.return_all-requires-clause-working
return_all-requires-clause-working g c =
    let task = c.args.task.now in
    let first = c.args.desk.now in
    let fresh = c.as_mut_slice.result.now in
    let start = at_start task.prepared first.contexts first.entries c.script.result.now c.contents.result.now
    c.in_ok-players.players.items fresh c.as_mut_slice.ensures.value c.requires.runnable c.requires.contexts
    c.requires.opening c.script.ensures.script c.contents.ensures.contents c.in_ok-players.ensures.each
    c.in_ok-players.ensures.work in
    let batch = batch_of task.prepared in
    let before = c.run_turns-ran.new.desk in
    let ran = c.run_turns-ran.new.players in
    let slice = c.as_mut_slice-2.result.now in
    let same : before.contexts ≡ first.contexts = ap (λ f. f.contexts) c.run_turns-ran.ensures.fixed in
    let runs = ran_so c.run_turns-ran.result c.order_of.result.now first.contexts first.entries before.entries fresh ran
    c.run_turns-ran.ensures.ok c.run_turns-ran.ensures.err in
    let each = as_many batch first.contexts first.entries before.entries fresh ran start runs
    ∙ c.as_mut_slice.ensures.len in
    let lent = c.as_mut_slice-2.ensures.value ∙ with_items_is c.in_ok-players.players ran each in
    still_working batch first.contexts before.contexts first.entries before.entries fresh ran slice start same lent runs

pub returns-in_err-ran-clause-gave_back : goal.returns-in_err-ran-clause-gave_back
returns-in_err-ran-clause-gave_back g c =
    let task = c.args.task.now in
    let first = c.args.desk.now in
    let fresh = c.as_mut_slice.result.now in
    let start = at_start task.prepared first.contexts first.entries c.script.result.now c.contents.result.now
    c.in_ok-players.players.items fresh c.as_mut_slice.ensures.value c.requires.runnable c.requires.contexts
    c.requires.opening c.script.ensures.script c.contents.ensures.contents c.in_ok-players.ensures.each
    c.in_ok-players.ensures.work in
    let batch = batch_of task.prepared in
    let before = c.run_turns-ran.new.desk in
    let ran = c.run_turns-ran.new.players in
    let slice = c.as_mut_slice-2.result.now in
    let same : before.contexts ≡ first.contexts = ap (λ f. f.contexts) c.run_turns-ran.ensures.fixed in
    let runs = ran_so c.run_turns-ran.result c.order_of.result.now first.contexts first.entries before.entries fresh ran
    c.run_turns-ran.ensures.ok c.run_turns-ran.ensures.err in
    let each = as_many batch first.contexts first.entries before.entries fresh ran start runs
    ∙ c.as_mut_slice.ensures.len in
    let lent = c.as_mut_slice-2.ensures.value ∙ with_items_is c.in_ok-players.players ran each in
    back_after batch first.contexts before.contexts first.entries before.entries fresh ran slice start same lent
    c.return_all.new.desk.entries c.return_all.ensures.returned runs

pub returns-clause-gave_back : goal.returns-clause-gave_back
returns-clause-gave_back g c =
    let task = c.args.task.now in
    let first = c.args.desk.now in
    let fresh = c.as_mut_slice.result.now in
    let start = at_start task.prepared first.contexts first.entries c.script.result.now c.contents.result.now
    c.in_ok-players.players.items fresh c.as_mut_slice.ensures.value c.requires.runnable c.requires.contexts
    c.requires.opening c.script.ensures.script c.contents.ensures.contents c.in_ok-players.ensures.each
    c.in_ok-players.ensures.work in
    let batch = batch_of task.prepared in
    let before = c.run_turns-ran.new.desk in
    let ran = c.run_turns-ran.new.players in
    let slice = c.as_mut_slice-2.result.now in
    let same : before.contexts ≡ first.contexts = ap (λ f. f.contexts) c.run_turns-ran.ensures.fixed in
    let runs = ran_so c.run_turns-ran.result c.order_of.result.now first.contexts first.entries before.entries fresh ran
    c.run_turns-ran.ensures.ok c.run_turns-ran.ensures.err in
    let each = as_many batch first.contexts first.entries before.entries fresh ran start runs
    ∙ c.as_mut_slice.ensures.len in
    let lent = c.as_mut_slice-2.ensures.value ∙ with_items_is c.in_ok-players.players ran each in
    back_after batch first.contexts before.contexts first.entries before.entries fresh ran slice start same lent
    c.return_all.new.desk.entries c.return_all.ensures.returned runs

pub returns-clause-did_all : goal.returns-clause-did_all
returns-clause-did_all g c =
    let task = c.args.task.now in
    let first = c.args.desk.now in
    let fresh = c.as_mut_slice.result.now in
    let start = at_start task.prepared first.contexts first.entries c.script.result.now c.contents.result.now
    c.in_ok-players.players.items fresh c.as_mut_slice.ensures.value c.requires.runnable c.requires.contexts
    c.requires.opening c.script.ensures.script c.contents.ensures.contents c.in_ok-players.ensures.each
    c.in_ok-players.ensures.work in
    let batch = batch_of task.prepared in
    let before = c.run_turns-ran.new.desk in
    let ran = c.run_turns-ran.new.players in
    let slice = c.as_mut_slice-2.result.now in
    let same : before.contexts ≡ first.contexts = ap (λ f. f.contexts) c.run_turns-ran.ensures.fixed in
    let runs = ran_so c.run_turns-ran.result c.order_of.result.now first.contexts first.entries before.entries fresh ran
    c.run_turns-ran.ensures.ok c.run_turns-ran.ensures.err in
    let each = as_many batch first.contexts first.entries before.entries fresh ran start runs
    ∙ c.as_mut_slice.ensures.len in
    let lent = c.as_mut_slice-2.ensures.value ∙ with_items_is c.in_ok-players.players ran each in
    let left = c.return_all.new.players in
    let kept = with_items_is (with_items c.in_ok-players.players ran) left
    (c.return_all.ensures.kept.0 ∙ c.as_mut_slice-2.ensures.len) in
    IfOk-weaker c.results_of.result _ _
    (λ results are. did_after batch first.contexts before.contexts first.entries before.entries fresh ran slice start
    same lent c.return_all.new.desk.entries c.return_all.ensures.returned c.requires.runnable.text
    task.prepared.script.files c.order_of.result.now _ left _ c.requires.runnable.said c.order_of.ensures.order
    c.return_all.ensures.kept c.in_ok-ran.ensures.ok (are ∙ ap (map (λ (p : Player). printed_of p.work)) kept))
    c.results_of.ensures.results
