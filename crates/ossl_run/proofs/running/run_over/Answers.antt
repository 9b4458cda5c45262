use Rattle.std.proofs.Common.{◌≡◌, ◌∙◌, ap, false}
use Rattle.ossl_calls.specs.Registry.{fixed_of}
use Rattle.ossl_commands.specs.Counts.{contexts_of}
use Rattle.ossl_commands.specs.View.{ScriptView}
use Rattle.ossl_run.specs.Ending.{boxes_of, registry_over}
use Rattle.ossl_run.proofs.RanLaws.{ran_over}
use Rattle.ossl_run.proofs.running.run_over.Goals as goal

pub returns-clause-ran : goal.returns-clause-ran
returns-clause-ran g c =
    let fixed = fixed_of g.P.Provider.facts in
    let task = c.args.task.now in
    let desk = c.run_task-course.new.desk in
    let boxes = boxes_of g.P.Provider.facts g.P.Provider.sheet c.args.catalogue.items desk.boxes in
    let count : c.contexts-contexts.result ≡ contexts_of task.prepared.script.commands =
    c.contexts-contexts.ensures.contexts ∙ ap (λ (s : ScriptView). contexts_of s.commands) c.script.ensures.script in
    let same : fixed desk ≡ registry_over boxes (contexts_of task.prepared.script.commands) =
    c.run_task-course.ensures.fixed ∙ ap fixed c.in-Ok.ensures.ok ∙ ap (registry_over boxes) count in
    let close = c.close-history.ensures in
    rw (close.entries, close.boxes)
    (ran_over false task boxes (fixed desk) c.run_task-course.result desk.entries same close.legal close.sheets
    c.run_task-course.ensures.down c.run_task-course.ensures.course)
