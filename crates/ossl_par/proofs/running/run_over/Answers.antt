use Rattle.std.proofs.Common.{◌≡◌, ◌∙◌, ℕ, List, [], true, length, ap, arith, map, refl}
use Rattle.ossl_calls.specs.Registry.{Shown, fixed_of}
use Rattle.ossl_commands.specs.Counts.{callers_of, contexts_of}
use Rattle.ossl_commands.specs.View.{ScriptView}
use Rattle.ossl_provider.specs.Sheet.{Sheet}
use Rattle.ossl_run.specs.Ending.{batch_of, boxes_of, registry_over}
use Rattle.ossl_run.proofs.RanLaws.{ran_over}
use Rattle.ossl_state.specs.History.{Fixed}
use Rattle.ossl_par.proofs.RunLaws.{came_of, course_of, over, scripts_of}
use Rattle.ossl_par.proofs.running.run_over.Goals as goal

-- a registry that was just opened over boxes
abbrev opened : {P : Type 0} → (P → Sheet) → List P → ℕ → Shown P
opened sheet boxes contexts = record {
  boxes = boxes;
  opened = map (λ b. (sheet b).faults) boxes;
  contexts = contexts;
  entries = [];
}

-- 1. Want of memory before a registry is opened.

pub returns-in_default-clause-ran : goal.returns-in_default-clause-ran
returns-in_default-clause-ran g c =
    let left = c.unopened.ensures in
    rw (left.course) (left.history, ap (map g.P.Provider.sheet) left.catalogue)

pub returns-in-Err-clause-ran : goal.returns-in-Err-clause-ran
returns-in-Err-clause-ran g c =
    let left = c.unopened-in-Err.ensures in
    rw (left.course) (left.history, ap (map g.P.Provider.sheet) (left.catalogue ∙ c.in-Err.ensures.err))

-- 2. A run.

pub run_course-registry-requires-clause-scripts : goal.run_course-registry-requires-clause-scripts
run_course-registry-requires-clause-scripts g c κs within =
    let of =
    scripts_of c.args.task.now.prepared c.script-script.result.now c.contents.result.now c.contexts-contexts.result
    c.new-registry.result c.in-Ok-open.registry
    (opened g.P.Provider.sheet c.args.catalogue.items c.contexts-contexts.result) c.in-Ok.crew.scripts.items
    c.script-script.ensures.script c.contents.ensures.contents c.contexts-contexts.ensures.contexts
    c.new-registry.ensures.left c.in-Ok-open.ensures.ok refl
    c.in-Ok.ensures.each c.in-Ok.ensures.scripts in
    (batch_of c.args.task.now.prepared, of)

pub run_course-registry-requires-clause-few : goal.run_course-registry-requires-clause-few
run_course-registry-requires-clause-few g c κs within =
    let each : length c.in-Ok.crew.scripts.items ≡ callers_of c.args.task.now.prepared.script.commands =
    c.in-Ok.ensures.each ∙ ap (λ (s : ScriptView). callers_of s.commands) c.script-script.ensures.script in
    omega (arith, each, c.in-Ok.crew.scripts.ok.0, c.requires.runnable.callers)

pub told-course-requires : goal.told-course-requires
told-course-requires g c =
    let left = c.run_course-registry.result.0 in
    let of =
    scripts_of c.args.task.now.prepared c.script-script.result.now c.contents.result.now c.contexts-contexts.result
    c.new-registry.result c.in-Ok-open.registry
    (opened g.P.Provider.sheet c.args.catalogue.items c.contexts-contexts.result) c.in-Ok.crew.scripts.items
    c.script-script.ensures.script c.contents.ensures.contents c.contexts-contexts.ensures.contexts
    c.new-registry.ensures.left c.in-Ok-open.ensures.ok refl
    c.in-Ok.ensures.each c.in-Ok.ensures.scripts in
    let came = came_of g.row.P.Denot c.args.task.now.prepared c.settings.result.now left.entries
    c.new-registry.result.contexts c.in-Ok.crew.scripts.items c.run_course-registry.result.1
    c.settings.ensures.settings of c.run_course-registry.ensures.course in
    record {
      over = over g.row.P.Denot c.args.task.now.prepared.settings (batch_of c.args.task.now.prepared) left.entries
          c.run_course-registry.result.1 came;
    }

pub returns-clause-ran : goal.returns-clause-ran
returns-clause-ran g c =
    let fixed = fixed_of g.P.Provider.facts in
    let task = c.args.task.now in
    let left = c.run_course-registry.result.0 in
    let of =
    scripts_of c.args.task.now.prepared c.script-script.result.now c.contents.result.now c.contexts-contexts.result
    c.new-registry.result c.in-Ok-open.registry
    (opened g.P.Provider.sheet c.args.catalogue.items c.contexts-contexts.result) c.in-Ok.crew.scripts.items
    c.script-script.ensures.script c.contents.ensures.contents c.contexts-contexts.ensures.contexts
    c.new-registry.ensures.left c.in-Ok-open.ensures.ok refl
    c.in-Ok.ensures.each c.in-Ok.ensures.scripts in
    let came = came_of g.row.P.Denot c.args.task.now.prepared c.settings.result.now left.entries
    c.new-registry.result.contexts c.in-Ok.crew.scripts.items c.run_course-registry.result.1
    c.settings.ensures.settings of c.run_course-registry.ensures.course in
    let begun = c.new-registry.ensures.left ∙ c.in-Ok-open.ensures.ok in
    let boxes = boxes_of g.P.Provider.facts g.P.Provider.sheet c.args.catalogue.items left.boxes in
    let count : c.contexts-contexts.result ≡ contexts_of task.prepared.script.commands =
    c.contexts-contexts.ensures.contexts
    ∙ ap (λ (s : ScriptView). contexts_of s.commands) c.script-script.ensures.script in
    let same : fixed left ≡ registry_over boxes (contexts_of task.prepared.script.commands) =
    c.run_course-registry.ensures.fixed ∙ ap fixed begun ∙ ap (registry_over boxes) count in
    let close = c.close-history.ensures in
    rw (close.entries, close.boxes)
    (ran_over true task boxes (fixed left) c.told-course.result left.entries same close.legal close.sheets
    c.run_course-registry.ensures.down
    (course_of g.row.P.Denot task left.entries c.requires.runnable c.run_course-registry.result.1 c.told-course.result
    came c.told-course.ensures.told))

pub returns-clause-facts : goal.returns-clause-facts
returns-clause-facts g c =
    let fixed = fixed_of g.P.Provider.facts in
    ap (map g.P.Provider.facts) c.close-history.ensures.boxes
    ∙ ap (λ (f : Fixed). f.facts)
    (c.run_course-registry.ensures.fixed ∙ ap fixed (c.new-registry.ensures.left ∙ c.in-Ok-open.ensures.ok))
