use Rattle.std.proofs.Common.{◌∙◌, List, true, ap, map, refl, subst, sym}
use Rattle.std.specs.Prelude.{All}
use Rattle.ossl_calls.specs.Registry.{IsDown}
use Rattle.ossl_provider.specs.Sheet.{Sheet}
use Rattle.ossl_run.specs.Ending.{boxes_of}
use Rattle.ossl_run.specs.Middle.{IsToldOf}
use Rattle.ossl_run.proofs.DueLaws.{due_runnable}
use Rattle.ossl_run.proofs.EndLaws.{idle_down, run_ends, unopened_ends}
use Rattle.ossl_run.proofs.RanLaws.{course_behind, left_behind, legal_behind, none_opened, told_behind}
use Rattle.ossl_par.proofs.top_call.perform.Goals as goal

-- 1. Memory is wanting before a registry is opened.

pub returns-in_default-clause-ends : goal.returns-in_default-clause-ends
returns-in_default-clause-ends g c inputs with due =
    let left = c.untouched in
    unopened_ends inputs _ _ left.result.status left.result.history.items left.result.callers.items
    left.ensures.status refl (record {
      no_entry = left.ensures.history;
      no_caller = left.ensures.callers;
      as_came = ap (map g.P.Provider.sheet) left.ensures.catalogue;
    })

pub returns-in_default-clause-down : goal.returns-in_default-clause-down
returns-in_default-clause-down g c =
    let came = c.args.catalogue.items in
    subst (λ (sheets : List Sheet). All IsDown sheets) (sym (ap (map g.P.Provider.sheet) c.untouched.ensures.catalogue))
    (idle_down (map g.P.Provider.facts came) (map g.P.Provider.sheet came) c.requires.catalogue)

pub returns-in_default-course-clause-ends : goal.returns-in_default-course-clause-ends
returns-in_default-course-clause-ends g c inputs with due =
    let run = c.run_over-history in
    let came = c.args.catalogue.items in
    let boxes = boxes_of g.P.Provider.facts g.P.Provider.sheet came run.result.catalogue.items in
    let none = c.in_default-course.not-Some in
    let left = c.untouched-in_default-course in
    unopened_ends inputs _ _ left.result.status left.result.history.items left.result.callers.items
    left.ensures.status refl (record {
      no_entry = left.ensures.history;
      no_caller = left.ensures.callers;
      as_came =
          ap (map g.P.Provider.sheet) left.ensures.catalogue
          ∙ none_opened true c.args.task.now boxes run.result.history.items run.result.course run.ensures.ran none;
    })

pub returns-in_default-course-clause-down : goal.returns-in_default-course-clause-down
returns-in_default-course-clause-down g c =
    let run = c.run_over-history in
    let came = c.args.catalogue.items in
    let boxes = boxes_of g.P.Provider.facts g.P.Provider.sheet came run.result.catalogue.items in
    let none = c.in_default-course.not-Some in
    let same = ap (map g.P.Provider.sheet) c.untouched-in_default-course.ensures.catalogue in
    let as_came =
    none_opened true c.args.task.now boxes run.result.history.items run.result.course run.ensures.ran none in
    subst (λ (sheets : List Sheet). All IsDown sheets) (sym (same ∙ as_came))
    (idle_down (map g.P.Provider.facts came) (map g.P.Provider.sheet came) c.requires.catalogue)

-- 2. A run.

pub run_over-history-requires-clause-runnable : goal.run_over-history-requires-clause-runnable
run_over-history-requires-clause-runnable g c κs within = due_runnable c.requires.due.0 c.args.task.now c.requires.due.1

pub course_answer-answer-requires-clause-legal : goal.course_answer-answer-requires-clause-legal
course_answer-answer-requires-clause-legal g c =
    let run = c.run_over-history in
    let boxes = boxes_of g.P.Provider.facts g.P.Provider.sheet c.args.catalogue.items run.result.catalogue.items in
    legal_behind true c.args.task.now boxes run.result.history.items run.result.course run.ensures.ran
    c.in-Some.course c.in-Some.is
    (map g.P.Provider.facts c.as_slice.result.now) c.as_slice-2.result.now
    (ap (map g.P.Provider.facts) c.as_slice.ensures.value ∙ run.ensures.facts) c.as_slice-2.ensures.value

pub course_answer-answer-requires-clause-course : goal.course_answer-answer-requires-clause-course
course_answer-answer-requires-clause-course g c =
    let run = c.run_over-history in
    let boxes = boxes_of g.P.Provider.facts g.P.Provider.sheet c.args.catalogue.items run.result.catalogue.items in
    let came =
    course_behind true c.args.task.now boxes run.result.history.items run.result.course run.ensures.ran
    c.in-Some.course c.in-Some.is
    (map g.P.Provider.facts c.as_slice.result.now) c.as_slice-2.result.now
    (ap (map g.P.Provider.facts) c.as_slice.ensures.value ∙ run.ensures.facts) c.as_slice-2.ensures.value in
    (true, came)

pub returns-clause-ends : goal.returns-clause-ends
returns-clause-ends g c inputs with due =
    let run = c.run_over-history in
    let boxes = boxes_of g.P.Provider.facts g.P.Provider.sheet c.args.catalogue.items run.result.catalogue.items in
    let told = c.course_answer-answer in
    let facts_are = ap (map g.P.Provider.facts) c.as_slice.ensures.value ∙ run.ensures.facts in
    let came =
    course_behind true c.args.task.now boxes run.result.history.items run.result.course run.ensures.ran
    c.in-Some.course c.in-Some.is
    (map g.P.Provider.facts c.as_slice.result.now) c.as_slice-2.result.now facts_are c.as_slice-2.ensures.value in
    run_ends inputs boxes _ c.send-status.result run.result.history.items told.result.1.items
    c.args.task.now told.result.0 due
    (left_behind true c.args.task.now boxes run.result.history.items run.result.course run.ensures.ran
    c.in-Some.course c.in-Some.is)
    (subst (λ b. IsToldOf b c.args.task.now boxes.facts run.result.history.items told.result.0 told.result.1.items)
    (sym with)
    (told_behind true c.args.task.now boxes run.result.history.items run.result.course run.ensures.ran
    c.in-Some.course c.in-Some.is
    (map g.P.Provider.facts c.as_slice.result.now) c.as_slice-2.result.now facts_are c.as_slice-2.ensures.value
    told.result.0 told.result.1.items (told.ensures.told true came)))
    c.send-status.ensures.sent

pub returns-clause-down : goal.returns-clause-down
returns-clause-down g c =
    let run = c.run_over-history in
    let boxes = boxes_of g.P.Provider.facts g.P.Provider.sheet c.args.catalogue.items run.result.catalogue.items in
    (left_behind true c.args.task.now boxes run.result.history.items run.result.course run.ensures.ran
    c.in-Some.course c.in-Some.is).down
