use Rattle.std.proofs.Common.{◌≡◌, ◌∙◌, ap, subst, sym}
use Rattle.ossl_calls.specs.Registry.{fixed_of}
use Rattle.ossl_commands.specs.Counts.{contexts_of}
use Rattle.ossl_commands.specs.View.{ScriptView}
use Rattle.ossl_ordered.specs.Owned.{ClosesBy}
use Rattle.ossl_run.specs.Middle.{GaveBack}
use Rattle.ossl_run.proofs.ClosingLaws.{down_after, finished_course, nothing_since, refused_course}
use Rattle.ossl_run.proofs.course.run_task.Goals as goal
use Rattle.ossl_run.proofs.course.run_task.Goals.{in-Ok, in-Err-Provider, in-Err-NoMemory}

pub returns-in_err-close-clause-down : goal.returns-in_err-close-clause-down
returns-in_err-close-clause-down g c =
    let fixed = fixed_of g.P.Provider.facts in
    let opening = c.open.new.program.entries in
    let before = c.match-open.desk.entries in
    let back : GaveBack opening before = elim c.match-open.branch [
      | in-Ok w ↦ subst (GaveBack opening) (sym (ap (λ d. d.entries) w.desk-is)) w.run_callers.ensures.gave_back
      | in-Err-Provider w ↦ nothing_since opening before (ap (λ d. d.entries) w.desk-is)
      | in-Err-NoMemory w ↦ nothing_since opening before (ap (λ d. d.entries) w.desk-is)
    ] in
    let same : fixed c.match-open.desk ≡ fixed c.open.new.program = elim c.match-open.branch [
      | in-Ok w ↦ ap fixed w.desk-is ∙ w.run_callers.ensures.fixed
      | in-Err-Provider w ↦ ap fixed w.desk-is
      | in-Err-NoMemory w ↦ ap fixed w.desk-is
    ] in
    let count : c.contexts.result ≡ c.open.new.program.contexts =
    c.contexts.ensures.contexts ∙ ap (λ (s : ScriptView). contexts_of s.commands) c.script.ensures.script
    ∙ c.requires.contexts ∙ sym (ap (λ f. f.contexts) c.open.ensures.fixed) in
    down_after (fixed c.open.new.program) c.open.new.tokens.items opening before c.open.ensures.loading back
    (fixed c.close.new.program) c.contexts.result c.close.new.program.entries (c.close.ensures.fixed ∙ same) count
    c.close.ensures.follow c.close.ensures.legal c.close.ensures.down

pub returns-clause-course : goal.returns-clause-course
returns-clause-course g c =
    let task = c.args.task.now in
    let opening = c.open.new.program.entries in
    let before = c.match-open.desk.entries in
    let after = c.close.new.program.entries in
    let tokens = c.open.new.tokens.items in
    let contexts = c.contexts.result in
    let settings = c.settings.result.now in
    let same = c.settings.ensures.settings in
    let count : contexts ≡ contexts_of task.prepared.script.commands =
    c.contexts.ensures.contexts ∙ ap (λ (s : ScriptView). contexts_of s.commands) c.script.ensures.script in
    let answered = c.open.ensures.loading.answered in
    let adds = c.in_ok-close.ensures.closed in
    elim c.match-open.branch [
      | in-Ok w ↦
          let now = w.run_callers.new.desk.entries in
          let is : before ≡ now = ap (λ d. d.entries) w.desk-is in
          rw (w.course-is)
          (finished_course task contexts settings tokens opening now after answered same count
          (subst (λ es. ClosesBy contexts tokens es after) is adds) w.in-Ok.ensures.opened
          w.run_callers.result w.map-course.result w.run_callers.ensures.did_all w.map-course.ensures.cases)
      | in-Err-Provider w ↦
          rw (w.course-is, w.in-Err-Provider.field-0-is)
          (refused_course task contexts settings tokens opening before after answered same count adds
          w.in-Err-Provider.name (ap (λ d. d.entries) w.desk-is)
          (rw w.in-Err-Provider.field-0-is at w.in-Err-Provider.ensures.ended))
      | in-Err-NoMemory w ↦ rw (w.course-is) tt
    ]

pub returns-clause-down : goal.returns-clause-down
returns-clause-down g c =
    let fixed = fixed_of g.P.Provider.facts in
    let opening = c.open.new.program.entries in
    let before = c.match-open.desk.entries in
    let back : GaveBack opening before = elim c.match-open.branch [
      | in-Ok w ↦ subst (GaveBack opening) (sym (ap (λ d. d.entries) w.desk-is)) w.run_callers.ensures.gave_back
      | in-Err-Provider w ↦ nothing_since opening before (ap (λ d. d.entries) w.desk-is)
      | in-Err-NoMemory w ↦ nothing_since opening before (ap (λ d. d.entries) w.desk-is)
    ] in
    let same : fixed c.match-open.desk ≡ fixed c.open.new.program = elim c.match-open.branch [
      | in-Ok w ↦ ap fixed w.desk-is ∙ w.run_callers.ensures.fixed
      | in-Err-Provider w ↦ ap fixed w.desk-is
      | in-Err-NoMemory w ↦ ap fixed w.desk-is
    ] in
    let count : c.contexts.result ≡ c.open.new.program.contexts =
    c.contexts.ensures.contexts ∙ ap (λ (s : ScriptView). contexts_of s.commands) c.script.ensures.script
    ∙ c.requires.contexts ∙ sym (ap (λ f. f.contexts) c.open.ensures.fixed) in
    down_after (fixed c.open.new.program) c.open.new.tokens.items opening before c.open.ensures.loading back
    (fixed c.close.new.program) c.contexts.result c.close.new.program.entries (c.close.ensures.fixed ∙ same) count
    c.close.ensures.follow c.close.ensures.legal c.close.ensures.down
