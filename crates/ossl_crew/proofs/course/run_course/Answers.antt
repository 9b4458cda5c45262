use Rattle.std.proofs.Common.{◌≡◌, ◌∙◌, ap, sym}
use Rattle.ossl_calls.specs.Registry.{fixed_of}
use Rattle.ossl_state.specs.History.{Fixed}
use Rattle.ossl_crew.proofs.ClosingLaws.{course_of, down_after}
use Rattle.ossl_crew.proofs.CourseLaws.{owned_kept}
use Rattle.ossl_crew.proofs.course.run_course.Goals as goal

pub close-requires-clause-owned : goal.close-requires-clause-owned
close-requires-clause-owned g c =
    owned_kept (fixed_of g.P.Provider.facts c.open-opened.new.program) c.open-opened.new.tokens.items
    c.open-opened.new.program.entries c.proceed-registry.result.0.entries
    c.open-opened.ensures.loading c.proceed-registry.ensures.gave_back

pub returns-in-Ok-clause-course : goal.returns-in-Ok-clause-course
returns-in-Ok-clause-course g c =
    let opened = c.open-opened.new.program in
    course_of g.row.P.Denot c.args.settings.now c.args.contexts c.open-opened.new.tokens.items c.args.crew.scripts.items
    opened.entries c.proceed-registry.result.0.entries c.close.new.program.entries
    c.open-opened.ensures.loading.answered c.in-Ok.ensures.closed c.args.registry.contexts opened.contexts
    c.requires.contexts (ap (λ (f : Fixed). f.contexts) c.open-opened.ensures.fixed)
    c.open-opened.result c.proceed-registry.result.1 c.open-opened.ensures.opened c.open-opened.ensures.ended
    c.proceed-registry.ensures.came

pub returns-in-Ok-clause-down : goal.returns-in-Ok-clause-down
returns-in-Ok-clause-down g c =
    let fixed = fixed_of g.P.Provider.facts in
    let opened = c.open-opened.new.program in
    let kept : opened.contexts ≡ c.args.registry.contexts = ap (λ (f : Fixed). f.contexts) c.open-opened.ensures.fixed in
    down_after (fixed opened) c.open-opened.new.tokens.items opened.entries c.proceed-registry.result.0.entries
    c.open-opened.ensures.loading c.proceed-registry.ensures.gave_back (fixed c.close.new.program) c.args.contexts
    c.close.new.program.entries (c.close.ensures.fixed ∙ c.proceed-registry.ensures.fixed) (c.requires.contexts ∙ sym kept)
    c.close.ensures.follow c.close.ensures.legal c.close.ensures.down

pub returns-in-Err-clause-down : goal.returns-in-Err-clause-down
returns-in-Err-clause-down g c =
    let fixed = fixed_of g.P.Provider.facts in
    let opened = c.open-opened.new.program in
    let kept : opened.contexts ≡ c.args.registry.contexts = ap (λ (f : Fixed). f.contexts) c.open-opened.ensures.fixed in
    down_after (fixed opened) c.open-opened.new.tokens.items opened.entries c.proceed-registry.result.0.entries
    c.open-opened.ensures.loading c.proceed-registry.ensures.gave_back (fixed c.close.new.program) c.args.contexts
    c.close.new.program.entries (c.close.ensures.fixed ∙ c.proceed-registry.ensures.fixed) (c.requires.contexts ∙ sym kept)
    c.close.ensures.follow c.close.ensures.legal c.close.ensures.down
