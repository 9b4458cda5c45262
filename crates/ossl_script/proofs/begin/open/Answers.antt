use Rattle.std.proofs.Common.{ℕ, List, refl, sym, ap, ◌∙◌, subst}
use Rattle.std.specs.Prelude.{Result, Err}
use Rattle.ossl_commands.specs.declared.command.Command.TheVariants as commands
use Rattle.ossl_script.specs.declared.checks.Halt.{Halt}
use Rattle.ossl_script.specs.declared.stage.Asking.{Asking}
use Rattle.ossl_script.specs.Bindings.{Bindings}
use Rattle.ossl_script.specs.Commands.{course_of, opened}
use Rattle.ossl_script.specs.Course.{Course, binds, uses_inner, uses_method}
use Rattle.ossl_script.specs.Course.Course.{said}
use Rattle.ossl_script.specs.Given.{content_by, fed_by}
use Rattle.ossl_script.specs.Names.{Agree}
use Rattle.ossl_script.specs.Stages.{Starts}
use Rattle.ossl_script.specs.declared.options.Options.{Options}
use Rattle.ossl_script.specs.declared.outcome.Outcome.TheVariants as outcomes
use Rattle.ossl_script.specs.Commands.{after_open}
use Rattle.ossl_script.specs.Stages.{opening_with}
use Rattle.ossl_script.specs.Whole.{code_of}
use Rattle.ossl_script.proofs.CheckLaws.{handed, passes, stops}
use Rattle.ossl_script.proofs.begin.open.Goals as goal

-- the course of the command with these options
abbrev opens : List ℕ → List ℕ → Options → Bindings → Course
opens method name options bindings =
    uses_method method bindings (λ used. uses_inner options.method bindings (λ inner. binds name bindings (opened name options bindings used inner)))

pub returns-in_err-must_be_free : goal.returns-in_err-must_be_free
returns-in_err-must_be_free c =
    let name = c.args.name.now in
    let content = content_by c.args.contents.now in
    let fed = fed_by content c.args.arguments.now in
    let options = c.in_ok-options.options in
    let used = c.in_ok-used.used in
    let inner = c.in_ok-inner.inner in
    let IsBound : Bindings → Type 0 = Agree c.args.names.now in
    let halt = c.in_err-must_be_free.field-0.0 in
    subst (λ (r : Result Asking Halt). Starts fed IsBound r (λ bindings. course_of content bindings (commands.Open c.args.method.now name c.args.arguments.now)))
    (sym (handed c.from_residual-in_err-must_be_free.result halt c.from_residual-in_err-must_be_free.ensures))
    (subst (λ (said : Options). Starts fed IsBound (Err halt) (opens c.args.method.now name said)) c.in_ok-options.ensures
    (passes fed IsBound (Err halt) (uses_method c.args.method.now)
    (λ bindings one. uses_inner options.method bindings (λ other. binds name bindings (opened name options bindings one other))) used c.in_ok-used.ensures
    (passes fed IsBound (Err halt) (uses_inner options.method) (λ bindings other. binds name bindings (opened name options bindings used other)) inner c.in_ok-inner.ensures
    (stops fed IsBound halt (λ bindings go. binds name bindings (go tt)) (λ bindings free. opened name options bindings used inner) c.in_err-must_be_free.ensures))))

pub returns-in_ok-of-in-Ok : goal.returns-in_ok-of-in-Ok
returns-in_ok-of-in-Ok c = λ bindings agree.
    let name = c.args.name.now in
    let options = c.in_ok-options.options in
    let used = c.in_ok-used.used in
    let inner = c.in_ok-inner.inner in
    ap (λ (said : Options). opens c.args.method.now name said bindings) (sym c.in_ok-options.ensures)
    ∙ c.in_ok-used.ensures bindings (λ one. uses_inner options.method bindings (λ other. binds name bindings (opened name options bindings one other))) agree
    ∙ c.in_ok-inner.ensures bindings (λ other. binds name bindings (opened name options bindings used other)) agree
    ∙ c.in_ok-must_be_free.ensures bindings (λ free. opened name options bindings used inner) agree
    ∙ c.in-Ok.ensures (λ refusal. said (outcomes.NotBegun refusal) bindings)
    (after_open name (opening_with used.code (code_of inner) options.params) bindings)
    ∙ rw (c.name.view_is, c.in_ok-name.ensures.equal, c.code_of.ensures, c.in_ok-of-in-Ok.ensures.params) refl

pub returns-in-Err : goal.returns-in-Err
returns-in-Err c = λ bindings agree.
    let name = c.args.name.now in
    let options = c.in_ok-options.options in
    let used = c.in_ok-used.used in
    let inner = c.in_ok-inner.inner in
    ap (λ (said : Options). opens c.args.method.now name said bindings) (sym c.in_ok-options.ensures)
    ∙ c.in_ok-used.ensures bindings (λ one. uses_inner options.method bindings (λ other. binds name bindings (opened name options bindings one other))) agree
    ∙ c.in_ok-inner.ensures bindings (λ other. binds name bindings (opened name options bindings used other)) agree
    ∙ c.in_ok-must_be_free.ensures bindings (λ free. opened name options bindings used inner) agree
    ∙ c.in-Err.ensures (λ refusal. said (outcomes.NotBegun refusal) bindings)
    (after_open name (opening_with used.code (code_of inner) options.params) bindings)
