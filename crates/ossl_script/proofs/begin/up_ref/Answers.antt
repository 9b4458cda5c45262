use Rattle.std.proofs.Common.{[], refl, sym, ◌∙◌, subst}
use Rattle.std.specs.Prelude.{Result, Err}
use Rattle.ossl_state.specs.declared.call.Call.TheVariants as calls
use Rattle.ossl_commands.specs.declared.command.Command.TheVariants as commands
use Rattle.ossl_script.specs.declared.checks.Halt.{Halt}
use Rattle.ossl_script.specs.declared.stage.Asking.{Asking}
use Rattle.ossl_script.specs.Bindings.{Bindings, Method}
use Rattle.ossl_script.specs.Commands.{after_up_ref}
use Rattle.ossl_script.specs.Course.{binds, uses_method}
use Rattle.ossl_script.specs.Course.Course.{ask}
use Rattle.ossl_script.specs.Names.{Agree}
use Rattle.ossl_script.specs.Stages.{Starts, course_in}
use Rattle.ossl_script.proofs.CheckLaws.{handed, passes, stops}
use Rattle.ossl_script.proofs.begin.up_ref.Goals as goal

pub returns-in_err-must_be_free : goal.returns-in_err-must_be_free
returns-in_err-must_be_free c =
    let name = c.args.name.now in
    let used = c.in_ok-used.used in
    let IsBound : Bindings → Type 0 = Agree c.args.names.now in
    let doubling = λ (bindings : Bindings) (one : Method). ask (calls.UpRef one.token) (after_up_ref name one.code bindings) in
    let halt = c.in_err-must_be_free.field-0.0 in
    subst (λ (r : Result Asking Halt). Starts [] IsBound r (course_in (commands.UpRef c.args.method.now name)))
    (sym (handed c.from_residual-in_err-must_be_free.result halt c.from_residual-in_err-must_be_free.ensures))
    (passes [] IsBound (Err halt) (uses_method c.args.method.now) (λ bindings one. binds name bindings (doubling bindings one)) used c.in_ok-used.ensures
    (stops [] IsBound halt (λ bindings go. binds name bindings (go tt)) (λ bindings free. doubling bindings used) c.in_err-must_be_free.ensures))

pub returns : goal.returns
returns c = λ bindings agree.
    let name = c.args.name.now in
    let used = c.in_ok-used.used in
    let doubling = λ (one : Method). ask (calls.UpRef one.token) (after_up_ref name one.code bindings) in
    c.in_ok-used.ensures bindings (λ one. binds name bindings (doubling one)) agree
    ∙ c.in_ok-must_be_free.ensures bindings (λ free. doubling used) agree
    ∙ rw (c.in_ok-name.ensures.equal) refl
