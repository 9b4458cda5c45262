use Rattle.std.proofs.Common.{[], refl, sym, ◌∙◌, subst}
use Rattle.std.specs.Prelude.{Result}
use Rattle.ossl_state.specs.declared.call.Call.TheVariants as calls
use Rattle.ossl_commands.specs.declared.command.Command.TheVariants as commands
use Rattle.ossl_script.specs.declared.checks.Halt.{Halt}
use Rattle.ossl_script.specs.declared.stage.Asking.{Asking}
use Rattle.ossl_script.specs.Commands.{after_load}
use Rattle.ossl_script.specs.Course.{binds}
use Rattle.ossl_script.specs.Course.Course.{ask}
use Rattle.ossl_script.specs.Names.{Agree}
use Rattle.ossl_script.specs.Stages.{Starts, course_in}
use Rattle.ossl_script.proofs.CheckLaws.{handed, stops}
use Rattle.ossl_script.proofs.begin.load.Goals as goal

pub returns-in_err-must_be_free : goal.returns-in_err-must_be_free
returns-in_err-must_be_free c =
    let name = c.args.name.now in
    subst (λ (r : Result Asking Halt). Starts [] (Agree c.args.names.now) r (course_in (commands.Load c.args.lib c.args.provider.now name c.args.retain)))
    (sym (handed c.from_residual.result c.in_err-must_be_free.field-0.0 c.from_residual.ensures))
    (stops [] (Agree c.args.names.now) c.in_err-must_be_free.field-0.0 (λ bindings go. binds name bindings (go tt))
    (λ bindings free. ask (calls.Load c.args.lib c.args.provider.now c.args.retain) (after_load name bindings)) c.in_err-must_be_free.ensures)

pub returns : goal.returns
returns c = λ bindings agree.
    c.in_ok-must_be_free.ensures bindings (λ free. ask (calls.Load c.args.lib c.args.provider.now c.args.retain) (after_load c.args.name.now bindings)) agree
    ∙ rw (c.from.ensures, c.in_ok-provider.ensures.equal, c.in_ok-name.ensures.equal) refl
