use Rattle.std.proofs.Common.{List, sym, subst}
use Rattle.std.specs.Prelude.{⊤}
use Rattle.ossl_commands.specs.declared.command.Argument.{Argument}
use Rattle.ossl_commands.specs.declared.command.Command.{Command}
use Rattle.ossl_commands.specs.declared.command.Command.TheVariants as commands
use Rattle.ossl_script.specs.declared.stage.Course.TheVariants as left
use Rattle.ossl_script.specs.Stages.{Starts}
use Rattle.ossl_script.specs.Commands.{course_of}
use Rattle.ossl_script.specs.Given.{content_by, fed_by}
use Rattle.ossl_script.specs.Names.{Agree}
use Rattle.ossl_script.proofs.CheckLaws.{asked_course, leads_of, starts_anyhow}
use Rattle.ossl_script.proofs.commands.begin.Goals as goal

pub returns-in-Load : goal.returns-in-Load
returns-in-Load c =
    asked_course (content_by c.args.contents.now) c.args.names.now c.args.command.now _ c.load.result c.asked.result c.in-Load.is c.load.ensures c.asked.ensures

pub returns-in-Unload : goal.returns-in-Unload
returns-in-Unload c =
    asked_course (content_by c.args.contents.now) c.args.names.now c.args.command.now _ c.unload.result c.asked-in-Unload.result c.in-Unload.is c.unload.ensures c.asked-in-Unload.ensures

pub returns-in-Default : goal.returns-in-Default
returns-in-Default c =
    asked_course (content_by c.args.contents.now) c.args.names.now c.args.command.now _ c.set_default.result c.asked-in-Default.result c.in-Default.is (starts_anyhow _ (Agree c.args.names.now) _ _ c.set_default.ensures) c.asked-in-Default.ensures

pub returns-in-Fetch : goal.returns-in-Fetch
returns-in-Fetch c =
    asked_course (content_by c.args.contents.now) c.args.names.now c.args.command.now _ c.fetch.result c.asked-in-Fetch.result c.in-Fetch.is c.fetch.ensures c.asked-in-Fetch.ensures

pub returns-in-UpRef : goal.returns-in-UpRef
returns-in-UpRef c =
    asked_course (content_by c.args.contents.now) c.args.names.now c.args.command.now _ c.up_ref.result c.asked-in-UpRef.result c.in-UpRef.is c.up_ref.ensures c.asked-in-UpRef.ensures

pub returns-in-Free : goal.returns-in-Free
returns-in-Free c =
    asked_course (content_by c.args.contents.now) c.args.names.now c.args.command.now _ c.free.result c.asked-in-Free.result c.in-Free.is c.free.ensures c.asked-in-Free.ensures

pub returns-in-Open : goal.returns-in-Open
returns-in-Open c =
    asked_course (content_by c.args.contents.now) c.args.names.now c.args.command.now _ c.open.result c.asked-in-Open.result c.in-Open.is
    (subst (λ (arguments : List Argument). Starts (fed_by (content_by c.args.contents.now) arguments) (Agree c.args.names.now) c.open.result
    (λ bindings. course_of (content_by c.args.contents.now) bindings (commands.Open c.in-Open.method c.in-Open.name arguments))) c.as_slice.ensures.arguments c.open.ensures)
    c.asked-in-Open.ensures

pub returns-in-Close : goal.returns-in-Close
returns-in-Close c =
    asked_course (content_by c.args.contents.now) c.args.names.now c.args.command.now _ c.close.result c.asked-in-Close.result c.in-Close.is c.close.ensures c.asked-in-Close.ensures

pub returns-in-Perform : goal.returns-in-Perform
returns-in-Perform c =
    asked_course (content_by c.args.contents.now) c.args.names.now c.args.command.now _ c.perform.result c.asked-in-Perform.result c.in-Perform.is
    (starts_anyhow (fed_by (content_by c.args.contents.now) c.in-Perform.arguments) (Agree c.args.names.now) c.perform.result
    (λ bindings. course_of (content_by c.args.contents.now) bindings (commands.Perform c.in-Perform.operation c.in-Perform.algorithm c.in-Perform.arguments c.in-Perform.query))
    (subst (λ (arguments : List Argument). Starts (fed_by (content_by c.args.contents.now) arguments) (λ bindings. ⊤) c.perform.result
    (λ bindings. course_of (content_by c.args.contents.now) bindings (commands.Perform c.in-Perform.operation c.in-Perform.algorithm arguments c.in-Perform.query)))
    c.as_slice-in-Perform.ensures.arguments c.perform.ensures))
    c.asked-in-Perform.ensures

pub returns-in-CloseLib : goal.returns-in-CloseLib
returns-in-CloseLib c =
    subst (λ (command : Command). leads_of (content_by c.args.contents.now) c.args.names.now command (left.Asks c.close_lib.result)) (sym c.in-CloseLib.is)
    (λ bindings agree. record { bindings = bindings; agree = agree; same = c.close_lib.ensures bindings tt })
