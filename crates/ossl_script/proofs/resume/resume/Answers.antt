use Rattle.ossl_script.specs.declared.stage.Stage.TheVariants as stages
use Rattle.ossl_script.specs.Given.{content_by, fed_by}
use Rattle.ossl_script.proofs.CheckLaws.{resumed_course}
use Rattle.ossl_script.proofs.resume.resume.Goals as goal

pub returns-in-Context : goal.returns-in-Context
returns-in-Context c =
    resumed_course (fed_by (content_by c.args.contents.now) c.args.arguments.now) c.args.names.now c.args.stage
    (stages.Context c.in-Context.request c.in-Context.provider c.in-Context.used c.in-Context.inner) c.args.reply.now c.made_context.result
    c.in-Context.is c.made_context.ensures
