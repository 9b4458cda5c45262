use Rattle.ossl_salted.specs.Ends.{status_of}
use Rattle.ossl_salted.specs.Words.{bits_in}
use Rattle.ossl_salted.proofs.Courses.{runs_lawful}
use Rattle.ossl_salted.proofs.call.run.Goals as goal

pub returns-in-Ok-clause-lawful : goal.returns-in-Ok-clause-lawful
returns-in-Ok-clause-lawful g c =
    runs_lawful c.args.job.now.salt (bits_in c.args.job.now.size) c.args.job.now.rounds _ (status_of c.run_with.result) _ _ c.run_with.ensures
