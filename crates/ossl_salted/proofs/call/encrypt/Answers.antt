use Rattle.std.proofs.Common.{Some, refl, inr}
use Rattle.ossl_salted.specs.Course.{due_by}
use Rattle.ossl_salted.specs.Words.{bits_in}
use Rattle.ossl_salted.proofs.Courses.{runs_nothing}
use Rattle.ossl_salted.proofs.call.encrypt.Goals as goal

pub returns-in-Err : goal.returns-in-Err
returns-in-Err g c =
    runs_nothing (due_by (Some c.args.salt) (bits_in c.args.job.now.size) c.args.job.now.rounds c.args.password.now) 9 _ _ refl (inr refl)
