use Rattle.std.proofs.Common.{Ok, Err, ap, refl}
use Rattle.ossl_base.specs.declared.files.FileRefusal.TheVariants.{Failed, TooLong}
use Rattle.ossl_conf.proofs.read.content_of.Goals as goal

pub returns-in-Ok-clause-answer : goal.returns-in-Ok-clause-answer
returns-in-Ok-clause-answer g c = (Ok c.in-Ok.content.items, (rw (← c.as_slice.ensures.bytes) c.in-Ok.ensures.content, c.in-Ok.ensures.within), refl)

pub returns-in-Err-Failed-clause-answer : goal.returns-in-Err-Failed-clause-answer
returns-in-Err-Failed-clause-answer g c = (Err Failed, tt, refl)

pub returns-in-Err-TooLong-clause-answer : goal.returns-in-Err-TooLong-clause-answer
returns-in-Err-TooLong-clause-answer g c = (Err TooLong, rw (← c.as_slice.ensures.bytes) (c.in-Err-TooLong.ensures.too_long (ap Err c.in-Err-TooLong.field-0-is)), refl)
