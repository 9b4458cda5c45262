use Rattle.std.proofs.Common.{append_assoc}
use Rattle.ossl_script.proofs.outcome.put_finish.Goals as goal

pub returns-in-WrongFinalBlock : goal.returns-in-WrongFinalBlock
returns-in-WrongFinalBlock c = rw c.in-WrongFinalBlock.is (rw append_assoc at c.put_numbered.ensures.ok)
