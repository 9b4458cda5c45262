use Rattle.std.proofs.Common.{append_assoc}
use Rattle.ossl_script.proofs.outcome.put_outcome.Goals as goal

pub returns-in-BadQuery : goal.returns-in-BadQuery
returns-in-BadQuery c = rw c.in-BadQuery.is (rw append_assoc at c.put_numbered-in-BadQuery.ensures.ok)
