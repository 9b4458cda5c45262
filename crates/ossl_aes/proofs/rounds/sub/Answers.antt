use Rattle.std.proofs.Common.{arith}
use Rattle.ossl_aes.proofs.TableFacts.{sub_at}
use Rattle.ossl_aes.proofs.rounds.sub.Goals as goal

pub returns : goal.returns
returns c = sub_at c.args.byte (omega arith)
