use Rattle.std.proofs.Common.{arith}
use Rattle.ossl_aes.proofs.TableFacts.{unsub_at}
use Rattle.ossl_aes.proofs.rounds.unsub.Goals as goal

pub returns : goal.returns
returns c = unsub_at c.args.byte (omega arith)
