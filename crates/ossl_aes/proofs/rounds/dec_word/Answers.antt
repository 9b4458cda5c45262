use Rattle.std.proofs.Common.{arith}
use Rattle.ossl_aes.proofs.TableFacts.{dec_words}
use Rattle.ossl_aes.proofs.rounds.dec_word.Goals as goal

pub returns : goal.returns
returns c = dec_words c.args.row c.args.byte (omega arith) (omega arith)
