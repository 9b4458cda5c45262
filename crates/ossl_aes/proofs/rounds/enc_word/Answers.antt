use Rattle.std.proofs.Common.{arith}
use Rattle.ossl_aes.proofs.TableFacts.{enc_words}
use Rattle.ossl_aes.proofs.rounds.enc_word.Goals as goal

pub returns : goal.returns
returns c = enc_words c.args.row c.args.byte (omega arith) (omega arith)
