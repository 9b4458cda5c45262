use Rattle.std.proofs.Common.{arith}
use Rattle.ossl_aes.specs.Cipher.{add}
use Rattle.ossl_aes.proofs.Words.{bytes-four}
use Rattle.ossl_aes.proofs.TableFacts.{dec0_bytes, dec1_bytes, dec2_bytes, dec3_bytes}
use Rattle.ossl_aes.proofs.rounds.dec_column.Goals as goal

pub returns : goal.returns
unfolding add
returns c = bytes-four _ _ _ _ _ _ _ _
    (dec0_bytes c.args.a (omega arith)) (dec1_bytes c.args.b (omega arith)) (dec2_bytes c.args.c (omega arith)) (dec3_bytes c.args.d (omega arith))
