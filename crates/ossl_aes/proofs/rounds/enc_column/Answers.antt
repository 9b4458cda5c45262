use Rattle.std.proofs.Common.{arith}
use Rattle.ossl_aes.specs.Cipher.{add}
use Rattle.ossl_aes.proofs.Words.{bytes-four}
use Rattle.ossl_aes.proofs.TableFacts.{enc0_bytes, enc1_bytes, enc2_bytes, enc3_bytes}
use Rattle.ossl_aes.proofs.rounds.enc_column.Goals as goal

pub returns : goal.returns
unfolding add
returns c = bytes-four _ _ _ _ _ _ _ _
    (enc0_bytes c.args.a (omega arith)) (enc1_bytes c.args.b (omega arith)) (enc2_bytes c.args.c (omega arith)) (enc3_bytes c.args.d (omega arith))
