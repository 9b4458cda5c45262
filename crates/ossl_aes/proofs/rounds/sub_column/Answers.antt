use Rattle.std.proofs.Common.{arith, ◌∙◌}
use Rattle.ossl_aes.proofs.Words.{bytes-four, places_sum}
use Rattle.ossl_aes.proofs.TableFacts.{sub0_bytes, sub1_bytes, sub2_bytes, sub3_bytes}
use Rattle.ossl_aes.proofs.rounds.sub_column.Goals as goal

pub returns : goal.returns
returns c =
    bytes-four _ _ _ _ _ _ _ _
    (sub0_bytes c.args.a (omega arith)) (sub1_bytes c.args.b (omega arith)) (sub2_bytes c.args.c (omega arith)) (sub3_bytes c.args.d (omega arith))
    ∙ places_sum _ _ _ _
