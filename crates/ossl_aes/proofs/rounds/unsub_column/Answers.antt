use Rattle.std.proofs.Common.{arith, ◌∙◌}
use Rattle.ossl_aes.proofs.Words.{bytes-four, places_sum}
use Rattle.ossl_aes.proofs.TableFacts.{unsub0_bytes, unsub1_bytes, unsub2_bytes, unsub3_bytes}
use Rattle.ossl_aes.proofs.rounds.unsub_column.Goals as goal

pub returns : goal.returns
returns c =
    bytes-four _ _ _ _ _ _ _ _
    (unsub0_bytes c.args.a (omega arith)) (unsub1_bytes c.args.b (omega arith)) (unsub2_bytes c.args.c (omega arith)) (unsub3_bytes c.args.d (omega arith))
    ∙ places_sum _ _ _ _
