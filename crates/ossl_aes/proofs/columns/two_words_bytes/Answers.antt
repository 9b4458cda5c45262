use Rattle.std.proofs.Common.{ap, ◌∙◌, arith}
use Rattle.std.specs.Int.{w64, to_le_bytes}
use Rattle.ossl_aes.proofs.Words.{two_turned}
use Rattle.ossl_aes.proofs.columns.two_words_bytes.Goals as goal

pub returns : goal.returns
returns c = c.to_le_bytes.ensures ∙ ap (to_le_bytes w64) c.swap_bytes.ensures ∙ two_turned c.args.v c.args.w (omega arith) (omega arith)
