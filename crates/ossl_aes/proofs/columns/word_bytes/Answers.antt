use Rattle.std.proofs.Common.{ap, ◌∙◌}
use Rattle.std.specs.Int.{w32, to_le_bytes}
use Rattle.ossl_aes.proofs.Words.{turned_4}
use Rattle.ossl_aes.proofs.columns.word_bytes.Goals as goal

pub returns : goal.returns
returns c = c.to_le_bytes.ensures ∙ ap (to_le_bytes w32) c.swap_bytes.ensures ∙ turned_4 c.args.w
