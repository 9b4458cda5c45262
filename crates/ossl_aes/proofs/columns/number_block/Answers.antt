use Rattle.std.proofs.Common.{sym, ◌∙◌}
use Rattle.ossl_aes.proofs.Quarters.{quarters}
use Rattle.ossl_aes.proofs.columns.number_block.Goals as goal

pub returns : goal.returns
returns c = c.store.ensures ∙ sym (quarters c.args.n)
