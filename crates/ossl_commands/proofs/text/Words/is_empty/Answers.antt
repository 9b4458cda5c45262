use Rattle.std.proofs.Common.{sym, ◌∙◌}
use Rattle.ossl_commands.proofs.TextLaws.{are_none}
use Rattle.ossl_commands.proofs.text.Words.is_empty.Goals as goal

pub returns : goal.returns
returns c = record { empty = rw (← c.self.view_is) (c.is_empty.ensures ∙ are_none c.self.inside.text.now _ (sym c.past_blanks.ensures)) }
