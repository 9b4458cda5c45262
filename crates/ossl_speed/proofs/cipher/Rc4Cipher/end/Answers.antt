use Rattle.std.proofs.Common.{List, ℕ, ◌++◌, sym, ap, ◌∙◌}
use Rattle.std.proofs.lemmas.List.{append-nil}
use Rattle.ossl_speed.proofs.Texts.{rc4-none}
use Rattle.ossl_speed.proofs.cipher.Rc4Cipher.end.Goals as goal

pub returns-clause-text : goal.returns-clause-text
returns-clause-text c = sym (ap (λ (t : List ℕ). c.args._out.now.items ++ t) (rc4-none c.args.self) ∙ append-nil c.args._out.now.items)
