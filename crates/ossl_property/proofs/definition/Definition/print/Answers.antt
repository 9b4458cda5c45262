use Rattle.std.proofs.Common.{ℕ, List, sym, subst}
use Rattle.ossl_property.specs.Grammar.{IsDefinition}
use Rattle.ossl_property.proofs.Printing.{definition_prints}
use Rattle.ossl_property.proofs.definition.Definition.print.Goals as goal

pub returns-clause-reads : goal.returns-clause-reads
returns-clause-reads c = λ said is. subst (λ (text : List ℕ). IsDefinition text c.args.self.now) (sym c.in_ok-text.ensures) (definition_prints said c.args.self.now is)
