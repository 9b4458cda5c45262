use Rattle.std.proofs.Common.{ℕ, List, sym, subst}
use Rattle.ossl_property.specs.Grammar.{IsQuery}
use Rattle.ossl_property.proofs.Printing.{query_prints}
use Rattle.ossl_property.proofs.query.Query.print.Goals as goal

pub returns-clause-reads : goal.returns-clause-reads
returns-clause-reads c = λ said is. subst (λ (text : List ℕ). IsQuery text c.args.self.now) (sym c.in_ok-text.ensures) (query_prints said c.args.self.now is)
