use Rattle.std.proofs.Common.{not, nat_eq, rules}
use Rattle.std.proofs.lemmas.Fn.{filter_same}
use Rattle.ossl_provider.proofs.table.take_out.Goals as goal

pub returns-clause-numbers : goal.returns-clause-numbers
returns-clause-numbers c = filter_same _ (λ x. not (nat_eq x c.args.number)) _ (λ x b f' h. search rules) _ _ c.retain.ensures.filtered
