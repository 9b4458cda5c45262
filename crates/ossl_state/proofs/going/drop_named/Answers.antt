use Rattle.std.proofs.Common.{not, rules}
use Rattle.std.proofs.lemmas.Fn.{filter_same}
use Rattle.ossl_state.specs.Step.{is_named}
use Rattle.ossl_state.proofs.going.drop_named.Goals as goal

pub returns : goal.returns
returns c = filter_same _ (λ x. not (is_named c.args.token x)) _ (λ x b f' h. search rules) _ _ c.retain.ensures
