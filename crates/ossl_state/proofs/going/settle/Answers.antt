use Rattle.std.proofs.Common.{not, rules}
use Rattle.std.specs.List.{filter}
use Rattle.std.proofs.lemmas.Fn.{filter_same}
use Rattle.ossl_state.specs.Step.{is_of_token, stays_active}
use Rattle.ossl_state.proofs.going.settle.Goals as goal

pub returns : goal.returns
returns c = filter_same _ (stays_active c.args.kept (filter (λ g. not (is_of_token c.args.token g)) c.args.given.now)) _ (λ x b f' h. search rules) _ _ c.retain.ensures
