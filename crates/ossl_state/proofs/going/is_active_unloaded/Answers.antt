use Rattle.std.proofs.Common.{not, nat_eq}
use Rattle.std.specs.List.{filter}
use Rattle.ossl_state.specs.declared.state.Active.{Active}
use Rattle.ossl_state.specs.Step.{is_of_token, stays_active}
use Rattle.ossl_state.proofs.ListLaws.{list_any-filter}
use Rattle.ossl_state.proofs.going.is_active_unloaded.Goals as goal

pub returns : goal.returns
returns c =
    let lib = c.args.lib.now in
    let stays = stays_active c.args.kept (filter (λ g. not (is_of_token c.args.token g)) lib.given) in
    rw (list_any-filter (λ (a : Active). nat_eq a.instance c.args.instance) stays lib.order, ← c.as_slice-given.ensures, ← c.as_slice.ensures) c.is_staying.ensures
