use Rattle.std.proofs.Common.{subst}
use Rattle.std.specs.Option.{IfSome}
use Rattle.ossl_names.specs.Groups.{Groups, IsNumber}
use Rattle.ossl_names.proofs.Indexed.{number-looked}
use Rattle.ossl_names.proofs.Addition.{IsNumber-found}
use Rattle.ossl_names.proofs.Held.{seen}
use Rattle.ossl_names.proofs.map.NameMap.number.Goals as goal

pub returns-clause-there : goal.returns-clause-there
returns-clause-there c =
    let groups = seen c.self.inside.groups.items in
    subst (λ (g : Groups). IfSome c.look_up.result (IsNumber g)) c.self.view_is
    (IsNumber-found groups c.args.name.now c.look_up.result (number-looked groups c.self.inside.index c.args.name.now c.look_up.result c.self.invariant c.look_up.ensures.long c.look_up.ensures.value))
