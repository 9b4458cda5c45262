use Rattle.std.proofs.Common.{◌≡◌, refl, ap, eq-eqb}
use Rattle.ossl_core.specs.Answered.{MethodFacts}
use Rattle.ossl_core.proofs.Laws.{handed, gained-up_ref}
use Rattle.ossl_core.proofs.caller.Caller.up_ref.Goals as goal

pub returns-clause-made : goal.returns-clause-made
returns-clause-made g c = let e = c.in_ok-number.ensures in let a = c.in-Made in
    let handle : c.method.inside.number ≡ c.args.method.now.number =
    ap (λ (m : MethodFacts). m.number) c.method.view_is in
    rw (← handle) (handed _ _ _ _ _ _ a.number _ a.is e.answered e.owned e.fresh (eq-eqb a.number a.number refl)
    (gained-up_ref c.args.self.now.number c.method.inside.number a.number))
