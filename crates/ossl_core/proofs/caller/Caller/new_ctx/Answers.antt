use Rattle.std.proofs.Common.{◌≡◌, refl, ap, eq-eqb}
use Rattle.ossl_core.specs.Answered.{MethodFacts}
use Rattle.ossl_core.proofs.Laws.{handed, gained-new_ctx}
use Rattle.ossl_core.proofs.caller.Caller.new_ctx.Goals as goal

pub returns-in-Made-clause-made : goal.returns-in-Made-clause-made
returns-in-Made-clause-made g c = let e = c.in_ok-reply.ensures in let a = c.in-Made in
    let handle : c.method.inside.number ≡ c.args.method.now.number =
    ap (λ (m : MethodFacts). m.number) c.method.view_is in
    rw (← handle, ← c.number_of.ensures)
    (handed _ _ _ _ _ _ a.number _ a.is e.answered e.owned e.fresh (eq-eqb a.number a.number refl)
    (gained-new_ctx c.args.self.now.number c.method.inside.number c.number_of.result c.args.key_len a.number))
