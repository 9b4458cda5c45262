use Rattle.ossl_calls.specs.Registry.{fixed_of}
use Rattle.ossl_core.proofs.Laws.{answered_if, owned_if, fresh_if}
use Rattle.ossl_core.proofs.caller.Caller.perform.Goals as goal

pub returns-clause-answered : goal.returns-clause-answered
returns-clause-answered g c =
    answered_if (fixed_of g.P.Provider.facts c.args.shared.now.origin) _ _ _ _ c.self.view_is c.call.result
    c.call.ensures.answered

pub returns-clause-owned : goal.returns-clause-owned
returns-clause-owned g c =
    owned_if (fixed_of g.P.Provider.facts c.args.shared.now.origin) _ _ _ _ c.self.view_is c.call.result
    c.call.ensures.answered

pub returns-clause-fresh : goal.returns-clause-fresh
returns-clause-fresh g c =
    fresh_if (fixed_of g.P.Provider.facts c.args.shared.now.origin) _ _ _ _ c.self.view_is c.call.result
    c.call.ensures.answered
