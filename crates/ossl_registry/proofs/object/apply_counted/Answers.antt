use Rattle.std.proofs.Common.{◌≡◌, List, [], ◌∷◌, ◌++◌, subst}
use Rattle.ossl_base.specs.declared.entry.Entry.{Entry}
use Rattle.ossl_state.specs.declared.call.Call.{Call}
use Rattle.ossl_state.specs.declared.call.Reply.{Reply}
use Rattle.ossl_state.specs.History.{Fixed, IsLegal, IsNext}
use Rattle.ossl_state.proofs.HistoryLaws.{IsLegal-last}
use Rattle.ossl_registry.proofs.object.apply_counted.Goals as goal

-- the last entry of a legal history is a step
last_is_next : (fixed fixed' : Fixed) (es es' : List (Entry Call Reply)) (e : Entry Call Reply) →
    fixed' ≡ fixed → es' ≡ es ++ e ∷ [] → IsLegal fixed' es' → IsNext fixed es e
last_is_next fixed fixed' es es' e same longer legal =
    (IsLegal-last fixed es e (subst (λ (z : Fixed × List (Entry Call Reply)). IsLegal z.0 z.1)
    (λ i. (same i, longer i)) legal)).1

pub returns-in-Ok-clause-next : goal.returns-in-Ok-clause-next
returns-in-Ok-clause-next g c =
    last_is_next _ _ _ _ _ c.apply.ensures.fixed c.in-Ok.ensures.entry c.apply.ensures.legal
