use Rattle.std.proofs.Common.{◌≡◌, List, length, sym, ap, subst, ◌∙◌, arith}
use Rattle.ossl_base.specs.declared.entry.Entry.{Entry}
use Rattle.ossl_calls.specs.Registry.{Shown}
use Rattle.ossl_commands.specs.Counts.{callers_of, contexts_of}
use Rattle.ossl_crew.specs.Course.{HaveEnded}
use Rattle.ossl_crew.specs.Crew.{HaveGivenBack}
use Rattle.ossl_crew.proofs.CourseLaws.{gave_nothing}
use Rattle.ossl_state.specs.declared.call.Call.{Call}
use Rattle.ossl_state.specs.declared.call.Reply.{Reply}
use Rattle.ossl_crew.proofs.course.run_callers.Goals as goal

pub returns-in-true-clause-done : goal.returns-in-true-clause-done
returns-in-true-clause-done g c batch of =
    let was : c.into_parts-registry.result.0 ≡ c.args.registry = c.into_parts-registry.ensures.registry in
    let now : c.new-registry.result ≡ c.in-Ok.back.registry = c.new-registry.ensures.left in
    let same : c.into_parts-registry.result.0.contexts ≡ c.args.registry.contexts = ap (λ (r : Shown g.row.P.Denot). r.contexts) was in
    let few : contexts_of batch.lines ≡ c.args.registry.contexts = of.few in
    let each : length c.args.crew.scripts.items ≡ callers_of batch.lines = of.each in
    let did = c.in-Ok.ensures.done c.in-true.is batch (omega (arith, few, same)) of.are (omega (arith, each, c.args.crew.scripts.ok.0)) in
    let worked = c.in-Ok.ensures.worked batch (omega (arith, few, same)) of.are in
    let left = c.in-Ok.back.scripts in
    let as_many : left.len ≡ c.args.crew.scripts.len = c.in-Ok.ensures.each in
    let all : length left.items ≡ callers_of batch.lines =
    omega (arith, each, as_many, left.ok.0, c.args.crew.scripts.ok.0) in
    subst (λ (z : List (Entry Call Reply) × List (Entry Call Reply)). HaveEnded g.row.P.Denot batch z.0 z.1 c.in-Ok.back.scripts.items)
    (λ i. (ap (λ (r : Shown g.row.P.Denot). r.entries) was i, ap (λ (r : Shown g.row.P.Denot). r.entries) (sym now) i))
    (record { done = did; each = all; ended = c.in-Ok.ensures.ended c.in-true.is; worked = worked })

pub returns-in-Err-clause-gave_back : goal.returns-in-Err-clause-gave_back
returns-in-Err-clause-gave_back g c =
    let was : c.into_parts-registry.result.0 ≡ c.args.registry = c.into_parts-registry.ensures.registry in
    let now : c.new.result ≡ c.in-Err.field-0.object = c.new.ensures.left in
    let back : c.in-Err.field-0.object ≡ c.into_parts-registry.result.0 = c.in-Err.ensures.refused in
    let whole : c.new.result ≡ c.args.registry = now ∙ back ∙ was in
    subst (HaveGivenBack c.args.registry.entries) (sym (ap (λ (r : Shown g.row.P.Denot). r.entries) whole))
    (gave_nothing c.args.registry.entries)
