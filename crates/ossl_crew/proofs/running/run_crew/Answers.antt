use Rattle.std.proofs.Common.{◌≡◌, ℕ, ◌≤◌, List, ap, subst, ◌∙◌, arith}
use mathlib.Core.List.{IsPrefix}
use Rattle.ossl_base.specs.declared.entry.Entry.{Entry}
use Rattle.ossl_calls.specs.Registry.{fixed_of}
use Rattle.ossl_commands.specs.Counts.{callers_of, contexts_of}
use Rattle.ossl_state.specs.declared.call.Call.{Call}
use Rattle.ossl_state.specs.declared.call.Reply.{Reply}
use Rattle.ossl_state.specs.History.{Fixed}
use Rattle.ossl_state.specs.Tokens.{entries_of}
use Rattle.ossl_print.specs.Batched.{Batch}
use Rattle.ossl_crew.specs.Crew.{AreScripts, WereAtWork}
use Rattle.ossl_crew.proofs.RunLaws.{gave_back, have_done}
use Rattle.ossl_crew.proofs.HistoryLaws.{all_came, legal_history}
use Rattle.ossl_crew.proofs.running.run_crew.Goals as goal

-- as many library contexts by what never changes
contexts_by : (old new : Fixed) (n : ℕ) → new ≡ old → n ≤ old.contexts → n ≤ new.contexts
contexts_by old new n is few = let same : new.contexts ≡ old.contexts = ap (λ (f : Fixed). f.contexts) is in omega (arith, few, same)

pub resume-requires-clause-lawful : goal.resume-requires-clause-lawful
resume-requires-clause-lawful g c κs within =
    legal_history (fixed_of g.P.Provider.facts c.args.registry) c.args.registry.entries c.requires.legal

pub close_all-requires-clause-others : goal.close_all-requires-clause-others
close_all-requires-clause-others g c κs within =
    let told = c.requires.scripts in
    let shared = c.in-Ok.opened.0 in
    let new = c.run-finished.new.self in (
      all_came shared told.0 new.passes.items new.scripts.items
          (c.run-finished.ensures.returned told.0
          (contexts_by (fixed_of g.P.Provider.facts c.args.registry) (fixed_of g.P.Provider.facts shared.origin) (contexts_of told.0.lines)
          c.in-Ok.ensures.shared told.1) told.2),
      c.run-finished.ensures.numbered,
    )

module _ (g : _) (c : goal.After-close_all g) where
  worked : (batch : Batch) → contexts_of batch.lines ≤ c.args.registry.contexts → AreScripts batch c.args.crew.scripts.items
      → WereAtWork g.row.P.Denot batch c.args.registry.entries c.close_all.result.entries c.run-finished.new.self.scripts.items
  worked batch few are =
      let shared = c.in-Ok.opened.0 in
      let new = c.run-finished.new.self in
      let log : List (Entry Call Reply) = c.close_all.result.entries in
      let passes_each : new.passes.len ≡ c.args.crew.scripts.len = c.run-finished.ensures.each.0 in
      let scripts_each : new.scripts.len ≡ c.args.crew.scripts.len = c.run-finished.ensures.each.1 in
      record {
        shared = shared;
        callers = new.passes.items;
        back = c.run-finished.ensures.returned batch
            (contexts_by (fixed_of g.P.Provider.facts c.args.registry) (fixed_of g.P.Provider.facts shared.origin) (contexts_of batch.lines)
            c.in-Ok.ensures.shared few) are;
        same = omega (arith, passes_each, scripts_each, new.passes.ok.0, new.scripts.ok.0);
        confirmed = c.close_all.ensures.confirms_others;
        within = c.close_all.ensures.within;
        begins = subst (λ (h : List (Entry Call Reply)). IsPrefix h log) (c.run-finished.ensures.stays.1 ∙ c.in-Ok.ensures.seen.0)
            c.close_all.ensures.confirms_first.0;
        program = subst (λ (n : ℕ). entries_of n log ≡ c.run-finished.new.first.own) c.run-finished.ensures.first.1
            c.close_all.ensures.confirms_first.1
            ∙ c.run-finished.ensures.stays.0 ∙ c.in-Ok.ensures.seen.1;
      }

pub returns-clause-worked : goal.returns-clause-worked
returns-clause-worked g c = worked g c

pub returns-clause-gave_back : goal.returns-clause-gave_back
returns-clause-gave_back g c =
    let told = c.requires.scripts in
    gave_back told.0 c.args.registry.entries c.close_all.result.entries c.run-finished.new.self.scripts.items
    (worked g c told.0 told.1 told.2) c.requires.program

pub returns-clause-done : goal.returns-clause-done
returns-clause-done g c finished batch few are each =
    let scripts = c.run-finished.new.self.scripts in
    let same : scripts.len ≡ c.args.crew.scripts.len = c.run-finished.ensures.each.1 in
    let all : c.args.crew.scripts.len ≡ callers_of batch.lines = each in
    have_done batch c.args.registry.entries c.close_all.result.entries scripts.items (worked g c batch few are) c.requires.program
    (omega (arith, same, all, scripts.ok.0)) (c.run-finished.ensures.ended finished)
