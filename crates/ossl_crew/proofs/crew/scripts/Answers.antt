use Rattle.std.proofs.Common.{◌≡◌, ℕ, ◌+◌, List, [], ◌∷◌, ◌++◌, length, sym, ap, subst, ◌∙◌}
use Rattle.std.proofs.lemmas.List.{length-append}
use Rattle.ossl_print.specs.Batched.{Batch}
use Rattle.ossl_script.specs.View.{ScriptCallerView}
use Rattle.ossl_worker.specs.Work.{IsFreshScript}
use Rattle.ossl_crew.specs.Crew.{AreScripts, IsScriptOf}
use Rattle.ossl_crew.proofs.CrewLaws.{each_more, script_new}
use Rattle.ossl_crew.proofs.crew.scripts.Goals as goal

pub loop-place-preserved : goal.loop-place-preserved
loop-place-preserved c =
    let batch : Batch = record { lines = c.args.script.now.commands; contents = c.args.contents.now } in
    let so_far : List ScriptCallerView = c.loop-place.scripts.items in
    let script : ScriptCallerView = c.in_ok-caller.caller in
    let items : so_far ++ script ∷ [] ≡ c.push.new.self.items = sym c.in_ok-push.ensures.items in
    let told = c.in_ok-caller.ensures in
    let new : IsScriptOf batch (length so_far + 1) script × IsFreshScript script =
    subst (λ (n : ℕ). IsScriptOf batch (n + 1) script × IsFreshScript script) (sym c.loop-place.invariant.each)
    (script_new batch (c.loop-place.place + 1) script told.fresh told.batch) in
    record {
      each = ap length (sym items) ∙ length-append so_far (script ∷ []) ∙ ap (λ n. n + 1) c.loop-place.invariant.each;
      scripts = subst (AreScripts batch) items
          (each_more (λ k s. IsScriptOf batch (k + 1) s × IsFreshScript s) so_far script c.loop-place.invariant.scripts new);
    }
