use Rattle.std.proofs.Common.{◌≡◌, ℕ, ◌+◌, List, [], ◌∷◌, ◌++◌, length, All, sym, ap, subst, ◌∙◌, arith}
use Rattle.std.proofs.lemmas.List.{length-append}
use Rattle.ossl_core.specs.Answered.{CallerFacts}
use Rattle.ossl_print.specs.Batched.{Batch}
use Rattle.ossl_script.specs.View.{ScriptCallerView}
use Rattle.ossl_turn.specs.Passes.{AreNumbered, CameFrom}
use Rattle.ossl_worker.specs.Work.{IsFreshScript, WorkerFacts}
use Rattle.ossl_crew.specs.Crew.{AreHired, AreScripts, IsHired, IsScriptOf}
use Rattle.ossl_crew.proofs.CrewLaws.{each_last, each_less, each_more, hired_new}
use Rattle.ossl_crew.proofs.crew.Crew.hire.Goals as goal

abbrev Numbered : {P : Type 0} → ℕ → CallerFacts P → Type 0
Numbered k p = (p.number ≡ k + 1) × (p.made ≡ 0)

abbrev Scripted : Batch → ℕ → ScriptCallerView → Type 0
Scripted batch k s = IsScriptOf batch (k + 1) s × IsFreshScript s

-- the script at the end is that of the pass at the end
last_script : (batch : Batch) (scripts : List ScriptCallerView) (script : ScriptCallerView) (all : List ScriptCallerView) → all ≡ scripts ++ script ∷ []
    → AreScripts batch all → IsScriptOf batch (length scripts + 1) script × IsFreshScript script
last_script batch scripts script all is are = each_last (Scripted batch) scripts script (subst (AreScripts batch) is are)

last_pass : {P : Type 0} (passes : List (CallerFacts P)) (pass : CallerFacts P) (all : List (CallerFacts P)) → all ≡ passes ++ pass ∷ []
    → AreNumbered all → (pass.number ≡ length passes + 1) × (pass.made ≡ 0)
last_pass passes pass all is are = each_last Numbered passes pass (subst AreNumbered is are)

-- how long a list was without its last item
less_one : {X : Type 0} (xs : List X) (x : X) (all : List X) (n : ℕ) → all ≡ xs ++ x ∷ [] → n ≡ length all → n ≡ length xs + 1
less_one xs x all n is same = same ∙ ap length is ∙ length-append xs (x ∷ [])

pub new-requires-in-Some-clause-number : goal.new-requires-in-Some-clause-number
new-requires-in-Some-clause-number g c κs within =
    let passes = c.loop-pass.self.passes in
    let scripts = c.loop-pass.self.scripts in
    let told = c.requires.scripts in
    let script = last_script told.0 c.pop-in-Some.new.self.items c.in-Some-pop.script scripts.items c.in-Some-pop.ensures.items
    (c.loop-pass.invariant.scripts told.0 told.1) in
    let pass = last_pass c.pop.new.self.items c.in-Some.pass passes.items c.in-Some.ensures.items c.loop-pass.invariant.numbered in
    let one : passes.len ≡ length c.pop.new.self.items + 1 =
    less_one c.pop.new.self.items c.in-Some.pass passes.items passes.len c.in-Some.ensures.items (omega (arith, passes.ok.0)) in
    let two : scripts.len ≡ length c.pop-in-Some.new.self.items + 1 =
    less_one c.pop-in-Some.new.self.items c.in-Some-pop.script scripts.items scripts.len c.in-Some-pop.ensures.items (omega (arith, scripts.ok.0)) in
    let same : scripts.len ≡ passes.len = c.loop-pass.invariant.same in
    c.number-number.ensures ∙ pass.0 ∙ sym one ∙ sym same ∙ two ∙ sym script.0.caller

pub new-requires-in-Some-clause-none : goal.new-requires-in-Some-clause-none
new-requires-in-Some-clause-none g c κs within =
    ap (λ (p : CallerFacts g.row.P.Denot). p.own) c.new.ensures
    ∙ each_last (λ k (p : CallerFacts g.row.P.Denot). p.own ≡ []) c.pop.new.self.items c.in-Some.pass
    (subst (All (λ (p : CallerFacts g.row.P.Denot). p.own ≡ [])) c.in-Some.ensures.items c.loop-pass.invariant.fresh)

pub new-requires-in-Some-clause-fresh : goal.new-requires-in-Some-clause-fresh
new-requires-in-Some-clause-fresh g c κs within =
    let told = c.requires.scripts in
    (last_script told.0 c.pop-in-Some.new.self.items c.in-Some-pop.script c.loop-pass.self.scripts.items c.in-Some-pop.ensures.items
    (c.loop-pass.invariant.scripts told.0 told.1)).1

pub loop-pass-preserved : goal.loop-pass-preserved
loop-pass-preserved g c =
    let inv = c.loop-pass.invariant in
    let passes = c.loop-pass.self.passes in
    let scripts = c.loop-pass.self.scripts in
    let workers = c.loop-pass.self.workers in
    let shared = c.args.shared.now in
    let start = c.args.self.now.scripts.len in
    let pass = last_pass c.pop.new.self.items c.in-Some.pass passes.items c.in-Some.ensures.items inv.numbered in
    let came : All (CameFrom shared) (c.pop.new.self.items ++ c.in-Some.pass ∷ []) = subst (All (CameFrom shared)) c.in-Some.ensures.items inv.came in
    let fresh : All (λ (p : CallerFacts g.row.P.Denot). p.own ≡ []) (c.pop.new.self.items ++ c.in-Some.pass ∷ []) =
    subst (All (λ (p : CallerFacts g.row.P.Denot). p.own ≡ [])) c.in-Some.ensures.items inv.fresh in
    let one : passes.len ≡ length c.pop.new.self.items + 1 =
    less_one c.pop.new.self.items c.in-Some.pass passes.items passes.len c.in-Some.ensures.items (omega (arith, passes.ok.0)) in
    let two : scripts.len ≡ length c.pop-in-Some.new.self.items + 1 =
    less_one c.pop-in-Some.new.self.items c.in-Some-pop.script scripts.items scripts.len c.in-Some-pop.ensures.items (omega (arith, scripts.ok.0)) in
    let same : scripts.len ≡ passes.len = inv.same in
    let count : passes.len + workers.len ≡ start = inv.count in
    let worker_len : workers.len ≡ length workers.items = omega (arith, workers.ok.0) in
    let pass_less : c.pop.new.self.len + 1 ≡ passes.len = c.in-Some.ensures.cases in
    let script_less : c.pop-in-Some.new.self.len + 1 ≡ scripts.len = c.in-Some-pop.ensures.cases in
    let longer : c.push_reserved.new.self.len ≡ workers.len + 1 = c.push_reserved.ensures.len in
    record {
      came = each_less (λ k. CameFrom shared) c.pop.new.self.items c.in-Some.pass came;
      numbered = each_less Numbered c.pop.new.self.items c.in-Some.pass (subst AreNumbered c.in-Some.ensures.items inv.numbered);
      fresh = each_less (λ k (p : CallerFacts g.row.P.Denot). p.own ≡ []) c.pop.new.self.items c.in-Some.pass fresh;
      scripts = λ batch are. each_less (Scripted batch) c.pop-in-Some.new.self.items c.in-Some-pop.script
          (subst (AreScripts batch) c.in-Some-pop.ensures.items (inv.scripts batch are));
      hired = λ batch are.
          let script = last_script batch c.pop-in-Some.new.self.items c.in-Some-pop.script scripts.items c.in-Some-pop.ensures.items (inv.scripts batch are) in
          subst (AreHired shared batch start) (sym c.push_reserved.ensures.items)
          (each_more (λ k (w : WorkerFacts g.row.P.Denot). (n : ℕ) → n + k ≡ start → IsHired shared batch n w) workers.items c.new-in-Some.result (inv.hired batch are)
          (λ n sum.
          let is : length c.pop-in-Some.new.self.items + 1 ≡ n = omega (arith, one, two, same, count, worker_len, sum) in
          let number : c.in-Some.pass.number ≡ length c.pop.new.self.items + 1 = pass.0 in
          hired_new shared batch n c.in-Some.pass c.in-Some-pop.script c.new-in-Some.result (c.new-in-Some.ensures.caller ∙ c.new.ensures)
          c.new-in-Some.ensures.script
          (each_last (λ k. CameFrom shared) c.pop.new.self.items c.in-Some.pass came) (omega (arith, number, one, two, same, is)) pass.1
          (each_last (λ k (p : CallerFacts g.row.P.Denot). p.own ≡ []) c.pop.new.self.items c.in-Some.pass fresh)
          (subst (λ m. IsScriptOf batch m c.in-Some-pop.script) is script.0) script.1));
      same = omega (arith, same, pass_less, script_less);
      count = omega (arith, count, pass_less, longer);
      passes_room = rw c.in-Some.ensures.capacity inv.passes_room;
      scripts_room = rw c.in-Some-pop.ensures.capacity inv.scripts_room;
      workers_room = rw c.push_reserved.ensures.capacity inv.workers_room;
    }
