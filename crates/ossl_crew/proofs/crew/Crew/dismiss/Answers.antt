use Rattle.std.proofs.Common.{◌≡◌, ℕ, ◌+◌, true, List, [], ◌∷◌, ◌++◌, length, sym, ap, subst, ◌∙◌, arith}
use Rattle.std.proofs.lemmas.List.{length-append}
use Rattle.ossl_calls.specs.Registry.{Shown}
use Rattle.ossl_core.specs.Answered.{CallerFacts}
use Rattle.ossl_print.specs.Batched.{Batch}
use Rattle.ossl_script.specs.View.{ScriptCallerView}
use Rattle.ossl_turn.specs.Passes.{AreNumbered, SharedFacts}
use Rattle.ossl_worker.specs.Work.{WorkerFacts}
use Rattle.ossl_crew.specs.Crew.{AreBack, AreEnded, AreReturned, IsBack}
use Rattle.ossl_crew.proofs.CrewLaws.{each_last, each_less, each_more, returned_more}
use Rattle.ossl_crew.proofs.crew.Crew.dismiss.Goals as goal

abbrev Backed : {P : Type 0} → SharedFacts (Shown P) → Batch → ℕ → ℕ → WorkerFacts P → Type 0
Backed shared batch count k worker = (n : ℕ) → n + k ≡ count
    → IsBack shared batch n worker.caller worker.script × (worker.finished ≡ true → worker.script.ended ≡ true)

-- the worker at the end, of which the parts are these
last_back : {P : Type 0} (shared : SharedFacts (Shown P)) (batch : Batch) (count n : ℕ) (workers : List (WorkerFacts P)) (worker : WorkerFacts P)
    (all : List (WorkerFacts P)) (caller : CallerFacts P) (script : ScriptCallerView) → all ≡ workers ++ worker ∷ [] → caller ≡ worker.caller
    → script ≡ worker.script → n + length workers ≡ count → AreBack shared batch count all → IsBack shared batch n caller script
last_back {P} shared batch count n workers worker all caller script is caller_is script_is sum are =
    let back = each_last (Backed shared batch count) workers worker (subst (AreBack shared batch count) is are) n sum in
    subst (λ (z : CallerFacts P × ScriptCallerView). IsBack shared batch n z.0 z.1) (λ i. (sym caller_is i, sym script_is i)) back.0

less_one : {X : Type 0} (xs : List X) (x : X) (all : List X) (n : ℕ) → all ≡ xs ++ x ∷ [] → n ≡ length all → n ≡ length xs + 1
less_one xs x all n is same = same ∙ ap length is ∙ length-append xs (x ∷ [])

pub into_pass-requires-clause-nothing : goal.into_pass-requires-clause-nothing
into_pass-requires-clause-nothing g c κs within =
    let told = c.requires.back in
    let workers = c.loop-worker.self.workers in
    let passes = c.loop-worker.self.passes in
    let start = c.args.self.now.workers.len in
    let one : workers.len ≡ length c.pop.new.self.items + 1 =
    less_one c.pop.new.self.items c.in-Some.worker workers.items workers.len c.in-Some.ensures.items (omega (arith, workers.ok.0)) in
    let count : passes.len + workers.len ≡ start = c.loop-worker.invariant.count in
    (last_back told.0 told.1 start (passes.len + 1) c.pop.new.self.items c.in-Some.worker workers.items c.into_parts-caller.result.0
    c.into_parts-caller.result.1 c.in-Some.ensures.items c.into_parts-caller.ensures.caller c.into_parts-caller.ensures.script
    (omega (arith, one, count)) (c.loop-worker.invariant.left told.0 told.1 told.2)).nothing

pub loop-worker-preserved : goal.loop-worker-preserved
loop-worker-preserved g c =
    let inv = c.loop-worker.invariant in
    let told = c.requires.back in
    let workers = c.loop-worker.self.workers in
    let passes = c.loop-worker.self.passes in
    let scripts = c.loop-worker.self.scripts in
    let start = c.args.self.now.workers.len in
    let caller = c.into_parts-caller.result.0 in
    let script = c.into_parts-caller.result.1 in
    let one : workers.len ≡ length c.pop.new.self.items + 1 =
    less_one c.pop.new.self.items c.in-Some.worker workers.items workers.len c.in-Some.ensures.items (omega (arith, workers.ok.0)) in
    let count : passes.len + workers.len ≡ start = inv.count in
    let same : scripts.len ≡ passes.len = inv.same in
    let passes_len : passes.len ≡ length passes.items = omega (arith, passes.ok.0) in
    let scripts_len : scripts.len ≡ length scripts.items = omega (arith, scripts.ok.0) in
    let back = λ (shared : SharedFacts (Shown g.row.P.Denot)) (batch : Batch) (are : AreBack shared batch start c.args.self.now.workers.items).
    last_back shared batch start (length passes.items + 1) c.pop.new.self.items c.in-Some.worker workers.items caller script
    c.in-Some.ensures.items c.into_parts-caller.ensures.caller c.into_parts-caller.ensures.script
    (omega (arith, one, count, passes_len)) (inv.left shared batch are) in
    let here = back told.0 told.1 told.2 in
    let pushed : c.push_reserved.new.self.items ≡ passes.items ++ caller ∷ [] =
    c.push_reserved.ensures.items ∙ ap (λ (p : CallerFacts g.row.P.Denot). passes.items ++ p ∷ []) c.into_pass.ensures in
    let worker_less : c.pop.new.self.len + 1 ≡ workers.len = c.in-Some.ensures.cases in
    let longer : c.push_reserved.new.self.len ≡ passes.len + 1 = c.push_reserved.ensures.len in
    let more : c.push_reserved-in-Some.new.self.len ≡ scripts.len + 1 = c.push_reserved-in-Some.ensures.len in
    record {
      left = λ shared batch are. each_less (Backed shared batch start) c.pop.new.self.items c.in-Some.worker
          (subst (AreBack shared batch start) c.in-Some.ensures.items (inv.left shared batch are));
      returned = λ shared batch are.
          subst (λ (z : List (CallerFacts g.row.P.Denot) × List ScriptCallerView). AreReturned shared batch z.0 z.1)
          (λ i. (sym pushed i, sym c.push_reserved-in-Some.ensures.items i))
          (returned_more shared batch passes.items scripts.items caller script (omega (arith, same, passes_len, scripts_len))
          (inv.returned shared batch are) (back shared batch are));
      numbered = subst AreNumbered (sym pushed)
          (each_more (λ k (p : CallerFacts g.row.P.Denot). (p.number ≡ k + 1) × (p.made ≡ 0)) passes.items caller inv.numbered (here.number, here.made));
      ended = λ is. let holds = c.both-finished.ensures is in
          subst AreEnded (sym c.push_reserved-in-Some.ensures.items)
          (each_more (λ k (s : ScriptCallerView). s.ended ≡ true) scripts.items script (inv.ended holds.0)
          (c.into_parts-caller.ensures.ended (sym c.finished.ensures.finished ∙ holds.1)));
      same = omega (arith, same, longer, more);
      count = omega (arith, count, worker_less, longer);
      passes_room = rw c.push_reserved.ensures.capacity inv.passes_room;
      scripts_room = rw c.push_reserved-in-Some.ensures.capacity inv.scripts_room;
    }
