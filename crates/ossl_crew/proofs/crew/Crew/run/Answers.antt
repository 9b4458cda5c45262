use Rattle.std.proofs.Common.{◌≡◌, ℕ, List, length, sym, subst, arith}
use Rattle.ossl_calls.specs.Registry.{Shown}
use Rattle.ossl_print.specs.Batched.{Batch}
use Rattle.ossl_turn.specs.Passes.{SharedFacts}
use Rattle.ossl_worker.specs.Work.{WorkerFacts}
use Rattle.ossl_crew.specs.Crew.{AreBack, AreHired, HaveRun}
use Rattle.ossl_crew.proofs.CrewLaws.{all_back, all_ready}
use Rattle.ossl_crew.proofs.crew.Crew.run.Goals as goal

-- the same workers, however they are counted
counted : {P : Type 0} (shared : SharedFacts (Shown P)) (batch : Batch) (n m : ℕ) (workers : List (WorkerFacts P)) → n ≡ m
    → AreHired shared batch n workers → AreHired shared batch m workers
counted shared batch n m workers is hired = subst (λ k. AreHired shared batch k workers) is hired

ran : {P : Type 0} (shared : SharedFacts (Shown P)) (batch : Batch) (n m : ℕ) (old new : List (WorkerFacts P)) → n ≡ length old → m ≡ length new
    → HaveRun shared old new → AreHired shared batch n old → AreBack shared batch m new
ran shared batch n m old new is will run hired =
    subst (λ k. AreBack shared batch k new) (sym will) (all_back shared batch old new run (counted shared batch n (length old) old is hired))

pub work-requires-clause-ready : goal.work-requires-clause-ready
work-requires-clause-ready g c κs within =
    let told = c.requires.scripts in
    let workers = c.hire.new.self.workers in
    let each : workers.len ≡ c.args.self.now.scripts.len = c.hire.ensures.each in
    let count : c.args.self.now.scripts.len ≡ length workers.items = omega (arith, each, workers.ok.0) in
    all_ready c.args.shared.now told.0 workers.items told.1
    (counted c.args.shared.now told.0 c.args.self.now.scripts.len (length workers.items) workers.items count (c.hire.ensures.hired told.0 told.2))

pub dismiss-requires-clause-back : goal.dismiss-requires-clause-back
dismiss-requires-clause-back g c κs within =
    let told = c.requires.scripts in
    let workers = c.hire.new.self.workers in
    let new = c.work.new.workers in
    let each : workers.len ≡ c.args.self.now.scripts.len = c.hire.ensures.each in
    let count : c.args.self.now.scripts.len ≡ length workers.items = omega (arith, each, workers.ok.0) in (
      c.args.shared.now,
      told.0,
      ran c.args.shared.now told.0 c.args.self.now.scripts.len new.len workers.items new.items count
          (omega (arith, new.ok.0)) c.work.ensures.run (c.hire.ensures.hired told.0 told.2),
    )

pub returns-clause-returned : goal.returns-clause-returned
returns-clause-returned g c batch few are =
    let workers = c.hire.new.self.workers in
    let new = c.work.new.workers in
    let each : workers.len ≡ c.args.self.now.scripts.len = c.hire.ensures.each in
    let count : c.args.self.now.scripts.len ≡ length workers.items = omega (arith, each, workers.ok.0) in
    c.dismiss.ensures.returned c.args.shared.now batch (ran c.args.shared.now batch c.args.self.now.scripts.len new.len workers.items new.items
    count (omega (arith, new.ok.0)) c.work.ensures.run (c.hire.ensures.hired batch are))
