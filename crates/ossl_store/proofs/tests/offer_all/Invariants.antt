use Rattle.std.proofs.Common.{◌≡◌, ◌≤◌, ℕ, false}
use Rattle.ossl_store.specs.Offering.{has_instance, has_rank}
use Rattle.ossl_store.proofs.tests.offer_all.Given as goal

abbrev pub invariant-loop-instance : goal.invariant-loop-instance
invariant-loop-instance l = record {
  instances : (k : ℕ) → l.instance ≤ k → has_instance k l.store ≡ false;
  ranks : (k : ℕ) → l.instance ≤ k → has_rank k l.store ≡ false;
}
