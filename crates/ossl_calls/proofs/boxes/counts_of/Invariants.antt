use Rattle.std.proofs.Common.{◌≡◌, ℕ, ◌<◌, ◌^◌, map, take, get_or}
use Rattle.ossl_calls.proofs.boxes.counts_of.Given as goal

abbrev pub invariant-loop-b : goal.invariant-loop-b
invariant-loop-b g l = record {
  counts : l.counts.items ≡ map (λ b. (g.P.Provider.sheet b).faults) (take l.b-index l.boxes);
  fit : (k : ℕ) → get_or l.counts.items k 0 < 2 ^ 64;
}
