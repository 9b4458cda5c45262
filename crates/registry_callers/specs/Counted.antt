-- Callers in order, and the registry that they share.
use Rattle.std.specs.Prelude.{◌≡◌, ℕ, ◌+◌, ◌<◌, List, length, map, slice_index_or}
use Rattle.ossl_core.specs.Answered.{CallerFacts}
use Rattle.ossl_provider.specs.Sheet.{Facts, Sheet}
use Rattle.ossl_state.specs.History.{Fixed}

-- so many callers, the one with the greatest number first
abbrev pub AreCounted : {P : Type 0} → ℕ → List (CallerFacts P) → Type 0
AreCounted {P} n callers = (k : ℕ) (d : CallerFacts P) → k < length callers →
    ((slice_index_or callers k d).number + k ≡ n) × ((slice_index_or callers k d).made ≡ 0)

-- what never changes in a registry with two library contexts over these boxes
abbrev pub fixed_over : {P : Type 0} → (P → Facts) → (P → Sheet) → List P → Fixed
fixed_over facts sheet boxes =
    record { facts = map facts boxes; contexts = 2; opened = map (λ b. (sheet b).faults) boxes }
