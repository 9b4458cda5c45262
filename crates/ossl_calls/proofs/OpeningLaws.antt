-- What is kept at the opening of a registry.
use Rattle.std.proofs.Common.{◌≡◌, ℕ, ◌+◌, ◌-◌, ◌^◌, ◌<◌, ◌≤◌, min, List, [], ◌∷◌, length, map, refl, arith, suc, zero}
use Rattle.std.specs.Prelude.{slice_index}
use Rattle.std.proofs.lemmas.List.Elements.{All-get_or}
use Rattle.ossl_provider.specs.Sheet.{Sheet}
use Rattle.ossl_state.specs.Boxes.{sheet_of, no_sheet}
use Rattle.ossl_state.specs.History.{Fixed}
use Rattle.ossl_calls.specs.Kept.{IsKept}
use Rattle.ossl_calls.specs.Registry.{IsCatalogue, IsIdle}
use Rattle.ossl_state.specs.State.{opening_state}

pub same_sheet : (s t : Sheet) → s.up ≡ t.up → s.starts ≡ t.starts → s.faults ≡ t.faults → s ≡ t
same_sheet s t up starts faults = λ i. record { up = up i; starts = starts i; faults = faults i }

pub IsKept-opening : (fixed : Fixed) (sheets : List Sheet) → IsCatalogue fixed.facts sheets → fixed.contexts ≤ 8 →
    ((k : ℕ) → k < length sheets → (sheet_of sheets k).faults ≡ slice_index fixed.opened k) → ((k : ℕ) → slice_index fixed.opened k < 2 ^ 64) →
    IsKept fixed sheets (opening_state fixed.contexts) []
IsKept-opening fixed sheets catalogue few counts fit = record {
  names = catalogue.names;
  few = few;
  legal = tt;
  is_after = refl;
  agree = λ k below.
      let here = All-get_or IsIdle sheets k no_sheet below catalogue.idle in
      let count : (sheet_of sheets k).faults ≡ min (slice_index fixed.opened k + 0) (2 ^ 64 - 1) = omega (arith, counts k below, fit k) in
      same_sheet (sheet_of sheets k) _ here.0 here.1 count;
}

-- the count of the box at a place, read from the list of all counts
pub faults-get_or : {P : Type 0} (sheet : P → Sheet) (boxes : List P) (k : ℕ) → k < length (map sheet boxes) →
    (sheet_of (map sheet boxes) k).faults ≡ slice_index (map (λ b. (sheet b).faults) boxes) k
faults-get_or sheet [] k h = absurd (omega arith)
faults-get_or sheet (b ∷ boxes) zero h = refl
faults-get_or sheet (b ∷ boxes) (suc k) h = faults-get_or sheet boxes k (omega arith)
