-- Devices of the plain registry: the sheets of all boxes once one of them was started, or had not to be.
use Rattle.std.specs.Prelude.{ℕ, Bool, List, slice_set, if◌then◌else◌}
use Rattle.ossl_provider.specs.Sheet.{Sheet, after_start}
use Rattle.ossl_state.specs.Boxes.{sheet_of}

abbrev pub sheets_started : Bool → List Sheet → ℕ → ℕ → List Sheet
sheets_started starts sheets k n = if starts then slice_set sheets k (after_start (sheet_of sheets k) n) else sheets
