-- Sections by rows: the names of all sections, and each value by its section's place among them and by its name.
use Rattle.std.specs.Prelude.{ℕ, ◌+◌, ◌==◌, nat_lt, Bool, List, [], ◌∷◌, length, map, Vec, if◌then◌else◌}
use Rattle.std.specs.declared.alloc.Global.{Global}
use Rattle.std.specs.List.{list_all}
use Rattle.smallvec.specs.SmallVec.{SmallVec}
use Rattle.ossl_conf.specs.Sections.{Entries, Sections}

-- values by their section's place and their name
abbrev pub Rows : Type 0
Rows = List ((ℕ × List ℕ) × List ℕ)

-- the names and values of the section at a place
abbrev pub of_section : ℕ → Rows → Entries
of_section at [] = []
of_section at (row ∷ rows) = if at == row.0.0 then (row.0.1, row.1) ∷ of_section at rows else of_section at rows

-- the sections of these names, the first of which stands at this place
abbrev pub sections_by : ℕ → List (List ℕ) → Rows → Sections
sections_by at [] rows = []
sections_by at (name ∷ names) rows = (name, of_section at rows) ∷ sections_by (at + 1) names rows

-- each row's section is among the names
abbrev pub are_placed : List (List ℕ) → Rows → Bool
are_placed names rows = list_all (λ row. nat_lt row.0.0 (length names)) rows

-- the names and the rows as the code keeps them
abbrev pub names_of : List (Vec ℕ Global) → List (List ℕ)
names_of keys = map (λ key. key.items) keys

abbrev pub row_of : (ℕ × SmallVec ℕ) × List ℕ → (ℕ × List ℕ) × List ℕ
row_of entry = ((entry.0.0, entry.0.1.items), entry.1)

abbrev pub rows_of : List ((ℕ × SmallVec ℕ) × List ℕ) → Rows
rows_of entries = map row_of entries
