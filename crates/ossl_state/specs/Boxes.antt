-- The boxes of a catalogue, each named by its place: names are distinct, so that a place is as good as a name.
use Rattle.std.specs.Prelude.{ℕ, [], false, position, codes, slice_index_or, List}
use Rattle.std.specs.Str.{bytes_eq}
use Rattle.std.specs.declared.option.Option.{Option}
use Rattle.ossl_provider.specs.Sheet.{Facts, Sheet}

-- what never changes in the box at a place
abbrev pub facts_at : List Facts → ℕ → Facts
facts_at facts k = slice_index_or facts k (record { name = []; rows = []; admits = λ code len. false })

-- the place of the box of a name
abbrev pub place_of : List ℕ → List Facts → Option ℕ
place_of name facts = position (λ f. bytes_eq f.name name) facts

-- the provider that a library context falls back to (provider(7))
abbrev pub default_name : List ℕ
default_name = codes "default"

abbrev pub no_sheet : Sheet
no_sheet = record { up = []; starts = 0; faults = 0 }

-- what the box at a place has done
abbrev pub sheet_of : List Sheet → ℕ → Sheet
sheet_of sheets k = slice_index_or sheets k no_sheet

-- a sheet with other instances up
abbrev pub with_up : Sheet → List ℕ → Sheet
with_up s up = record s { up = up }
