-- Sections: each a list of names and values, in the order in which they were first set.
use Rattle.std.specs.Prelude.{ℕ, Option, List, [], ◌∷◌, codes, if◌then◌else◌}
use Rattle.std.specs.Map.{lookup}
use Rattle.std.specs.Option.{option_and_then, option_or}
use Rattle.std.specs.Str.{bytes_eq}

-- names and their values
abbrev pub Entries : Type 0
Entries = List (List ℕ × List ℕ)

-- sections by their names
abbrev pub Sections : Type 0
Sections = List (List ℕ × Entries)

-- what stands under a name is changed in its place; a name that is not there comes last, as the change of what is new
abbrev pub changed : {A : Type 0} → (A → A) → A → List ℕ → List (List ℕ × A) → List (List ℕ × A)
changed change new name [] = (name, change new) ∷ []
changed change new name (entry ∷ entries) =
    if bytes_eq name entry.0 then (entry.0, change entry.1) ∷ entries else entry ∷ changed change new name entries

-- the section is there, if only without entries
abbrev pub with_section : List ℕ → Sections → Sections
with_section name sections = changed (λ entries. entries) [] name sections

-- a name set in a section: where it stood it keeps its place
abbrev pub with_value : List ℕ → List ℕ → List ℕ → Sections → Sections
with_value section name value sections = changed (λ entries. changed (λ old. value) [] name entries) [] section sections

-- what stands under a name
abbrev pub found : {A : Type 0} → List ℕ → List (List ℕ × A) → Option A
found name entries = lookup (bytes_eq name) entries

-- the value of a name in a section
abbrev pub value_in : Sections → List ℕ → List ℕ → Option (List ℕ)
value_in sections section name = option_and_then (found name) (found section sections)

-- the section to which lines before the first `[` belong
abbrev pub default_section : List ℕ
default_section = codes "default"

-- the value of a variable: that of the section, else that of `default`
abbrev pub variable_value : Sections → List ℕ → List ℕ → Option (List ℕ)
variable_value sections section name =
    option_or (value_in sections section name) (value_in sections default_section name)
