-- Sections by their places.
use Rattle.std.specs.Prelude.{◌≡◌, ℕ, suc, Bool, Option, Some, None, List, [], ◌∷◌, slice_get, if◌then◌else◌}
use Rattle.std.specs.Option.{option_map, option_map_or, option_or, ForSome}
use Rattle.std.specs.Str.{bytes_eq}
use Rattle.ossl_conf.specs.Sections.{Entries, Sections, found, default_section}

-- the place of the first element that passes a test
abbrev pub first_place : {A : Type 0} → (A → Bool) → List A → Option ℕ
first_place test [] = None
first_place test (x ∷ xs) = if test x then Some 0 else option_map (λ at. suc at) (first_place test xs)

-- where a section stands among all
abbrev pub place_of : Sections → List ℕ → Option ℕ
place_of sections name = first_place (λ section. bytes_eq name section.0) sections

-- the section at a place
abbrev pub name_at : Sections → ℕ → List ℕ
name_at sections at = option_map_or (λ section. section.0) (slice_get sections at) []

abbrev pub entries_at : Sections → ℕ → Entries
entries_at sections at = option_map_or (λ section. section.1) (slice_get sections at) []

-- the value of a name in the section at a place, where there is such a place
abbrev pub value_at : Sections → Option ℕ → List ℕ → Option (List ℕ)
value_at sections None name = None
value_at sections (Some at) name = found name (entries_at sections at)

-- the current section by its place; none stands for `default`, before a section is opened
abbrev pub current_name : Sections → Option ℕ → List ℕ
current_name sections None = default_section
current_name sections (Some at) = name_at sections at

-- a place is one of a section that is there, or none
abbrev pub IsPlace : Sections → Option ℕ → Type 0
IsPlace sections place = ForSome place (λ at. place_of sections (name_at sections at) ≡ Some at)

-- the value of a name in the section at a place, or else in `default`
abbrev pub value_at_or_default : Sections → Option ℕ → List ℕ → Option (List ℕ)
value_at_or_default sections place name =
    option_or (value_at sections place name) (value_at sections (place_of sections default_section) name)

-- every section stays where it is
abbrev pub Stays : Sections → Sections → Type 0
Stays old new = (name : List ℕ) (at : ℕ) → place_of old name ≡ Some at → place_of new name ≡ Some at
