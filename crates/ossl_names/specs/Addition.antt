-- What becomes of names that are added together (EVP_MD_fetch(3), in outline).
use Rattle.std.specs.Prelude.{ℕ, ◌+◌, not, ◌==◌, List, [], ◌∷◌, length, find, Option, None, Some, Result, Ok, Err}
use Rattle.std.specs.Prelude.{if◌then◌else◌}
use Rattle.std.specs.List.{list_all}
use Rattle.ossl_names.specs.declared.refusal.AddRefused.{AddRefused}
use Rattle.ossl_names.specs.declared.refusal.AddRefused.TheVariants.{BadName, Conflict}
use Rattle.ossl_names.specs.Name.{names_in, is_name}
use Rattle.ossl_names.specs.Groups.{Groups, known_numbers, with_names}

-- the first known number, unless a later one differs from it
abbrev pub unless_other : ℕ → Option ℕ → Result ℕ AddRefused
unless_other first None = Ok first
unless_other first (Some second) = Err (Conflict first second)

-- the number of names by those known already: that of a new group, or the one that all known names have
abbrev pub common_number : ℕ → List ℕ → Result ℕ AddRefused
common_number new [] = Ok new
common_number new (first ∷ later) = unless_other first (find (λ number. not (number == first)) later)

-- the number that names get
unfoldable pub number_for : Groups → List (List ℕ) → Result ℕ AddRefused
number_for groups names =
    if list_all is_name names then common_number (length groups + 1) (known_numbers groups names) else Err BadName

-- the number that the names of a text get, or the reason why they are refused
abbrev pub addition : Groups → List ℕ → Result ℕ AddRefused
addition groups text = number_for groups (names_in text)

-- the groups after that: as they were, where the names are refused
abbrev pub groups_by : Groups → List (List ℕ) → Result ℕ AddRefused → Groups
groups_by groups names (Ok number) = with_names groups number names
groups_by groups names (Err refused) = groups

-- the groups after a text of names was added
abbrev pub groups_after : Groups → List ℕ → Groups
groups_after groups text = groups_by groups (names_in text) (addition groups text)
