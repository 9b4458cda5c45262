-- Groups of names in lower case. The number of a group is its place plus one (EVP_MD_fetch(3), in outline).
use Rattle.std.specs.Prelude.{◌≡◌, ℕ, ◌-◌, ◌≤◌, Bool, List, [], ◌∷◌, ◌++◌, length, fold, filter_map, Option, Some}
use Rattle.std.specs.Prelude.{nat_le, slice_set, slice_index_or, if◌then◌else◌}
use Rattle.std.specs.List.{list_any, position_from}
use Rattle.std.specs.Str.{bytes_eq}
use Rattle.ossl_names.specs.Name.{folded}

-- one group: the names that mean one algorithm
abbrev pub Group : Type 0
Group = List (List ℕ)

-- all groups of a library context, in the order of their numbers
abbrev pub Groups : Type 0
Groups = List Group

-- the number of a group: they are counted from 1
abbrev pub IsNumber : Groups → ℕ → Type 0
IsNumber groups number = (1 ≤ number) × (number ≤ length groups)

-- the group has the name, whatever its case
abbrev pub has_name : Group → List ℕ → Bool
has_name group name = list_any (bytes_eq (folded name)) group

-- the number of the group that has the name
unfoldable pub number_of : Groups → List ℕ → Option ℕ
number_of groups name = position_from (λ group. has_name group name) 1 groups

-- the numbers that names have already, in the names' order
abbrev pub known_numbers : Groups → List (List ℕ) → List ℕ
known_numbers groups names = filter_map (number_of groups) names

-- a group with one more name, in lower case, unless it has that name
abbrev pub with_name : Group → List ℕ → Group
with_name group name = if has_name group name then group else group ++ folded name ∷ []

-- a group that names join in order, each once
abbrev pub joined : Group → List (List ℕ) → Group
joined group names = fold with_name group names

-- the group of a number
abbrev pub group_of : Groups → ℕ → Group
group_of groups number = slice_index_or groups (number - 1) []

-- the groups after names joined the group of that number, which is a new one at the end where it is not there yet
unfoldable pub with_names : Groups → ℕ → List (List ℕ) → Groups
with_names groups number names =
    if nat_le number (length groups)
    then slice_set groups (number - 1) (joined (group_of groups number) names)
    else groups ++ joined [] names ∷ []

-- a number that a name had stays its number, and the group of a number keeps its names in their places
pub record KeepsNumbers (old new : Groups) : Type 0 where
  pub numbers : (name : List ℕ) (number : ℕ) → number_of old name ≡ Some number → number_of new name ≡ Some number
  pub groups : (number : ℕ) → IsNumber old number
      → (later : Group) × (group_of new number ≡ group_of old number ++ later)
