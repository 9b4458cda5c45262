-- What the index of a name map finds, by names in lower case.
use Rattle.std.specs.Prelude.{◌≡◌, ℕ, ◌<◌, ◌≤◌, Bool, true, ◌||◌, Vec, List, [], ◌∷◌, ◌++◌, length, fold, Option, None}
use Rattle.std.specs.Prelude.{Some, is_some, if◌then◌else◌}
use Rattle.std.specs.declared.alloc.Global.{Global}
use Rattle.std.specs.BTreeMap.{BTreeMap, get_by}
use Rattle.std.specs.Cmp.Lexicographic.{slice_cmp}
use Rattle.std.specs.Ordering.{nat_cmp}
use Rattle.std.specs.List.{list_any}
use Rattle.std.specs.Str.{bytes_eq}
use Rattle.ossl_names.specs.Name.{folded}
use Rattle.ossl_names.specs.Groups.{Group, Groups, has_name, number_of}

abbrev pub Index : Type 0
Index = BTreeMap (Vec ℕ Global) ℕ

-- the number that stands at a name
abbrev pub found : Index → List ℕ → Option ℕ
found index name = get_by (λ key. slice_cmp nat_cmp name key.items) index

-- whether a number stands at a name
abbrev pub is_found : Index → List ℕ → Bool
is_found index name = is_some (found index name)

-- names so far, and one more in lower case unless it is known or among them
abbrev pub with_new : (List ℕ → Bool) → Group → List ℕ → Group
with_new known fresh name = if known (folded name) || has_name fresh name then fresh else fresh ++ folded name ∷ []

-- the names that are not known, in lower case, each once
abbrev pub new_names : (List ℕ → Bool) → List (List ℕ) → Group
new_names known names = fold (with_new known) [] names

-- at names of the list the new index has the number, and at others what the old one has
pub record FindsAlso (old new : Index) (names : Group) (number : ℕ) : Type 0 where
  pub at : (name : List ℕ) → found new name ≡ (if list_any (bytes_eq name) names then Some number else found old name)

-- at names of the list the new index has nothing, and at others what the old one has
pub record FindsNot (old new : Index) (names : Group) : Type 0 where
  pub at : (name : List ℕ) → found new name ≡ (if list_any (bytes_eq name) names then None else found old name)

-- both have the same at each name
pub record FindsSame (old new : Index) : Type 0 where
  pub at : (name : List ℕ) → found new name ≡ found old name

-- the index has none of the names, and none is longer than 99 bytes
pub record AreNew (index : Index) (names : Group) : Type 0 where
  pub unknown : (name : List ℕ) → list_any (bytes_eq name) names ≡ true → found index name ≡ None
  pub short : (name : List ℕ) → list_any (bytes_eq name) names ≡ true → length name ≤ 99

-- the index has each name of the groups, in lower case, with its number; no name of theirs is longer than 99 bytes
pub record IsIndexed (groups : Groups) (index : Index) : Type 0 where
  pub exact : (name : List ℕ) → found index (folded name) ≡ number_of groups name
  pub short : (name : List ℕ) → 99 < length name → number_of groups name ≡ None
