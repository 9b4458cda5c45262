-- Files as a finite map from names to contents.
use Rattle.std.specs.Prelude.{ℕ, ◌≡◌, ◌<◌, Bool, None, Some, nat_eq, List, map, length, ⊤, IsSomeAnd}
use Rattle.std.specs.declared.option.Option.{Option}
use Rattle.std.specs.Option.{option_map}
use Rattle.std.specs.Cmp.Lexicographic.{pointwise}
use Rattle.std.specs.List.{find}
use Rattle.ossl_base.specs.Members.{is_distinct_by}

-- each name beside its content
abbrev pub Entries : Type 0
Entries = List (List ℕ × List ℕ)

-- no name stands twice
abbrev pub has_distinct_names : Entries → Bool
has_distinct_names entries = is_distinct_by (pointwise nat_eq) (map (λ e. e.0) entries)

-- the first entry with a name, if there is one
abbrev pub entry_of : Entries → List ℕ → Option (List ℕ × List ℕ)
entry_of entries name = find (λ e. pointwise nat_eq e.0 name) entries

-- the content under a name, if it is there
abbrev pub content_of : Entries → List ℕ → Option (List ℕ)
content_of entries name = option_map (λ e. e.1) (entry_of entries name)

-- where the files are told, bs is the content under the name
abbrev pub HasContent : Option Entries → List ℕ → List ℕ → Type 0
HasContent None name bs = ⊤
HasContent (Some entries) name bs = content_of entries name ≡ Some bs

-- the files are told, and the name is not among them
abbrev pub LacksName : Option Entries → List ℕ → Type 0
LacksName None name = ⊥
LacksName (Some entries) name = content_of entries name ≡ None

-- where the files are told, the content under the name has more bytes than the limit
abbrev pub IsLonger : Option Entries → List ℕ → ℕ → Type 0
IsLonger None name limit = ⊤
IsLonger (Some entries) name limit = IsSomeAnd (content_of entries name) (λ bs. limit < length bs)
