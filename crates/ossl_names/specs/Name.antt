-- What a name is, and how a text holds several.
use Rattle.std.specs.Prelude.{ℕ, Bool, ◌&&◌, ◌==◌, nat_le, List, length}
use Rattle.std.specs.List.{slice_split, list_all}
use Rattle.std.specs.Str.{str_to_ascii_lowercase}

-- the names that a text joins by `:`, the byte 58 (OSSL_ALGORITHM(3), algorithm_names)
abbrev pub names_in : List ℕ → List (List ℕ)
names_in text = slice_split (λ byte. byte == 58) text

-- a byte that a name may have: a visible one; `:` ends a name
abbrev pub is_name_byte : ℕ → Bool
is_name_byte byte = nat_le 33 byte && nat_le byte 126

-- a name has 1 to 99 such bytes
abbrev pub is_name : List ℕ → Bool
is_name name = nat_le 1 (length name) && nat_le (length name) 99 && list_all is_name_byte name

-- a name in lower case: names are compared without ASCII case
abbrev pub folded : List ℕ → List ℕ
folded name = str_to_ascii_lowercase name
