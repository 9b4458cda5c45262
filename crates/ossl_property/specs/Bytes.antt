-- The bytes of property texts, after property(7), and the longest run of some of them at the front of a text.
use Rattle.std.specs.Prelude.{ℕ, ◌==◌, Bool, not, ◌&&◌, ◌||◌, List, [], ◌∷◌, map, if◌then◌else◌}
use Rattle.std.specs.Char.{is_ascii_alphanumeric, is_ascii_graphic, to_ascii_lowercase}
use Rattle.std.specs.Int.{is_in_range}

abbrev pub is_space : ℕ → Bool
is_space byte = byte == 32

abbrev pub is_comma : ℕ → Bool
is_comma byte = byte == 44

-- `'` and `"`
abbrev pub is_quote : ℕ → Bool
is_quote byte = byte == 39 || byte == 34

-- a letter, a digit or `_`
abbrev pub is_word_byte : ℕ → Bool
is_word_byte byte = is_ascii_alphanumeric byte || byte == 95

-- a name is read as the longest run of these
abbrev pub is_name_byte : ℕ → Bool
is_name_byte byte = is_word_byte byte || byte == 46

-- a value without quotes goes on up to the next space, comma or end
abbrev pub is_value_byte : ℕ → Bool
is_value_byte byte = not (is_space byte || is_comma byte)

-- what a string without quotes may hold
abbrev pub is_plain_byte : ℕ → Bool
is_plain_byte byte = is_ascii_graphic byte && not (is_comma byte)

-- what a string within these quotes may hold
abbrev pub is_quoted_byte : ℕ → ℕ → Bool
is_quoted_byte quote byte = is_in_range 32 126 byte && not (byte == quote)

-- in lower case
abbrev pub folded : List ℕ → List ℕ
folded text = map to_ascii_lowercase text

-- the longest run of bytes at the front that pass the test
abbrev pub front : (ℕ → Bool) → List ℕ → List ℕ
front test [] = []
front test (byte ∷ text) = if test byte then byte ∷ front test text else []

-- the text behind that run
abbrev pub past : (ℕ → Bool) → List ℕ → List ℕ
past test [] = []
past test (byte ∷ text) = if test byte then past test text else byte ∷ text
