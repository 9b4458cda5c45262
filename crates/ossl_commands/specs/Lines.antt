-- The text of one line: which bytes it may hold, its words, and the query behind `:`.
use Rattle.std.specs.Prelude.{ℕ, ◌==◌, nat_lt, Bool, true, false, not, ◌&&◌, ◌||◌, Option, Some, None, List, [], ◌∷◌}
use Rattle.std.specs.Prelude.{length, filter, if◌then◌else◌}
use Rattle.std.specs.Int.{is_in_range}
use Rattle.std.specs.List.{slice_split}
use Rattle.ossl_property.specs.Bytes.{past}

-- spaces and tabs
abbrev pub is_blank : ℕ → Bool
is_blank byte = byte == 32 || byte == 9

abbrev pub is_within_word : ℕ → Bool
is_within_word byte = not (is_blank byte)

-- a line feed ends a line
abbrev pub is_within_line : ℕ → Bool
is_within_line byte = not (byte == 10)

-- what a line may hold that is not skipped: bytes 9 and 32 to 126
abbrev pub is_allowed : ℕ → Bool
is_allowed byte = byte == 9 || is_in_range 32 126 byte

-- the text is empty, or begins with `#`
abbrev pub says_nothing : List ℕ → Bool
says_nothing [] = true
says_nothing (byte ∷ text) = byte == 35

-- a line is skipped where nothing but spaces and tabs stand in it, or a `#` stands behind them
abbrev pub is_skipped : List ℕ → Bool
is_skipped line = says_nothing (past is_blank line)

-- a word ends before this text
abbrev pub ends_word : List ℕ → Bool
ends_word [] = true
ends_word (byte ∷ text) = is_blank byte

-- the text begins with the word `:`; at_start says that a word may begin here
abbrev pub starts_query : Bool → List ℕ → Bool
starts_query at_start [] = false
starts_query at_start (byte ∷ text) = at_start && byte == 58 && ends_word text

-- the text before the first word that is `:`, or all of it
abbrev pub before_query : Bool → List ℕ → List ℕ
before_query at_start [] = []
before_query at_start (byte ∷ text) =
    if starts_query at_start (byte ∷ text) then [] else byte ∷ before_query (is_blank byte) text

-- the query text: all that stands behind that word, spaces included
abbrev pub query_text : Bool → List ℕ → Option (List ℕ)
query_text at_start [] = None
query_text at_start (byte ∷ text) =
    if starts_query at_start (byte ∷ text) then Some text else query_text (is_blank byte) text

-- what stands between spaces and tabs
abbrev pub words_of : List ℕ → List (List ℕ)
words_of text = filter (λ word. nat_lt 0 (length word)) (slice_split is_blank text)
