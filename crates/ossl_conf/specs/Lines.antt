-- A text as logical lines.
use Rattle.std.specs.Prelude.{ℕ, ◌+◌, ◌-◌, ◌==◌, Bool, List, [], ◌∷◌, ◌++◌, length, take, drop, if◌then◌else◌}
use Rattle.std.specs.List.{slice_split}
use Rattle.std.specs.Str.{byte, bytes_eq}

-- a logical line and the number of its first line, counted from 1
pub record LogicalLine : Type 0 where
  pub number : ℕ
  pub text : List ℕ

abbrev pub is_line_feed : ℕ → Bool
is_line_feed b = b == byte "\n"

-- the pieces of a text between its line feeds: one more than there are line feeds
abbrev pub pieces : List ℕ → List (List ℕ)
pieces text = slice_split is_line_feed text

-- the text's last byte is this one
abbrev pub ends_in : ℕ → List ℕ → Bool
ends_in b text = bytes_eq (drop (length text - 1) text) (b ∷ [])

-- all but the last byte
abbrev pub without_last : List ℕ → List ℕ
without_last text = take (length text - 1) text

-- a carriage return right before the line feed belongs to the line's end
abbrev pub without_return : List ℕ → List ℕ
without_return piece = if ends_in (byte "\r") piece then without_last piece else piece

-- a line has a `\` right before its end: both go, and the next line is joined
abbrev pub is_joined : List ℕ → Bool
is_joined line = ends_in (byte "\\") line

-- what is begun when a line follows it: the number of its first line, and its text so far
abbrev pub begun_after : LogicalLine → ℕ → List ℕ → LogicalLine
begun_after begun next line =
    if is_joined line then record begun { text = begun.text ++ without_last line }
    else record { number = next; text = [] }

-- the logical line that this line ends, where it has no `\` right before its end
abbrev pub ended_by : LogicalLine → List ℕ → List LogicalLine
ended_by begun line = if is_joined line then [] else record begun { text = begun.text ++ line } ∷ []

-- the logical lines of the pieces that are left, where one is begun, and the next piece has this number. The last
-- piece of a text has no end
abbrev pub lines_from : LogicalLine → ℕ → List (List ℕ) → List LogicalLine
lines_from begun number [] = []
lines_from begun number (piece ∷ []) = record begun { text = begun.text ++ piece } ∷ []
lines_from begun number (piece ∷ next ∷ pieces) =
    let line = without_return piece in
    ended_by begun line ++ lines_from (begun_after begun (number + 1) line) (number + 1) (next ∷ pieces)

-- the logical lines of a text whose first line has this number
abbrev pub lines_at : ℕ → List ℕ → List LogicalLine
lines_at number text = lines_from (record { number = number; text = [] }) number (pieces text)

-- the logical lines of a text
abbrev pub logical_lines : List ℕ → List LogicalLine
logical_lines text = lines_at 1 text
