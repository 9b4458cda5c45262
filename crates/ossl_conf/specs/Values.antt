-- A value: quoted parts, escapes and variables.
use Rattle.std.specs.Prelude.{ℕ, zero, suc, ◌+◌, ◌==◌, nat_eq, Option, Some, None, Result, Ok, Err, List, [], ◌∷◌}
use Rattle.std.specs.Prelude.{◌++◌, length, take, drop, codes, if◌then◌else◌, Bool}
use Rattle.std.specs.List.{list_any, starts_with, before_first, prefix_len}
use Rattle.std.specs.Option.{ok_or, option_map}
use Rattle.std.specs.Str.{byte}
use Rattle.ossl_property.specs.Bytes.{is_quote, is_word_byte}

-- a part of a value: bytes as they stand in it, a variable by its name as written, or a bracketed name whose closing
-- bracket is missing
pub data Part : Type 0 where
  bytes : List ℕ → Part
  variable : List ℕ → Part
  unclosed : List ℕ → Part

-- what `\` and this byte stand for: `\n`, `\r`, `\t`, `\b` for the control bytes, any other byte for itself
abbrev pub escaped : ℕ → ℕ
escaped b =
    if b == byte "n" then 10 else if b == byte "r" then 13
    else if b == byte "t" then 9 else if b == byte "b" then 8 else b

-- a part, and how many of the bytes behind its first one belong to it
abbrev pub Taken : Type 0
Taken = Part × ℕ

-- behind a quote: the bytes up to the next same quote or the end
abbrev pub quoted_at : ℕ → List ℕ → Taken
quoted_at quote text = let inner = before_first (λ b. b == quote) text in (bytes inner, length inner + 1)

-- behind a `\`
abbrev pub escaped_at : List ℕ → Taken
escaped_at [] = (bytes [], 0)
escaped_at (b ∷ text) = (bytes (escaped b ∷ []), 1)

-- behind an opening bracket: all bytes up to the closing one, or all that is left where that is missing
abbrev pub bracketed_at : ℕ → List ℕ → Taken
bracketed_at close text =
    let name = before_first (λ b. b == close) text in
    if list_any (λ b. b == close) text then (variable name, length name + 2) else (unclosed text, length text + 1)

-- `::` comes next
abbrev pub begins_with_colons : List ℕ → Bool
begins_with_colons text = starts_with nat_eq text (codes "::")

-- how long a bare name is: the longest run of letters, digits and `_`, and, where `::` follows it, that and the
-- longest run behind it
abbrev pub bare_len : List ℕ → ℕ
bare_len text =
    let run = prefix_len is_word_byte text in
    let behind = drop run text in
    if begins_with_colons behind then run + 2 + prefix_len is_word_byte (drop 2 behind) else run

-- behind a `$`
abbrev pub variable_at : List ℕ → Taken
variable_at [] = (variable [], 0)
variable_at (b ∷ text) =
    if b == byte "{" then bracketed_at (byte "}") text
    else if b == byte "(" then bracketed_at (byte ")") text
    else (variable (take (bare_len (b ∷ text)) (b ∷ text)), bare_len (b ∷ text))

-- the first part of a value, by its first byte and what stands behind that
abbrev pub part_at : ℕ → List ℕ → Taken
part_at b text =
    if is_quote b then quoted_at b text
    else if b == byte "\\" then escaped_at text
    else if b == byte "$" then variable_at text
    else (bytes (b ∷ []), 0)

-- the parts of a value, behind so many bytes that belong to the part before
abbrev pub parts_past : ℕ → List ℕ → List Part
parts_past taken [] = []
parts_past (suc taken) (b ∷ text) = parts_past taken text
parts_past zero (b ∷ text) = (part_at b text).0 ∷ parts_past (part_at b text).1 text

-- the parts of a whole value
abbrev pub parts : List ℕ → List Part
parts text = parts_past 0 text

-- where the first `::` stands in a name, of which the bytes from a place on are given
abbrev pub colons_from : ℕ → List ℕ → Option ℕ
colons_from at [] = None
colons_from at (b ∷ text) = if begins_with_colons (b ∷ text) then Some at else colons_from (at + 1) text

-- the part of a name before the first `::` and the part behind it, where there is one
abbrev pub cut_at_colons : List ℕ → Option (List ℕ × List ℕ)
cut_at_colons name = option_map (λ at. (take at name, drop (at + 2) name)) (colons_from 0 name)

-- two texts joined, or the first refusal
abbrev pub joined : Result (List ℕ) (List ℕ) → Result (List ℕ) (List ℕ) → Result (List ℕ) (List ℕ)
joined (Err written) rest = Err written
joined (Ok text) (Err written) = Err written
joined (Ok text) (Ok rest) = Ok (text ++ rest)

-- what stands for a part, by the values of variables; a variable without a value is told by its name as written
abbrev pub text_of : (List ℕ → Option (List ℕ)) → Part → Result (List ℕ) (List ℕ)
text_of value_of (bytes text) = Ok text
text_of value_of (variable written) = ok_or (value_of written) written
text_of value_of (unclosed written) = Err written

-- the parts replaced and joined, or the first variable without a value
abbrev pub replaced : (List ℕ → Option (List ℕ)) → List Part → Result (List ℕ) (List ℕ)
replaced value_of [] = Ok []
replaced value_of (part ∷ rest) = joined (text_of value_of part) (replaced value_of rest)
