-- The grammar of property definitions and queries, after property(7): which texts say which lists. Limits, the forms of
-- numbers and repeated names are this project's own.
use Rattle.std.specs.Prelude.{◌≡◌, ◌⊎◌, ℕ, ◌+◌, ◌-◌, ◌*◌, ◌^◌, ◌==◌, nat_lt, nat_le, ℤ, pos, neg_ℤ, Bool, true, false}
use Rattle.std.specs.Prelude.{not, ◌&&◌, ◌||◌, IsTrue, Option, Some, None, List, [], ◌∷◌, ◌++◌, length, map}
use Rattle.std.specs.Prelude.{if◌then◌else◌}
use Rattle.std.specs.Char.{is_ascii_alphabetic}
use Rattle.std.specs.Int.{is_in_range}
use Rattle.std.specs.List.{list_any, list_all}
use Rattle.std.specs.Str.{bytes_eq}
use Rattle.ossl_property.specs.declared.clause.Value.{Value}
use Rattle.ossl_property.specs.declared.clause.Value.TheVariants.{Number, Text}
use Rattle.ossl_property.specs.declared.clause.Relation.{Relation}
use Rattle.ossl_property.specs.declared.clause.Relation.TheVariants.{Equal, Differ, Remove}
use Rattle.ossl_property.specs.declared.clause.Property.{Property}
use Rattle.ossl_property.specs.declared.clause.Clause.{Clause}
use Rattle.ossl_property.specs.Bytes.{is_space, is_quote, is_word_byte, is_plain_byte, is_quoted_byte, folded, past}

-- a component begins with a letter and goes on with letters, digits or `_`, and a `.` follows one
abbrev pub may_stand : Bool → ℕ → Bool
may_stand at_start byte =
    if byte == 46 then not at_start else if at_start then is_ascii_alphabetic byte else is_word_byte byte

-- one or more components joined by `.`; at_start says that a component begins here
abbrev pub is_dotted : Bool → List ℕ → Bool
is_dotted at_start [] = not at_start
is_dotted at_start (byte ∷ text) = may_stand at_start byte && is_dotted (byte == 46) text

-- a name has at most 99 bytes
abbrev pub is_name : List ℕ → Bool
is_name text = is_dotted true text && nat_lt (length text) 100

-- what a byte says as a digit, 16 where it is no digit of any base
abbrev pub digit_of : ℕ → ℕ
digit_of byte = if is_in_range 48 57 byte then byte - 48 else if is_in_range 97 102 byte then byte - 87
    else if is_in_range 65 70 byte then byte - 55 else 16

-- the number n followed by digits of a base
abbrev pub number_behind : ℕ → ℕ → List ℕ → Option ℕ
number_behind base n [] = Some n
number_behind base n (byte ∷ text) =
    if nat_lt (digit_of byte) base then number_behind base (n * base + digit_of byte) text else None

-- one or more digits of a base
abbrev pub digits_value : ℕ → List ℕ → Option ℕ
digits_value base [] = None
digits_value base (byte ∷ text) = number_behind base 0 (byte ∷ text)

-- numbers lie from -2^63 to 2^63 - 1
abbrev pub not_negative : Option ℕ → Option ℤ
not_negative None = None
not_negative (Some n) = if nat_lt n (2 ^ 63) then Some (pos n) else None

abbrev pub negative : Option ℕ → Option ℤ
negative None = None
negative (Some n) = if nat_le n (2 ^ 63) then Some (neg_ℤ (pos n)) else None

-- behind a `0`: `x` or `X` and hexadecimal digits, or zero or more octal digits
abbrev pub behind_zero : List ℕ → Option ℤ
behind_zero [] = Some (pos 0)
behind_zero (byte ∷ text) =
    if byte == 120 || byte == 88 then not_negative (digits_value 16 text)
    else not_negative (digits_value 8 (byte ∷ text))

-- a number: `-` and decimal digits, one that begins with `0`, or decimal digits
abbrev pub number_of : List ℕ → Option ℤ
number_of [] = None
number_of (byte ∷ text) =
    if byte == 45 then negative (digits_value 10 text) else if byte == 48 then behind_zero text
    else not_negative (digits_value 10 (byte ∷ text))

-- a string without quotes begins with a letter and has at most 999 bytes
abbrev pub is_plain : List ℕ → Bool
is_plain [] = false
is_plain (byte ∷ text) =
    is_ascii_alphabetic byte && list_all is_plain_byte (byte ∷ text) && nat_lt (length (byte ∷ text)) 1000

-- what may stand within these quotes: at most 999 bytes, also none
abbrev pub is_quotable : ℕ → List ℕ → Bool
is_quotable quote text = list_all (is_quoted_byte quote) text && nat_lt (length text) 1000

-- a string within two `'` or two `"`, which keeps its case
abbrev pub IsQuoted : List ℕ → List ℕ → Type 0
IsQuoted word text = (quote : ℕ) × IsTrue (is_quote quote) × IsTrue (is_quotable quote text)
    × (word ≡ quote ∷ text ++ quote ∷ [])

-- the word is this value
abbrev pub IsValue : List ℕ → Value → Type 0
IsValue word (Number n) = number_of word ≡ Some n
IsValue word (Text text) = (IsTrue (is_plain word) × (text ≡ folded word)) ⊎ IsQuoted word text

-- the word is this name, but for its case
abbrev pub IsName : List ℕ → List ℕ → Type 0
IsName word name = IsTrue (is_name word) × (name ≡ folded word)

-- `=` and `!=`; a removal has its `-` before the name
abbrev pub operator : Relation → List ℕ
operator Equal = 61 ∷ []
operator Differ = 33 ∷ 61 ∷ []
operator Remove = 45 ∷ []

-- `?` stands before an optional clause
abbrev pub mark : Bool → List (List ℕ)
mark true = (63 ∷ []) ∷ []
mark false = []

-- a bare name means `name=yes`
abbrev pub yes : Value
yes = Text (121 ∷ 101 ∷ 115 ∷ [])

-- the value of a removal, which nobody looks at
abbrev pub no_value : Value
no_value = Number (pos 0)

-- what stands behind a name: nothing, or an operator and a value
abbrev pub IsComparison : List (List ℕ) → Relation → Value → Type 0
IsComparison words relation value =
    ((words ≡ []) × (relation ≡ Equal) × (value ≡ yes))
    ⊎ ((word : List ℕ) × IsValue word value × (words ≡ operator relation ∷ word ∷ []))

-- the tokens of a clause: `-name`, or `name`, `name=value`, `name!=value`, each with or without the prefix `?`
abbrev pub AreTokens : List (List ℕ) → List ℕ → Relation → Value → Bool → Type 0
AreTokens words name Remove value optional =
    (word : List ℕ) × IsName word name × (value ≡ no_value) × (optional ≡ false) × (words ≡ operator Remove ∷ word ∷ [])
AreTokens words name relation value optional =
    (word : List ℕ) × (comparison : List (List ℕ)) × IsName word name × IsComparison comparison relation value
    × (words ≡ mark optional ++ word ∷ comparison)

-- the text begins with these tokens, with any spaces before, between and behind them, and goes on with the rest
abbrev pub Leads : List (List ℕ) → List ℕ → List ℕ → Type 0
Leads [] text rest = past is_space text ≡ rest
Leads (word ∷ words) text rest = (behind : List ℕ) × (past is_space text ≡ word ++ behind) × Leads words behind rest

-- the text is this clause, with any spaces round its tokens
abbrev pub IsClause : List ℕ → Clause → Type 0
IsClause text clause = (words : List (List ℕ))
    × AreTokens words clause.name clause.relation clause.value clause.optional × Leads words text []

-- the text is these clauses: nothing but spaces, one clause, or a clause, a comma and a shorter text of the same kind
abbrev pub AreClauses : List ℕ → List Clause → Type 0
AreClauses text [] = past is_space text ≡ []
AreClauses text (clause ∷ []) = IsClause text clause
AreClauses text (clause ∷ next ∷ clauses) =
    (item : List ℕ) × (rest : List ℕ) × IsClause item clause × AreClauses rest (next ∷ clauses)
    × (text ≡ item ++ 44 ∷ rest)

-- a clause of these, also a removal, has this name
abbrev pub mentions : List Clause → List ℕ → Bool
mentions clauses name = list_any (λ clause. bytes_eq clause.name name) clauses

-- no name stands twice; a removal counts as naming
abbrev pub AreDistinct : List Clause → Type 0
AreDistinct [] = Unit {0}
AreDistinct (clause ∷ clauses) = (mentions clauses clause.name ≡ false) × AreDistinct clauses

-- the text is a query of this list
abbrev pub IsQuery : List ℕ → List Clause → Type 0
IsQuery text clauses = AreClauses text clauses × AreDistinct clauses

-- a property as the clause that asks for it
abbrev pub asked : Property → Clause
asked property = record { name = property.name; relation = Equal; value = property.value; optional = false }

-- the text is a definition of this list: a query in which each clause is `name` or `name=value` without a prefix
abbrev pub IsDefinition : List ℕ → List Property → Type 0
IsDefinition text properties = IsQuery text (map asked properties)
