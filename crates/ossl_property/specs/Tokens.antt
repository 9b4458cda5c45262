-- The tokens of a text, one after the other, each read as long as it can be, after property(7); where a token ends is
-- this project's own.
use Rattle.std.specs.Prelude.{◌≡◌, ℕ, ◌==◌, Bool, not, ◌&&◌, ◌||◌, List, [], ◌∷◌, ◌++◌, take, map, bytes_eq}
use Rattle.std.specs.Prelude.{if◌then◌else◌}
use Rattle.ossl_property.specs.declared.clause.Relation.TheVariants.{Equal, Differ}
use Rattle.ossl_property.specs.declared.clause.Property.{Property}
use Rattle.ossl_property.specs.declared.clause.Clause.{Clause}
use Rattle.ossl_property.specs.Bytes.{is_space, is_quote, is_name_byte, is_value_byte, folded, front, past}
use Rattle.ossl_property.specs.Grammar.{is_name, operator, AreTokens, asked}

-- `=` and `!=`, behind which a value is read
abbrev pub is_operator : List ℕ → Bool
is_operator word = bytes_eq word (operator Equal) || bytes_eq word (operator Differ)

-- a string from its first quote through the next one, or to the end of the text where none comes
abbrev pub quoted : ℕ → List ℕ → List ℕ
quoted quote text = quote ∷
    (front (λ byte. not (byte == quote)) text ++ take 1 (past (λ byte. not (byte == quote)) text))

-- a value goes on up to the next space, comma or end, but for a quoted string
abbrev pub value_token : ℕ → List ℕ → List ℕ
value_token byte text = if is_quote byte then quoted byte text else byte ∷ front is_value_byte text

-- a name is read as the longest run of letters, digits, `_` and `.`; any other token is `!=` or a byte by itself
abbrev pub other_token : ℕ → List ℕ → List ℕ
other_token byte text = if is_name_byte byte then byte ∷ front is_name_byte text
    else if bytes_eq (byte ∷ take 1 text) (operator Differ) then operator Differ else byte ∷ []

-- the token with which a text begins that does not begin with a space; no token at the end
abbrev pub token : Bool → List ℕ → List ℕ
token is_value [] = []
token is_value (byte ∷ text) = if is_value && is_value_byte byte then value_token byte text else other_token byte text

-- the text begins with these tokens, with any spaces before and behind them, and goes on with the rest; is_value says
-- that a value comes first
abbrev pub Begins : Bool → List (List ℕ) → List ℕ → List ℕ → Type 0
Begins is_value [] text rest = past is_space text ≡ rest
Begins is_value (word ∷ words) text rest =
    (behind : List ℕ) × (past is_space text ≡ word ++ behind) × (word ≡ token is_value (past is_space text))
    × Begins (is_operator word) words behind rest

-- whether a value is read behind these tokens
abbrev pub expects_value : Bool → List (List ℕ) → Bool
expects_value is_value [] = is_value
expects_value is_value (word ∷ words) = expects_value (is_operator word) words

-- the names among these tokens, in lower case
abbrev pub names_in : Bool → List (List ℕ) → List (List ℕ)
names_in is_value [] = []
names_in is_value (word ∷ words) =
    if not is_value && is_name word then folded word ∷ names_in (is_operator word) words
    else names_in (is_operator word) words

-- the tokens of a list: those of its clauses, with a comma between
abbrev pub AreListTokens : List (List ℕ) → List Clause → Type 0
AreListTokens words [] = words ≡ []
AreListTokens words (clause ∷ []) = AreTokens words clause.name clause.relation clause.value clause.optional
AreListTokens words (clause ∷ next ∷ clauses) =
    (item : List (List ℕ)) × (rest : List (List ℕ))
    × AreTokens item clause.name clause.relation clause.value clause.optional × AreListTokens rest (next ∷ clauses)
    × (words ≡ item ++ (44 ∷ []) ∷ rest)

-- the tokens of a query
abbrev pub AreQueryTokens : List (List ℕ) → Type 0
AreQueryTokens words = (clauses : List Clause) × AreListTokens words clauses

-- the tokens of a definition
abbrev pub AreDefinitionTokens : List (List ℕ) → Type 0
AreDefinitionTokens words = (properties : List Property) × AreListTokens words (map asked properties)
