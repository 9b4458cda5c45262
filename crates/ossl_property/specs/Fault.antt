-- The place of a text's first fault, which is this project's own: the first token that cannot stand there, or the end
-- where a token must come.
use Rattle.std.specs.Prelude.{◌≡◌, ℕ, ◌+◌, Bool, false, Result, Ok, Err, List, [], ◌∷◌, ◌++◌, length, bytes_eq}
use Rattle.std.specs.List.{list_any}
use Rattle.ossl_property.specs.declared.clause.TextRefused.{TextRefused}
use Rattle.ossl_property.specs.declared.clause.TextRefused.TheVariants.{NotInGrammar, NoMemory}
use Rattle.ossl_property.specs.Tokens.{token, Begins, expects_value, names_in, AreQueryTokens, AreDefinitionTokens}

abbrev pub is_among : List (List ℕ) → List ℕ → Bool
is_among names name = list_any (λ other. bytes_eq other name) names

-- no name stands twice
abbrev pub AreApart : List (List ℕ) → Type 0
AreApart [] = Unit {0}
AreApart (name ∷ names) = (is_among names name ≡ false) × AreApart names

-- the tokens may stand so: they are the first of a whole list's, and no name stands twice among them
abbrev pub MayStand : (List (List ℕ) → Type 0) → List (List ℕ) → Type 0
MayStand AreWhole words = (more : List (List ℕ)) × AreWhole (words ++ more) × AreApart (names_in false words)

-- where the text ends, a token must come; else the token that comes next cannot stand there
abbrev pub CannotGoOn : (List (List ℕ) → Type 0) → List (List ℕ) → List ℕ → Type 0
CannotGoOn AreWhole words [] = AreWhole words → ⊥
CannotGoOn AreWhole words (byte ∷ rest) =
    MayStand AreWhole (words ++ token (expects_value false words) (byte ∷ rest) ∷ []) → ⊥

-- the tokens up to the place may stand so, and the text cannot go on as it does from there
abbrev pub IsFault : (List (List ℕ) → Type 0) → List ℕ → ℕ → Type 0
IsFault AreWhole text place =
    (words : List (List ℕ)) × (rest : List ℕ) × Begins false words text rest × MayStand AreWhole words
    × CannotGoOn AreWhole words rest × (place + length rest ≡ length text)

-- the place of the first fault of a text that is no query, or no definition
abbrev pub IsQueryFault : List ℕ → ℕ → Type 0
IsQueryFault text place = IsFault AreQueryTokens text place

abbrev pub IsDefinitionFault : List ℕ → ℕ → Type 0
IsDefinitionFault text place = IsFault AreDefinitionTokens text place

-- exactly one is such
abbrev pub HasOne : {A : Type 0} → (A → Type 0) → Type 0
HasOne {A} Is = (one : A) × Is one × ((other : A) → Is other → other ≡ one)

-- a refusal names a fault's place, or is for want of memory
abbrev pub IsRefusal : TextRefused → (ℕ → Type 0) → Type 0
IsRefusal NoMemory IsPlace = Unit {0}
IsRefusal (NotInGrammar place) IsPlace = IsPlace place

abbrev pub IsMemory : TextRefused → Type 0
IsMemory NoMemory = Unit {0}
IsMemory (NotInGrammar place) = ⊥

-- the call read this value, or memory ran out
abbrev pub Reads : {A : Type 0} → Result A TextRefused → A → Type 0
Reads (Ok found) value = found ≡ value
Reads (Err refusal) value = IsMemory refusal

-- the call refused the text with this place, or memory ran out
abbrev pub Refuses : {A : Type 0} → Result A TextRefused → ℕ → Type 0
Refuses (Ok found) place = ⊥
Refuses (Err NoMemory) place = Unit {0}
Refuses (Err (NotInGrammar found)) place = found ≡ place
