-- What the reader's private methods give, token by token: a value and the text behind it, or the text from the token on
-- that cannot stand there. A device of the proofs: public clauses cite it only as Said.antt does, whose law says by
-- Grammar.antt and Fault.antt what it gives.
use Rattle.std.specs.Prelude.{◌≡◌, ℕ, zero, suc, ◌-◌, ◌==◌, Bool, true, false, not, ◌&&◌, Option, Some, None, Result}
use Rattle.std.specs.Prelude.{Ok, Err, List, [], ◌∷◌, ◌++◌, length, drop, if◌then◌else◌}
use Rattle.std.specs.Char.{is_ascii_alphabetic}
use Rattle.std.specs.Option.{option_map}
use Rattle.ossl_property.specs.declared.clause.Value.{Value}
use Rattle.ossl_property.specs.declared.clause.Value.TheVariants.{Number, Text}
use Rattle.ossl_property.specs.declared.clause.Relation.{Relation}
use Rattle.ossl_property.specs.declared.clause.Relation.TheVariants.{Equal, Differ, Remove}
use Rattle.ossl_property.specs.declared.clause.Property.{Property}
use Rattle.ossl_property.specs.declared.clause.Clause.{Clause}
use Rattle.ossl_property.specs.declared.word.Class.{Class}
use Rattle.ossl_property.specs.declared.word.Class.TheVariants.{Space, Name, Word, Within, Bare, Quoted, Kept}
use Rattle.ossl_property.specs.declared.reader.Language.{Language}
use Rattle.ossl_property.specs.declared.reader.Language.TheVariants.{Definitions, Queries}
use Rattle.ossl_property.specs.declared.reader.Prefix.{Prefix}
use Rattle.ossl_property.specs.declared.reader.Prefix.TheVariants as prefixes
use Rattle.ossl_property.specs.declared.reader.Refusal.{Refusal}
use Rattle.ossl_property.specs.declared.reader.Refusal.TheVariants as refusals
use Rattle.ossl_property.specs.Bytes.{is_space, is_quote, is_name_byte, is_value_byte, is_plain_byte, is_quoted_byte}
use Rattle.ossl_property.specs.Bytes.{folded, front, past}
use Rattle.ossl_property.specs.Printed.{keeps}
use Rattle.ossl_property.specs.Grammar.{is_name, number_of, is_plain, is_quotable, yes, no_value, mentions}

-- the bytes of a class
abbrev pub in_class : Class → ℕ → Bool
in_class Space byte = is_space byte
in_class Name byte = is_name_byte byte
in_class Word byte = is_value_byte byte
in_class (Within quote) byte = not (byte == quote)
in_class Bare byte = is_plain_byte byte
in_class (Quoted quote) byte = is_quoted_byte quote byte
in_class Kept byte = keeps byte

infixl 10 ◌>>=◌
abbrev pub ◌>>=◌ : {A B : Type 0} → Result A (List ℕ) → (A → Result B (List ℕ)) → Result B (List ℕ)
(Ok x) >>= f = f x
(Err bad) >>= f = Err bad

-- what a method returned is what reading gives, unless memory ran out; a fault leaves the reader at the faulty token
abbrev pub Fails : {Y : Type 0} → Refusal → List ℕ → Result Y (List ℕ) → Type 0
Fails refusals.NoMemory rest read = Unit {0}
Fails refusals.Fault rest read = read ≡ Err rest

abbrev pub Gives : {X Y : Type 0} → (X → Y) → Result X Refusal → List ℕ → Result Y (List ℕ) → Type 0
Gives view (Ok x) rest read = read ≡ Ok (view x)
Gives view (Err e) rest read = Fails e rest read

-- a name that is not taken yet
unfoldable pub name_at : (List ℕ → Bool) → List ℕ → Result (List ℕ × List ℕ) (List ℕ)
name_at taken text = if is_name (front is_name_byte text) && not (taken (folded (front is_name_byte text)))
    then Ok (folded (front is_name_byte text), past is_name_byte text) else Err text

-- a value without quotes
unfoldable pub plain_value : List ℕ → Option Value
plain_value [] = None
plain_value (byte ∷ word) =
    if is_ascii_alphabetic byte then (if is_plain (byte ∷ word) then Some (Text (folded (byte ∷ word))) else None)
    else option_map Number (number_of (byte ∷ word))

-- a value and the text behind it, or the fault
abbrev pub or_fault : List ℕ → List ℕ → Option Value → Result (Value × List ℕ) (List ℕ)
or_fault text rest None = Err text
or_fault text rest (Some value) = Ok (value, rest)

unfoldable pub plain_at : List ℕ → Result (Value × List ℕ) (List ℕ)
plain_at text = or_fault text (past is_value_byte text) (plain_value (front is_value_byte text))

-- a string, and what follows it from the second quote on
abbrev pub closed_at : ℕ → List ℕ → List ℕ → List ℕ → Result (Value × List ℕ) (List ℕ)
closed_at quote whole inner [] = Err whole
closed_at quote whole inner (close ∷ rest) = if is_quotable quote inner then Ok (Text inner, rest) else Err whole

-- a string behind its first quote, in a text that begins with that quote
abbrev pub quoted_at : ℕ → List ℕ → List ℕ → Result (Value × List ℕ) (List ℕ)
quoted_at quote whole text =
    closed_at quote whole (front (λ byte. not (byte == quote)) text) (past (λ byte. not (byte == quote)) text)

unfoldable pub value_at : List ℕ → Result (Value × List ℕ) (List ℕ)
value_at [] = Err []
value_at (byte ∷ text) = if is_quote byte then quoted_at byte (byte ∷ text) text else plain_at (byte ∷ text)

-- whether `?`, `-` and `!=` may stand
abbrev pub is_query : Language → Bool
is_query Queries = true
is_query Definitions = false

-- the value behind an operator
abbrev pub compared_at : Relation → List ℕ → Result (Relation × Value × List ℕ) (List ℕ)
compared_at relation text = value_at (past is_space text) >>= λ value. Ok (relation, value.0, value.1)

abbrev pub begins_differ : List ℕ → Bool
begins_differ [] = false
begins_differ (byte ∷ []) = false
begins_differ (byte ∷ next ∷ text) = byte == 33 && next == 61

-- what stands behind a name: an operator and a value, or nothing
unfoldable pub comparison_at : Language → List ℕ → Result (Relation × Value × List ℕ) (List ℕ)
comparison_at language [] = Ok (Equal, yes, [])
comparison_at language (byte ∷ text) =
    if byte == 61 then compared_at Equal text else if is_query language && begins_differ (byte ∷ text)
    then compared_at Differ (drop 1 text) else Ok (Equal, yes, byte ∷ text)

-- a clause behind its prefix
unfoldable pub named_at : Language → (List ℕ → Bool) → Bool → List ℕ → Result (Clause × List ℕ) (List ℕ)
named_at language taken optional text =
    name_at taken text >>= λ name. comparison_at language (past is_space name.1) >>= λ behind. Ok
    (record { name = name.0; relation = behind.0; value = behind.1; optional = optional }, behind.2)

unfoldable pub removal_at : (List ℕ → Bool) → List ℕ → Result (Clause × List ℕ) (List ℕ)
removal_at taken text = name_at taken text >>= λ name. Ok
    (record { name = name.0; relation = Remove; value = no_value; optional = false }, name.1)

-- `?` or `-` and the spaces behind it, or neither
abbrev pub prefix_at : Language → List ℕ → Prefix × List ℕ
prefix_at language [] = (prefixes.Bare, [])
prefix_at language (byte ∷ text) =
    if is_query language && byte == 63 then (prefixes.Optional, past is_space text)
    else if is_query language && byte == 45 then (prefixes.Removal, past is_space text)
    else (prefixes.Bare, byte ∷ text)

abbrev pub prefixed_at : Language → (List ℕ → Bool) → Prefix → List ℕ → Result (Clause × List ℕ) (List ℕ)
prefixed_at language taken prefixes.Bare text = named_at language taken false text
prefixed_at language taken prefixes.Optional text = named_at language taken true text
prefixed_at language taken prefixes.Removal text = removal_at taken text

-- a clause, from its first byte on
unfoldable pub clause_at : Language → (List ℕ → Bool) → List ℕ → Result (Clause × List ℕ) (List ℕ)
clause_at language taken text = prefixed_at language taken (prefix_at language text).0 (prefix_at language text).1

-- behind the clauses so far: nothing, or a comma and further clauses; fuel bounds their number
unfoldable pub more_at : ℕ → Language → List Clause → List ℕ → Result (List Clause) (List ℕ)
more_at zero language clauses text = Err text
more_at (suc fuel) language clauses [] = Ok clauses
more_at (suc fuel) language clauses (byte ∷ text) =
    if byte == 44 then (clause_at language (mentions clauses) (past is_space text) >>= λ next. more_at fuel language
    (clauses ++ next.0 ∷ []) (past is_space next.1)) else Err (byte ∷ text)

-- a whole text, without the spaces at its front
unfoldable pub list_at : Language → List ℕ → Result (List Clause) (List ℕ)
list_at language [] = Ok []
list_at language (byte ∷ text) =
    clause_at language (λ name. false) (byte ∷ text) >>= λ first. more_at (suc (suc (length text))) language
    (first.0 ∷ []) (past is_space first.1)

-- reading stopped this far in a text of this size
abbrev pub Stops : ℕ → Result (List Clause) (List ℕ) → ℕ → Type 0
Stops size (Ok clauses) place = ⊥
Stops size (Err bad) place = place ≡ size - length bad

-- a clause of a definition as a property
abbrev pub property_of : Clause → Property
property_of clause = record { name = clause.name; value = clause.value }
