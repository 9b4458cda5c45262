-- What a text says, as a value: the list that the grammar relates to it, or the place of its first fault. That it is
-- these is a law of both `parse`.
use Rattle.std.specs.Prelude.{◌≡◌, ◌↔◌, ℕ, ◌-◌, Result, Ok, Err, List, length, map}
use Rattle.ossl_property.specs.declared.clause.TextRefused.{TextRefused}
use Rattle.ossl_property.specs.declared.clause.TextRefused.TheVariants.{NotInGrammar, NoMemory}
use Rattle.ossl_property.specs.declared.clause.Property.{Property}
use Rattle.ossl_property.specs.declared.clause.Clause.{Clause}
use Rattle.ossl_property.specs.declared.reader.Language.TheVariants.{Definitions, Queries}
use Rattle.ossl_property.specs.Bytes.{is_space, past}
use Rattle.ossl_property.specs.Fault.{IsDefinitionFault, IsQueryFault}
use Rattle.ossl_property.specs.Grammar.{IsDefinition, IsQuery}
use Rattle.ossl_property.specs.Reading.{list_at, property_of}

-- what was read of a text of this size, or how far reading came
abbrev pub said_of : {A : Type 0} → (List Clause → A) → ℕ → Result (List Clause) (List ℕ) → Result A ℕ
said_of f size (Ok clauses) = Ok (f clauses)
said_of f size (Err rest) = Err (size - length rest)

-- the query that a text says, or the place of its first fault
unfoldable pub query_said : List ℕ → Result (List Clause) ℕ
query_said text = said_of (λ clauses. clauses) (length text) (list_at Queries (past is_space text))

-- the definition that a text says, or the place of its first fault
unfoldable pub definition_said : List ℕ → Result (List Property) ℕ
definition_said text = said_of (map property_of) (length text) (list_at Definitions (past is_space text))

-- a text says exactly what the grammar relates to it, and has its fault exactly where that is
abbrev pub Says : {A : Type 0} → Result A ℕ → (A → Type 0) → (ℕ → Type 0) → Type 0
Says {A} said IsList IsPlace =
    ((found : A) → (said ≡ Ok found) ↔ IsList found) × ((place : ℕ) → (said ≡ Err place) ↔ IsPlace place)

abbrev pub SaysQuery : List ℕ → Type 0
SaysQuery text = Says (query_said text) (IsQuery text) (IsQueryFault text)

abbrev pub SaysDefinition : List ℕ → Type 0
SaysDefinition text = Says (definition_said text) (IsDefinition text) (IsDefinitionFault text)

-- a call answers what a text says, or want of memory
abbrev pub AnswersSaid : {A : Type 0} → Result A TextRefused → Result A ℕ → Type 0
AnswersSaid (Ok found) said = said ≡ Ok found
AnswersSaid (Err (NotInGrammar place)) said = said ≡ Err place
AnswersSaid (Err NoMemory) said = Unit {0}
