-- Each text has one list or one fault, and none has both.
use Rattle.std.proofs.Common.{◌≡◌, ℕ, ◌-◌, ◌⊎◌, inl, inr, List, length, map, Result, Ok, Err, refl, sym, ap, ◌∙◌}
use Rattle.ossl_property.specs.declared.clause.Property.{Property}
use Rattle.ossl_property.specs.declared.clause.Clause.{Clause}
use Rattle.ossl_property.specs.declared.reader.Language.TheVariants.{Definitions, Queries}
use Rattle.ossl_property.specs.Bytes.{is_space, past}
use Rattle.ossl_property.specs.Grammar.{IsQuery, IsDefinition}
use Rattle.ossl_property.specs.Reading.{list_at, property_of}
use Rattle.ossl_property.specs.Fault.{IsQueryFault, IsDefinitionFault, HasOne}
use Rattle.ossl_property.proofs.Found.{ok_is}
use Rattle.ossl_property.proofs.FoundLists.{query_found, definition_found}
use Rattle.ossl_property.proofs.AgainLists.{query_again, definition_again, property_asked}
use Rattle.ossl_property.proofs.Begun.{one_fault}
use Rattle.ossl_property.proofs.Faults.{read_no_fault, stopped_fault}

pub query_apart : (text : List ℕ) (query : List Clause) (place : ℕ) → IsQuery text query → IsQueryFault text place → ⊥
query_apart text query place is fault = read_no_fault Queries text query place (query_again text query is) fault

pub definition_apart : (text : List ℕ) (definition : List Property) (place : ℕ) → IsDefinition text definition → IsDefinitionFault text place → ⊥
definition_apart text definition place is fault = read_no_fault Definitions text _ place (definition_again text definition is) fault

pub query_one : (text : List ℕ) → HasOne (IsQuery text) ⊎ HasOne (IsQueryFault text)
query_one text = cases (list_at Queries (past is_space text)) refl
  where
    cases : (r : Result (List Clause) (List ℕ)) → list_at Queries (past is_space text) ≡ r → HasOne (IsQuery text) ⊎ HasOne (IsQueryFault text)
    cases (Ok query) e = inl (query, query_found text query e, λ other is. ok_is other query (sym (query_again text other is) ∙ e))
    cases (Err bad) e =
        let fault : IsQueryFault text (length text - length bad) = stopped_fault Queries text bad e in
        inr (length text - length bad, fault, λ other is. one_fault Queries text other (length text - length bad) is fault)

pub definition_one : (text : List ℕ) → HasOne (IsDefinition text) ⊎ HasOne (IsDefinitionFault text)
definition_one text = cases (list_at Definitions (past is_space text)) refl
  where
    cases : (r : Result (List Clause) (List ℕ)) → list_at Definitions (past is_space text) ≡ r → HasOne (IsDefinition text) ⊎ HasOne (IsDefinitionFault text)
    cases (Ok clauses) e = inl (map property_of clauses, definition_found text clauses e, λ other is. sym (property_asked other) ∙ ap (map property_of) (ok_is _ clauses (sym (definition_again text other is) ∙ e)))
    cases (Err bad) e =
        let fault : IsDefinitionFault text (length text - length bad) = stopped_fault Definitions text bad e in
        inr (length text - length bad, fault, λ other is. one_fault Definitions text other (length text - length bad) is fault)
