-- What a text says is what the grammar relates to it, and its fault is where the rules have it.
use Rattle.std.proofs.Common.{◌≡◌, ℕ, ◌-◌, List, length, map, Result, Ok, Err, refl, sym, ◌∙◌, ap, subst}
use Rattle.ossl_property.specs.declared.clause.Clause.{Clause}
use Rattle.ossl_property.specs.declared.clause.Property.{Property}
use Rattle.ossl_property.specs.declared.clause.TextRefused.{TextRefused}
use Rattle.ossl_property.specs.declared.clause.TextRefused.TheVariants.{NotInGrammar, NoMemory}
use Rattle.ossl_property.specs.declared.reader.Language.TheVariants.{Definitions, Queries}
use Rattle.ossl_property.specs.Bytes.{is_space, past}
use Rattle.ossl_property.specs.Fault.{IsDefinitionFault, IsQueryFault, IsRefusal}
use Rattle.ossl_property.specs.Grammar.{IsDefinition, IsQuery, asked}
use Rattle.ossl_property.specs.Reading.{Stops, list_at, property_of}
use Rattle.ossl_property.specs.Said.{AnswersSaid, Says, SaysDefinition, SaysQuery, definition_said, query_said, said_of}
use Rattle.ossl_property.proofs.AgainLists.{definition_again, property_asked, query_again}
use Rattle.ossl_property.proofs.Begun.{one_fault}
use Rattle.ossl_property.proofs.Faults.{read_no_fault, stopped_fault}
use Rattle.ossl_property.proofs.FoundLists.{definition_found, query_found}

-- a refusal that says how far reading came
pub refusal_said : {A : Type 0} (f : List Clause → A) (size : ℕ) (r : Result (List Clause) (List ℕ)) (refusal : TextRefused) → IsRefusal refusal (Stops size r) → AnswersSaid {A = A} (Err refusal) (said_of f size r)
refusal_said f size r NoMemory is = tt
refusal_said f size (Ok found) (NotInGrammar place) is = absurd is
refusal_said f size (Err rest) (NotInGrammar place) is = ap (λ n. Err n) (sym is)

pub query_refused : (text : List ℕ) (refusal : TextRefused) → IsRefusal refusal (Stops (length text) (list_at Queries (past is_space text))) → AnswersSaid {A = List Clause} (Err refusal) (query_said text)
unfolding query_said
query_refused text refusal is = refusal_said (λ clauses. clauses) (length text) (list_at Queries (past is_space text)) refusal is

pub definition_refused : (text : List ℕ) (refusal : TextRefused) → IsRefusal refusal (Stops (length text) (list_at Definitions (past is_space text))) → AnswersSaid {A = List Property} (Err refusal) (definition_said text)
unfolding definition_said
definition_refused text refusal is = refusal_said (map property_of) (length text) (list_at Definitions (past is_space text)) refusal is

pub query_law : (text : List ℕ) → SaysQuery text
unfolding query_said
query_law text = of (list_at Queries (past is_space text)) refl
  where
    of : (r : Result (List Clause) (List ℕ)) → list_at Queries (past is_space text) ≡ r → Says (said_of (λ clauses. clauses) (length text) r) (IsQuery text) (IsQueryFault text)
    of (Ok found) read = (
      λ query. (
        (λ said. let same : found ≡ query = cc in subst (IsQuery text) same (query_found text found read)),
        (λ is. let same : Ok found ≡ Ok query = sym read ∙ query_again text query is in cc),
      ),
      λ place. ((λ said. cc), (λ fault. absurd (read_no_fault Queries text found place read fault))),
    )
    of (Err rest) read = (
      λ query. ((λ said. cc), (λ is. let same : Err rest ≡ Ok query = sym read ∙ query_again text query is in cc)),
      λ place. (
        (λ said. let same : length text - length rest ≡ place = cc in subst (IsQueryFault text) same (stopped_fault Queries text rest read)),
        (λ fault. ap (λ n. Err n) (sym (one_fault Queries text place (length text - length rest) fault (stopped_fault Queries text rest read)))),
      ),
    )

pub definition_law : (text : List ℕ) → SaysDefinition text
unfolding definition_said
definition_law text = of (list_at Definitions (past is_space text)) refl
  where
    of : (r : Result (List Clause) (List ℕ)) → list_at Definitions (past is_space text) ≡ r → Says (said_of (map property_of) (length text) r) (IsDefinition text) (IsDefinitionFault text)
    of (Ok found) read = (
      λ definition. (
        (λ said. let same : map property_of found ≡ definition = cc in subst (IsDefinition text) same (definition_found text found read)),
        (λ is.
            let same : found ≡ map asked definition = (let e : Ok found ≡ Ok (map asked definition) = sym read ∙ definition_again text definition is in cc) in
            ap (λ clauses. Ok (map property_of clauses)) same ∙ ap (λ d. Ok d) (property_asked definition)),
      ),
      λ place. ((λ said. cc), (λ fault. absurd (read_no_fault Definitions text found place read fault))),
    )
    of (Err rest) read = (
      λ definition. ((λ said. cc), (λ is. let same : Err rest ≡ Ok (map asked definition) = sym read ∙ definition_again text definition is in cc)),
      λ place. (
        (λ said. let same : length text - length rest ≡ place = cc in subst (IsDefinitionFault text) same (stopped_fault Definitions text rest read)),
        (λ fault. ap (λ n. Err n) (sym (one_fault Definitions text place (length text - length rest) fault (stopped_fault Definitions text rest read)))),
      ),
    )
