-- A whole text that is read is in the grammar.
use Rattle.std.proofs.Common.{◌≡◌, ℕ, zero, suc, eqb, Bool, true, false, cond, inl, inr, List, [], ◌∷◌, ◌++◌, length, map, Result, Ok, Err, refl, sym, ap, subst, ◌∙◌, append_assoc}
use Rattle.std.specs.List.{AllByRecursion}
use Rattle.std.specs.Str.{bytes_eq}
use Rattle.std.proofs.lemmas.Bool.{eqb-true, or_parts}
use Rattle.std.proofs.lemmas.List.{append-nil}
use Rattle.ossl_property.specs.declared.clause.Value.{Value}
use Rattle.ossl_property.specs.declared.clause.Value.TheVariants.{Number, Text}
use Rattle.ossl_property.specs.declared.clause.Relation.{Relation}
use Rattle.ossl_property.specs.declared.clause.Relation.TheVariants.{Equal, Differ, Remove}
use Rattle.ossl_property.specs.declared.clause.Clause.{Clause}
use Rattle.ossl_property.specs.declared.reader.Language.{Language}
use Rattle.ossl_property.specs.declared.reader.Language.TheVariants.{Definitions, Queries}
use Rattle.ossl_property.specs.Bytes.{is_space, front, past}
use Rattle.ossl_property.specs.Grammar.{IsValue, IsName, operator, mark, IsComparison, AreTokens, Leads, AreClauses, mentions, AreDistinct, IsQuery, asked, IsDefinition}
use Rattle.ossl_property.specs.Reading.{◌>>=◌, clause_at, more_at, list_at, property_of}
use Rattle.ossl_property.proofs.Runs.{front_past, past_none, past_front, past_through, front_at_past}
use Rattle.ossl_property.proofs.Sets.{bytes_eq_sym}
use Rattle.ossl_property.proofs.Found.{bind_ok, ok_is, IsAllowed, ClauseFound, clause_found}

-- ---- each token has a first byte, which is no space

abbrev pub HasFirst : List ℕ → Type 0
HasFirst word = (byte : ℕ) × (rest : List ℕ) × (word ≡ byte ∷ rest)

name_first : (word name : List ℕ) → IsName word name → HasFirst word
name_first [] name h = absurd cc
name_first (byte ∷ word) name h = (byte, word, refl)

value_first : (word : List ℕ) (value : Value) → IsValue word value → HasFirst word
value_first (byte ∷ word) value h = (byte, word, refl)
value_first [] (Number n) h = absurd cc
value_first [] (Text text) h = elim h [ inl p ↦ absurd cc | inr p ↦ absurd cc ]

operator_first : (relation : Relation) → HasFirst (operator relation)
operator_first Equal = (61, [], refl)
operator_first Differ = (33, 61 ∷ [], refl)
operator_first Remove = (45, [], refl)

comparison_first : (words : List (List ℕ)) (relation : Relation) (value : Value) → IsComparison words relation value → AllByRecursion HasFirst words
comparison_first words relation value h = elim h [
  | inl p ↦ subst (AllByRecursion HasFirst) (sym p.0) tt
  | inr p ↦ subst (AllByRecursion HasFirst) (sym p.2) (operator_first relation, (value_first p.0 value p.1, tt))
]

marked_first : (optional : Bool) (words : List (List ℕ)) → AllByRecursion HasFirst words → AllByRecursion HasFirst (mark optional ++ words)
marked_first true words h = ((63, [], refl), h)
marked_first false words h = h

pub tokens_first : (words : List (List ℕ)) (name : List ℕ) (relation : Relation) (value : Value) (optional : Bool) → AreTokens words name relation value optional → AllByRecursion HasFirst words
tokens_first words name Remove value optional h = subst (AllByRecursion HasFirst) (sym h.4) (operator_first Remove, (name_first h.0 name h.1, tt))
tokens_first words name Equal value optional h = subst (AllByRecursion HasFirst) (sym h.4) (marked_first optional (h.0 ∷ h.1) (name_first h.0 name h.2, comparison_first h.1 Equal value h.3))
tokens_first words name Differ value optional h = subst (AllByRecursion HasFirst) (sym h.4) (marked_first optional (h.0 ∷ h.1) (name_first h.0 name h.2, comparison_first h.1 Differ value h.3))

-- ---- a clause cut off from what follows it

pub first_fails : (test : ℕ → Bool) (byte : ℕ) (s t : List ℕ) → front test (byte ∷ s) ≡ [] → front test (byte ∷ t) ≡ []
first_fails test byte s t h = cases (test byte) h
  where
    cases : (b : Bool) → cond b (byte ∷ front test s) [] ≡ [] → cond b (byte ∷ front test t) [] ≡ []
    cases true h = absurd cc
    cases false h = refl

-- a word that begins with no space keeps its place whatever follows it
pub word_stays : (text word behind other : List ℕ) → HasFirst word → past is_space text ≡ word ++ behind → past is_space (word ++ other) ≡ word ++ other
word_stays text word behind other first h =
    let none : front is_space (word ++ behind) ≡ [] = ap (front is_space) (sym h) ∙ front_at_past is_space text in
    let cut : front is_space (first.0 ∷ (first.1 ++ behind)) ≡ [] = ap (λ (w : List ℕ). front is_space (w ++ behind)) (sym first.2) ∙ none in
    let stays : front is_space (word ++ other) ≡ [] = ap (λ (w : List ℕ). front is_space (w ++ other)) first.2 ∙ first_fails is_space first.0 (first.1 ++ behind) (first.1 ++ other) cut in
    past_none is_space (word ++ other) stays

pub leads_parts : (words : List (List ℕ)) (text rest : List ℕ) → AllByRecursion HasFirst words → Leads words text rest → (item : List ℕ) × (text ≡ item ++ rest) × Leads words item []
leads_parts [] text rest first h = (front is_space text, sym (front_past is_space text) ∙ ap (λ (r : List ℕ). front is_space text ++ r) h, past_front is_space text)
leads_parts (word ∷ words) text rest first h =
    let other = leads_parts words h.0 rest first.1 h.2 in
    let item : List ℕ = front is_space text ++ (word ++ other.0) in
    let whole : text ≡ item ++ rest =
    sym (front_past is_space text) ∙ ap (λ (r : List ℕ). front is_space text ++ r) (h.1 ∙ ap (λ (r : List ℕ). word ++ r) other.1 ∙ sym (append_assoc word other.0 rest)) ∙ sym (append_assoc (front is_space text) (word ++ other.0) rest) in
    let begins : past is_space item ≡ word ++ other.0 = past_through is_space (front is_space text) (word ++ other.0) (past_front is_space text) ∙ word_stays text word h.0 other.0 first.0 h.1 in
    (item, whole, (other.0, begins, other.2))

-- ---- lists

-- what stands behind a clause: nothing, or a comma and further clauses
abbrev pub Follows : List ℕ → List Clause → Type 0
Follows text [] = text ≡ []
Follows text (clause ∷ clauses) = (rest : List ℕ) × (text ≡ 44 ∷ rest) × AreClauses rest (clause ∷ clauses)

pub joined : (language : Language) (taken : List ℕ → Bool) (text : List ℕ) (clause : Clause) (rest : List ℕ) (clauses : List Clause) → ClauseFound language taken text clause rest → Follows (past is_space rest) clauses → AreClauses text (clause ∷ clauses)
joined language taken text clause rest [] f follows = (f.words, f.tokens, subst (Leads f.words text) follows f.leads)
joined language taken text clause rest (next ∷ clauses) f follows =
    let cut = leads_parts f.words text (past is_space rest) (tokens_first f.words clause.name clause.relation clause.value clause.optional f.tokens) f.leads in
    (cut.0, follows.0, (f.words, f.tokens, cut.2), follows.2, cut.1 ∙ ap (λ (r : List ℕ). cut.0 ++ r) follows.1)

pub mentions_push : (clauses : List Clause) (clause : Clause) (name : List ℕ) → mentions clauses name ≡ false → bytes_eq clause.name name ≡ false → mentions (clauses ++ clause ∷ []) name ≡ false
mentions_push [] clause name h e = rw e refl
mentions_push (first ∷ clauses) clause name h e =
    let parts = or_parts (bytes_eq first.name name) (mentions clauses name) h in
    rw (parts.0, mentions_push clauses clause name parts.1 e) refl

pub distinct_push : (clauses : List Clause) (clause : Clause) → AreDistinct clauses → mentions clauses clause.name ≡ false → AreDistinct (clauses ++ clause ∷ [])
distinct_push [] clause h e = (refl, tt)
distinct_push (first ∷ clauses) clause h e =
    let parts = or_parts (bytes_eq first.name clause.name) (mentions clauses clause.name) e in
    (mentions_push clauses clause first.name h.0 (bytes_eq_sym clause.name first.name ∙ parts.0), distinct_push clauses clause h.1 parts.1)

abbrev pub Allowed : Language → Clause → Type 0
Allowed language clause = IsAllowed language clause.relation clause.optional

pub record MoreFound (language : Language) (clauses : List Clause) (text : List ℕ) (all : List Clause) : Type 0 where
  pub more : List Clause
  pub whole : all ≡ clauses ++ more
  pub follows : Follows text more
  pub allowed : AllByRecursion (Allowed language) more
  pub distinct : AreDistinct clauses → AreDistinct all

abbrev done : List Clause → Result (List Clause) (List ℕ)
done clauses = Ok clauses

more_found : (fuel : ℕ) (language : Language) (clauses : List Clause) (text : List ℕ) (all : List Clause) → more_at fuel language clauses text ≡ Ok all → MoreFound language clauses text all
unfolding more_at
more_found zero language clauses text all e = absurd cc
more_found (suc fuel) language clauses [] all e =
    subst (MoreFound language clauses []) (ok_is clauses all e) (record { more = []; whole = sym (append-nil clauses); follows = refl; allowed = tt; distinct = λ h. h })
more_found (suc fuel) language clauses (byte ∷ text) all e = comma (λ after rest h. more_found fuel language after rest all h) (eqb byte 44) refl e
  where
    step : List Clause → Clause × List ℕ → Result (List Clause) (List ℕ)
    step before next = more_at fuel language (before ++ next.0 ∷ []) (past is_space next.1)

    comma : ((after : List Clause) (rest : List ℕ) → more_at fuel language after rest ≡ Ok all → MoreFound language after rest all)
        → (t : Bool) → eqb byte 44 ≡ t → cond t (clause_at language (mentions clauses) (past is_space text) >>= λ next. more_at fuel language (clauses ++ next.0 ∷ []) (past is_space next.1)) (Err (byte ∷ text)) ≡ Ok all → MoreFound language clauses (byte ∷ text) all
    comma others false h e = absurd cc
    comma others true h e =
        let b = bind_ok (clause_at language (mentions clauses) (past is_space text)) (λ next. more_at fuel language (clauses ++ next.0 ∷ []) (past is_space next.1)) all e in
        let f = clause_found language (mentions clauses) text b.0 b.1 in
        let m = others (clauses ++ b.0.0 ∷ []) (past is_space b.0.1) b.2 in
        record {
          more = b.0.0 ∷ m.more;
          whole = m.whole ∙ append_assoc clauses (b.0.0 ∷ []) m.more;
          follows = (text, ap (λ (c : ℕ). c ∷ text) (eqb-true byte 44 h), joined language (mentions clauses) text b.0.0 b.0.1 m.more f m.follows);
          allowed = (f.allowed, m.allowed);
          distinct = λ d. m.distinct (distinct_push clauses b.0.0 d f.new);
        }

-- a text that is read is these clauses, each of which the language allows
pub record ListFound (language : Language) (text : List ℕ) (clauses : List Clause) : Type 0 where
  pub is : IsQuery text clauses
  pub allowed : AllByRecursion (Allowed language) clauses

list_found_at : (language : Language) (text first : List ℕ) (clauses : List Clause) → past is_space text ≡ first → list_at language first ≡ Ok clauses → ListFound language text clauses
unfolding list_at
list_found_at language text [] clauses at e = subst (ListFound language text) (ok_is [] clauses e) (record { is = (at, tt); allowed = tt })
list_found_at language text (byte ∷ rest) clauses at e =
    let b = bind_ok (clause_at language (λ name. false) (byte ∷ rest)) (λ next. more_at (suc (suc (length rest))) language (next.0 ∷ []) (past is_space next.1)) clauses e in
    let f = clause_found language (λ name. false) text b.0 (ap (clause_at language (λ name. false)) at ∙ b.1) in
    let m = more_found (suc (suc (length rest))) language (b.0.0 ∷ []) (past is_space b.0.1) clauses b.2 in
    record {
      is = (subst (AreClauses text) (sym m.whole) (joined language (λ name. false) text b.0.0 b.0.1 m.more f m.follows), m.distinct (refl, tt));
      allowed = subst (AllByRecursion (Allowed language)) (sym m.whole) (f.allowed, m.allowed);
    }

pub list_found : (language : Language) (text : List ℕ) (clauses : List Clause) → list_at language (past is_space text) ≡ Ok clauses → ListFound language text clauses
list_found language text clauses e = list_found_at language text (past is_space text) clauses refl e

pub query_found : (text : List ℕ) (clauses : List Clause) → list_at Queries (past is_space text) ≡ Ok clauses → IsQuery text clauses
query_found text clauses e = (list_found Queries text clauses e).is

-- a clause that a definition allows is the one that asks for its property
pub asked_property : (clause : Clause) → Allowed Definitions clause → asked (property_of clause) ≡ clause
asked_property clause h = elim h [
  | inl q ↦ absurd cc
  | inr p ↦ λ i. record { name = clause.name; relation = sym p.0 i; value = clause.value; optional = sym p.1 i }
]

pub asked_properties : (clauses : List Clause) → AllByRecursion (Allowed Definitions) clauses → map asked (map property_of clauses) ≡ clauses
asked_properties [] h = refl
asked_properties (clause ∷ clauses) h = λ i. asked_property clause h.0 i ∷ asked_properties clauses h.1 i

pub definition_found : (text : List ℕ) (clauses : List Clause) → list_at Definitions (past is_space text) ≡ Ok clauses → IsDefinition text (map property_of clauses)
definition_found text clauses e =
    let f = list_found Definitions text clauses e in
    subst (IsQuery text) (sym (asked_properties clauses f.allowed)) f.is
