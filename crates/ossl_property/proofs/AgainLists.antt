-- What is in the grammar is read: clauses and lists.
use Rattle.std.proofs.Common.{◌≡◌, ℕ, zero, suc, ◌<◌, ◌≤◌, eqb, ltb, Bool, true, false, cond, ◌&&◌, inl, inr, List, [], ◌∷◌, ◌++◌, length, drop, map, Result, Ok, refl, sym, ap, subst, ◌∙◌, append_assoc, arith}
use Rattle.std.specs.Char.{is_ascii_alphabetic}
use Rattle.std.specs.List.{AllByRecursion}
use Rattle.std.specs.Str.{bytes_eq}
use Rattle.std.proofs.lemmas.Bool.{eqb-true, ne_eqb, and_parts, or_parts}
use Rattle.std.proofs.lemmas.List.{append-nil, length-append}
use Rattle.ossl_property.specs.declared.clause.TextRefused.{TextRefused}
use Rattle.ossl_property.specs.declared.clause.TextRefused.TheVariants.{NotInGrammar, NoMemory}
use Rattle.ossl_property.specs.Fault.{IsRefusal, IsMemory}
use Rattle.ossl_property.specs.declared.clause.Value.{Value}
use Rattle.ossl_property.specs.declared.clause.Relation.{Relation}
use Rattle.ossl_property.specs.declared.clause.Relation.TheVariants.{Equal, Differ, Remove}
use Rattle.ossl_property.specs.declared.clause.Property.{Property}
use Rattle.ossl_property.specs.declared.clause.Clause.{Clause}
use Rattle.ossl_property.specs.declared.reader.Language.{Language}
use Rattle.ossl_property.specs.declared.reader.Language.TheVariants.{Definitions, Queries}
use Rattle.ossl_property.specs.declared.reader.Prefix.{Prefix}
use Rattle.ossl_property.specs.declared.reader.Prefix.TheVariants as prefixes
use Rattle.ossl_property.specs.Bytes.{is_space, is_name_byte, is_value_byte, front, past}
use Rattle.ossl_property.specs.Grammar.{may_stand, is_dotted, IsValue, IsName, operator, mark, yes, no_value, IsComparison, AreTokens, Leads, IsClause, AreClauses, mentions, AreDistinct, IsQuery, asked, IsDefinition}
use Rattle.ossl_property.specs.Reading.{◌>>=◌, name_at, value_at, is_query, compared_at, begins_differ, comparison_at, named_at, removal_at, prefix_at, prefixed_at, clause_at, more_at, list_at, Stops, property_of}
use Rattle.ossl_property.proofs.Runs.{past_through, past_within, length_past}
use Rattle.ossl_property.proofs.Found.{IsAllowed, bind_ok}
use Rattle.ossl_property.proofs.FoundLists.{HasFirst, tokens_first, Allowed, mentions_push}
use Rattle.ossl_property.proofs.Sets.{bytes_eq_sym}
use Rattle.ossl_property.proofs.Again.{apart, name_again, value_again}

-- what may follow a clause: nothing, or a comma
abbrev pub IsEnd : List ℕ → Type 0
IsEnd [] = Unit {0}
IsEnd (byte ∷ rest) = byte ≡ 44

end_stays : (tail : List ℕ) → IsEnd tail → past is_space tail ≡ tail
end_stays [] h = refl
end_stays (byte ∷ rest) h = λ i. cond (eqb (h i) 32) (past is_space rest) (byte ∷ rest)

-- spaces, and behind them what begins with no byte of a class that has no space
spaces_end : (test : ℕ → Bool) (spaces behind : List ℕ) → test 32 ≡ false → past is_space spaces ≡ [] → front test behind ≡ [] → front test (spaces ++ behind) ≡ []
spaces_end test [] behind outside h e = e
spaces_end test (byte ∷ spaces) behind outside h e = cases (eqb byte 32) refl h
  where
    cases : (t : Bool) → eqb byte 32 ≡ t → cond t (past is_space spaces) (byte ∷ spaces) ≡ [] → front test (byte ∷ (spaces ++ behind)) ≡ []
    cases true is h = let fails : test byte ≡ false = ap test (eqb-true byte 32 is) ∙ outside in λ i. cond (fails i) (byte ∷ front test (spaces ++ behind)) []
    cases false is h = absurd cc

-- the same where more than spaces follow
within_end : (test : ℕ → Bool) (text : List ℕ) (byte : ℕ) (rest behind : List ℕ) → test 32 ≡ false → past is_space text ≡ byte ∷ rest → test byte ≡ false → front test (text ++ behind) ≡ []
within_end test [] byte rest behind outside h e = absurd cc
within_end test (first ∷ text) byte rest behind outside h e = cases (eqb first 32) refl h
  where
    cases : (t : Bool) → eqb first 32 ≡ t → cond t (past is_space text) (first ∷ text) ≡ byte ∷ rest → front test (first ∷ (text ++ behind)) ≡ []
    cases true is h = let fails : test first ≡ false = ap test (eqb-true first 32 is) ∙ outside in λ i. cond (fails i) (first ∷ front test (text ++ behind)) []
    cases false is h = let same : first ≡ byte = cc in let fails : test first ≡ false = ap test same ∙ e in λ i. cond (fails i) (first ∷ front test (text ++ behind)) []

end_front : (test : ℕ → Bool) (tail : List ℕ) → test 44 ≡ false → IsEnd tail → front test tail ≡ []
end_front test [] outside h = refl
end_front test (byte ∷ rest) outside h = let fails : test byte ≡ false = ap test h ∙ outside in λ i. cond (fails i) (byte ∷ front test rest) []

-- ---- comparisons

compared_again : (relation : Relation) (word text behind tail : List ℕ) (value : Value) → IsValue word value → past is_space text ≡ word ++ behind → HasFirst word → past is_space behind ≡ [] → IsEnd tail
    → compared_at relation (text ++ tail) ≡ Ok (relation, value, behind ++ tail)
compared_again relation word text behind tail value is at first spaces end =
    let within : past is_space (text ++ tail) ≡ word ++ (behind ++ tail) =
    past_within is_space text tail first.0 (first.1 ++ behind) (at ∙ ap (λ (w : List ℕ). w ++ behind) first.2)
    ∙ ap (λ (r : List ℕ). first.0 ∷ r) (append_assoc first.1 behind tail) ∙ ap (λ (w : List ℕ). w ++ (behind ++ tail)) (sym first.2) in
    let read = value_again word (behind ++ tail) value is (spaces_end is_value_byte behind tail refl spaces (end_front is_value_byte tail refl end)) in
    ap (λ (t : List ℕ). value_at t >>= λ v. Ok (relation, v.0, v.1)) within ∙ ap (λ (r : Result (Value × List ℕ) (List ℕ)). r >>= λ v. Ok (relation, v.0, v.1)) read

-- a comparison that is read, and what stands before it belongs to no name
pub record ComparisonAgain (language : Language) (text tail : List ℕ) (relation : Relation) (value : Value) : Type 0 where
  pub rest : List ℕ
  pub reads : comparison_at language (past is_space (text ++ tail)) ≡ Ok (relation, value, rest)
  pub ends : past is_space rest ≡ tail
  pub no_name : front is_name_byte (text ++ tail) ≡ []

no_differ : (byte : ℕ) (rest : List ℕ) → byte ≡ 44 → begins_differ (byte ∷ rest) ≡ false
no_differ byte [] h = refl
no_differ byte (next ∷ rest) h = λ i. eqb (h i) 33 && eqb next 61

bare_at : (language : Language) (tail : List ℕ) → IsEnd tail → comparison_at language tail ≡ Ok (Equal, yes, tail)
unfolding comparison_at
bare_at language [] h = refl
bare_at Definitions (byte ∷ rest) h = λ i. cond (eqb (h i) 61) (compared_at Equal rest) (Ok (Equal, yes, byte ∷ rest))
bare_at Queries (byte ∷ rest) h =
    let other : Result (Relation × Value × List ℕ) (List ℕ) = Ok (Equal, yes, byte ∷ rest) in
    let first : comparison_at Queries (byte ∷ rest) ≡ cond (begins_differ (byte ∷ rest)) (compared_at Differ (drop 1 rest)) other = λ i. cond (eqb (h i) 61) (compared_at Equal rest) (cond (begins_differ (byte ∷ rest)) (compared_at Differ (drop 1 rest)) other) in
    let second : cond (begins_differ (byte ∷ rest)) (compared_at Differ (drop 1 rest)) other ≡ other = λ i. cond (no_differ byte rest h i) (compared_at Differ (drop 1 rest)) other in
    first ∙ second

equal_at : (language : Language) (text : List ℕ) → comparison_at language (61 ∷ text) ≡ compared_at Equal text
unfolding comparison_at
equal_at language text = refl

differ_at : (language : Language) (text : List ℕ) → is_query language ≡ true → comparison_at language (33 ∷ 61 ∷ text) ≡ compared_at Differ text
unfolding comparison_at
differ_at Queries text h = refl
differ_at Definitions text h = absurd cc

none_again : (language : Language) (text tail : List ℕ) → past is_space text ≡ [] → IsEnd tail → ComparisonAgain language text tail Equal yes
none_again language text tail spaces end =
    let trimmed : past is_space (text ++ tail) ≡ tail = past_through is_space text tail spaces ∙ end_stays tail end in
    record { rest = tail; reads = ap (comparison_at language) trimmed ∙ bare_at language tail end; ends = end_stays tail end; no_name = spaces_end is_name_byte text tail refl spaces (end_front is_name_byte tail refl end) }

value_first : (word : List ℕ) (value : Value) → AllByRecursion HasFirst (word ∷ []) → HasFirst word
value_first word value h = h.0

equal_again : (language : Language) (text behind last tail : List ℕ) (word : List ℕ) (value : Value) → IsValue word value → HasFirst word → past is_space text ≡ 61 ∷ behind → past is_space behind ≡ word ++ last → past is_space last ≡ [] → IsEnd tail → ComparisonAgain language text tail Equal value
equal_again language text behind last tail word value is first op at spaces end =
    let begins : past is_space (text ++ tail) ≡ 61 ∷ (behind ++ tail) = past_within is_space text tail 61 behind op in
    record {
      rest = last ++ tail;
      reads = ap (comparison_at language) begins ∙ equal_at language (behind ++ tail) ∙ compared_again Equal word behind last tail value is at first spaces end;
      ends = past_through is_space last tail spaces ∙ end_stays tail end;
      no_name = within_end is_name_byte text 61 behind tail refl op refl;
    }

differ_again : (language : Language) (text behind last tail : List ℕ) (word : List ℕ) (value : Value) → is_query language ≡ true → IsValue word value → HasFirst word → past is_space text ≡ 33 ∷ 61 ∷ behind → past is_space behind ≡ word ++ last → past is_space last ≡ [] → IsEnd tail → ComparisonAgain language text tail Differ value
differ_again language text behind last tail word value may is first op at spaces end =
    let begins : past is_space (text ++ tail) ≡ 33 ∷ 61 ∷ (behind ++ tail) = past_within is_space text tail 33 (61 ∷ behind) op in
    record {
      rest = last ++ tail;
      reads = ap (comparison_at language) begins ∙ differ_at language (behind ++ tail) may ∙ compared_again Differ word behind last tail value is at first spaces end;
      ends = past_through is_space last tail spaces ∙ end_stays tail end;
      no_name = within_end is_name_byte text 33 (61 ∷ behind) tail refl op refl;
    }

-- what may stand: `=`, or `!=` in queries
abbrev MayCompare : Language → Relation → Type 0
MayCompare language Equal = Unit {0}
MayCompare language Differ = is_query language ≡ true
MayCompare language Remove = ⊥

operator_again : (language : Language) (relation : Relation) (text behind last tail : List ℕ) (word : List ℕ) (value : Value) → MayCompare language relation → IsValue word value → HasFirst word → past is_space text ≡ operator relation ++ behind → past is_space behind ≡ word ++ last → past is_space last ≡ [] → IsEnd tail → ComparisonAgain language text tail relation value
operator_again language Equal text behind last tail word value may is first op at spaces end = equal_again language text behind last tail word value is first op at spaces end
operator_again language Differ text behind last tail word value may is first op at spaces end = differ_again language text behind last tail word value may is first op at spaces end
operator_again language Remove text behind last tail word value may is first op at spaces end = absurd may

comparison_again : (language : Language) (words : List (List ℕ)) (relation : Relation) (value : Value) (text tail : List ℕ) → MayCompare language relation → IsComparison words relation value → AllByRecursion HasFirst words → Leads words text [] → IsEnd tail → ComparisonAgain language text tail relation value
comparison_again language words relation value text tail may h first leads end = elim h [
  | inl p ↦
      let spaces : past is_space text ≡ [] = subst (λ (w : List (List ℕ)). Leads w text []) p.0 leads in
      subst (λ (v : Value). ComparisonAgain language text tail relation v) (sym p.2) (subst (λ (r : Relation). ComparisonAgain language text tail r yes) (sym p.1) (none_again language text tail spaces end))
  | inr p ↦
      let l : Leads (operator relation ∷ p.0 ∷ []) text [] = subst (λ (w : List (List ℕ)). Leads w text []) p.2 leads in
      let firsts : AllByRecursion HasFirst (operator relation ∷ p.0 ∷ []) = subst (AllByRecursion HasFirst) p.2 first in
      operator_again language relation text l.0 l.2.0 tail p.0 value may p.1 firsts.1.0 l.1 l.2.1 l.2.2 end
]

-- ---- clauses

pub record ClauseAgain (language : Language) (taken : List ℕ → Bool) (text tail : List ℕ) (clause : Clause) : Type 0 where
  pub rest : List ℕ
  pub reads : clause_at language taken (past is_space (text ++ tail)) ≡ Ok (clause, rest)
  pub ends : past is_space rest ≡ tail

abbrev made : List ℕ → Relation → Value → Bool → Clause
made name relation value optional = record { name = name; relation = relation; value = value; optional = optional }

-- a name and what stands behind it
pub record NamedAgain (language : Language) (taken : List ℕ → Bool) (optional : Bool) (text tail : List ℕ) (clause : Clause) : Type 0 where
  pub rest : List ℕ
  pub reads : named_at language taken optional (past is_space (text ++ tail)) ≡ Ok (clause, rest)
  pub ends : past is_space rest ≡ tail

named_again : (language : Language) (taken : List ℕ → Bool) (optional : Bool) (text behind tail word name : List ℕ) (words : List (List ℕ)) (relation : Relation) (value : Value) → MayCompare language relation → IsName word name → taken name ≡ false → IsComparison words relation value
    → HasFirst word → AllByRecursion HasFirst words → past is_space text ≡ word ++ behind → Leads words behind [] → IsEnd tail → NamedAgain language taken optional text tail (made name relation value optional)
unfolding named_at
named_again language taken optional text behind tail word name words relation value may is new compares first firsts at leads end =
    let c = comparison_again language words relation value behind tail may compares firsts leads end in
    let within : past is_space (text ++ tail) ≡ word ++ (behind ++ tail) =
    past_within is_space text tail first.0 (first.1 ++ behind) (at ∙ ap (λ (w : List ℕ). w ++ behind) first.2)
    ∙ ap (λ (r : List ℕ). first.0 ∷ r) (append_assoc first.1 behind tail) ∙ ap (λ (w : List ℕ). w ++ (behind ++ tail)) (sym first.2) in
    let n = name_again taken word name (behind ++ tail) is new c.no_name in
    let after : List ℕ × List ℕ → Result (Clause × List ℕ) (List ℕ) = λ m. comparison_at language (past is_space m.1) >>= λ r. Ok (record { name = m.0; relation = r.0; value = r.1; optional = optional }, r.2) in
    let last : Relation × Value × List ℕ → Result (Clause × List ℕ) (List ℕ) = λ r. Ok (record { name = name; relation = r.0; value = r.1; optional = optional }, r.2) in
    record {
      rest = c.rest;
      reads = ap (λ (t : List ℕ). name_at taken t >>= after) within ∙ ap (λ (r : Result (List ℕ × List ℕ) (List ℕ)). r >>= after) n ∙ ap (λ (r : Result (Relation × Value × List ℕ) (List ℕ)). r >>= last) c.reads;
      ends = c.ends;
    }

name_start : (byte : ℕ) (word name : List ℕ) → IsName (byte ∷ word) name → is_ascii_alphabetic byte ≡ true
name_start byte word name h =
    let dotted = (and_parts (is_dotted true (byte ∷ word)) (ltb (length (byte ∷ word)) 100) h.0).0 in
    let stands = (and_parts (may_stand true byte) (is_dotted (eqb byte 46) word) dotted).0 in
    dot (eqb byte 46) stands
  where
    dot : (t : Bool) → cond t false (is_ascii_alphabetic byte) ≡ true → is_ascii_alphabetic byte ≡ true
    dot true h = absurd cc
    dot false h = h

bare_prefix : (language : Language) (byte : ℕ) (text : List ℕ) → (byte ≡ 63 → ⊥) → (byte ≡ 45 → ⊥) → prefix_at language (byte ∷ text) ≡ (prefixes.Bare, byte ∷ text)
bare_prefix Definitions byte text p q = refl
bare_prefix Queries byte text p q = λ i. cond {A = Prefix × List ℕ} (ne_eqb byte 63 p i) (prefixes.Optional, past is_space text) (cond {A = Prefix × List ℕ} (ne_eqb byte 45 q i) (prefixes.Removal, past is_space text) (prefixes.Bare, byte ∷ text))

optional_prefix : (language : Language) (text : List ℕ) → is_query language ≡ true → prefix_at language (63 ∷ text) ≡ (prefixes.Optional, past is_space text)
optional_prefix Queries text h = refl
optional_prefix Definitions text h = absurd cc

removal_prefix : (language : Language) (text : List ℕ) → is_query language ≡ true → prefix_at language (45 ∷ text) ≡ (prefixes.Removal, past is_space text)
removal_prefix Queries text h = refl
removal_prefix Definitions text h = absurd cc

at_prefix : (language : Language) (taken : List ℕ → Bool) (text : List ℕ) (prefix : Prefix) (rest : List ℕ) → prefix_at language text ≡ (prefix, rest) → clause_at language taken text ≡ prefixed_at language taken prefix rest
unfolding clause_at
at_prefix language taken text prefix rest h = λ i. prefixed_at language taken (h i).0 (h i).1

may_compare : (language : Language) (relation : Relation) (optional : Bool) → (relation ≡ Remove → ⊥) → IsAllowed language relation optional → MayCompare language relation
may_compare language Equal optional p h = tt
may_compare language Differ optional p h = elim h [ inl q ↦ q | inr q ↦ absurd cc ]
may_compare language Remove optional p h = absurd (p refl)

-- a clause that is no removal
asking_again : (language : Language) (taken : List ℕ → Bool) (words : List (List ℕ)) (text tail name : List ℕ) (relation : Relation) (value : Value) (optional : Bool) → (relation ≡ Remove → ⊥)
    → (word : List ℕ) × (comparison : List (List ℕ)) × IsName word name × IsComparison comparison relation value × (words ≡ mark optional ++ word ∷ comparison)
    → AllByRecursion HasFirst words → Leads words text [] → taken name ≡ false → IsAllowed language relation optional → IsEnd tail → ClauseAgain language taken text tail (made name relation value optional)
asking_again language taken words text tail name relation value false asks p first leads new allowed end =
    let firsts : AllByRecursion HasFirst (p.0 ∷ p.1) = subst (AllByRecursion HasFirst) p.4 first in
    let l : Leads (p.0 ∷ p.1) text [] = subst (λ (w : List (List ℕ)). Leads w text []) p.4 leads in
    let n = named_again language taken false text l.0 tail p.0 name p.1 relation value (may_compare language relation false asks allowed) p.2 new p.3 firsts.0 firsts.1 l.1 l.2 end in
    let is : IsName (firsts.0.0 ∷ firsts.0.1) name = subst (λ (w : List ℕ). IsName w name) firsts.0.2 p.2 in
    let letter = name_start firsts.0.0 firsts.0.1 name is in
    let begins : past is_space (text ++ tail) ≡ firsts.0.0 ∷ ((firsts.0.1 ++ l.0) ++ tail) = past_within is_space text tail firsts.0.0 (firsts.0.1 ++ l.0) (l.1 ∙ ap (λ (w : List ℕ). w ++ l.0) firsts.0.2) in
    let prefix = bare_prefix language firsts.0.0 ((firsts.0.1 ++ l.0) ++ tail) (apart is_ascii_alphabetic firsts.0.0 63 letter refl) (apart is_ascii_alphabetic firsts.0.0 45 letter refl) in
    record {
      rest = n.rest;
      reads = ap (clause_at language taken) begins ∙ at_prefix language taken (firsts.0.0 ∷ ((firsts.0.1 ++ l.0) ++ tail)) prefixes.Bare (firsts.0.0 ∷ ((firsts.0.1 ++ l.0) ++ tail)) prefix ∙ ap (named_at language taken false) (sym begins) ∙ n.reads;
      ends = n.ends;
    }
asking_again language taken words text tail name relation value true asks p first leads new allowed end =
    let firsts : AllByRecursion HasFirst ((63 ∷ []) ∷ p.0 ∷ p.1) = subst (AllByRecursion HasFirst) p.4 first in
    let l : Leads ((63 ∷ []) ∷ p.0 ∷ p.1) text [] = subst (λ (w : List (List ℕ)). Leads w text []) p.4 leads in
    let may : is_query language ≡ true = elim allowed [ inl q ↦ q | inr q ↦ absurd cc ] in
    let n = named_again language taken true l.0 l.2.0 tail p.0 name p.1 relation value (may_compare language relation true asks allowed) p.2 new p.3 firsts.1.0 firsts.1.1 l.2.1 l.2.2 end in
    let begins : past is_space (text ++ tail) ≡ 63 ∷ (l.0 ++ tail) = past_within is_space text tail 63 l.0 l.1 in
    record {
      rest = n.rest;
      reads = ap (clause_at language taken) begins ∙ at_prefix language taken (63 ∷ (l.0 ++ tail)) prefixes.Optional (past is_space (l.0 ++ tail)) (optional_prefix language (l.0 ++ tail) may) ∙ n.reads;
      ends = n.ends;
    }

removed_again : (language : Language) (taken : List ℕ → Bool) (text behind last tail word name : List ℕ) → is_query language ≡ true → IsName word name → HasFirst word → taken name ≡ false → past is_space text ≡ 45 ∷ behind → past is_space behind ≡ word ++ last → past is_space last ≡ [] → IsEnd tail
    → ClauseAgain language taken text tail (made name Remove no_value false)
unfolding removal_at
removed_again language taken text behind last tail word name may is first new op at spaces end =
    let begins : past is_space (text ++ tail) ≡ 45 ∷ (behind ++ tail) = past_within is_space text tail 45 behind op in
    let within : past is_space (behind ++ tail) ≡ word ++ (last ++ tail) =
    past_within is_space behind tail first.0 (first.1 ++ last) (at ∙ ap (λ (w : List ℕ). w ++ last) first.2)
    ∙ ap (λ (r : List ℕ). first.0 ∷ r) (append_assoc first.1 last tail) ∙ ap (λ (w : List ℕ). w ++ (last ++ tail)) (sym first.2) in
    let n = name_again taken word name (last ++ tail) is new (spaces_end is_name_byte last tail refl spaces (end_front is_name_byte tail refl end)) in
    let after : List ℕ × List ℕ → Result (Clause × List ℕ) (List ℕ) = λ m. Ok (record { name = m.0; relation = Remove; value = no_value; optional = false }, m.1) in
    record {
      rest = last ++ tail;
      reads = ap (clause_at language taken) begins ∙ at_prefix language taken (45 ∷ (behind ++ tail)) prefixes.Removal (past is_space (behind ++ tail)) (removal_prefix language (behind ++ tail) may)
          ∙ ap (λ (t : List ℕ). name_at taken t >>= after) within ∙ ap (λ (r : Result (List ℕ × List ℕ) (List ℕ)). r >>= after) n;
      ends = past_through is_space last tail spaces ∙ end_stays tail end;
    }

tokens_again : (language : Language) (taken : List ℕ → Bool) (words : List (List ℕ)) (text tail name : List ℕ) (relation : Relation) (value : Value) (optional : Bool) → AreTokens words name relation value optional
    → AllByRecursion HasFirst words → Leads words text [] → taken name ≡ false → IsAllowed language relation optional → IsEnd tail → ClauseAgain language taken text tail (made name relation value optional)
tokens_again language taken words text tail name Equal value optional h first leads new allowed end = asking_again language taken words text tail name Equal value optional (λ e. cc) h first leads new allowed end
tokens_again language taken words text tail name Differ value optional h first leads new allowed end = asking_again language taken words text tail name Differ value optional (λ e. cc) h first leads new allowed end
tokens_again language taken words text tail name Remove value optional h first leads new allowed end =
    let firsts : AllByRecursion HasFirst (operator Remove ∷ h.0 ∷ []) = subst (AllByRecursion HasFirst) h.4 first in
    let l : Leads (operator Remove ∷ h.0 ∷ []) text [] = subst (λ (w : List (List ℕ)). Leads w text []) h.4 leads in
    let may : is_query language ≡ true = elim allowed [ inl q ↦ q | inr q ↦ absurd cc ] in
    let r = removed_again language taken text l.0 l.2.0 tail h.0 name may h.1 firsts.1.0 new l.1 l.2.1 l.2.2 end in
    subst (λ (v : Value). ClauseAgain language taken text tail (made name Remove v optional)) (sym h.2) (subst (λ (o : Bool). ClauseAgain language taken text tail (made name Remove no_value o)) (sym h.3) r)

clause_again : (language : Language) (taken : List ℕ → Bool) (text tail : List ℕ) (clause : Clause) → IsClause text clause → taken clause.name ≡ false → Allowed language clause → IsEnd tail → ClauseAgain language taken text tail clause
clause_again language taken text tail clause h new allowed end =
    tokens_again language taken h.0 text tail clause.name clause.relation clause.value clause.optional h.1 (tokens_first h.0 clause.name clause.relation clause.value clause.optional h.1) h.2 new allowed end

-- ---- lists

-- none of the clauses has a name of those before it
abbrev AreNew : List Clause → List Clause → Type 0
AreNew before [] = Unit {0}
AreNew before (clause ∷ clauses) = (mentions before clause.name ≡ false) × AreNew (before ++ clause ∷ []) clauses

-- what follows a clause is read on
more_again : (clauses : List Clause) (fuel : ℕ) (language : Language) (before : List Clause) (clause : Clause) (text : List ℕ) → length clauses < fuel → AreClauses text (clause ∷ clauses) → AreNew before (clause ∷ clauses) → AllByRecursion (Allowed language) (clause ∷ clauses)
    → (clause_at language (mentions before) (past is_space text) >>= λ next. more_at fuel language (before ++ next.0 ∷ []) (past is_space next.1)) ≡ Ok (before ++ clause ∷ clauses)
unfolding more_at
more_again clauses zero language before clause text few h new allowed = absurd (omega arith)
more_again [] (suc fuel) language before clause text few h new allowed =
    let c = clause_again language (mentions before) text [] clause h new.0 allowed.0 tt in
    let reads : clause_at language (mentions before) (past is_space text) ≡ Ok (clause, c.rest) = ap (λ (t : List ℕ). clause_at language (mentions before) (past is_space t)) (sym (append-nil text)) ∙ c.reads in
    ap (λ (r : Result (Clause × List ℕ) (List ℕ)). r >>= λ next. more_at (suc fuel) language (before ++ next.0 ∷ []) (past is_space next.1)) reads
    ∙ ap (more_at (suc fuel) language (before ++ clause ∷ [])) c.ends
more_again (next ∷ clauses) (suc fuel) language before clause text few h new allowed =
    let c = clause_again language (mentions before) h.0 (44 ∷ h.1) clause h.2 new.0 allowed.0 refl in
    let reads : clause_at language (mentions before) (past is_space text) ≡ Ok (clause, c.rest) = ap (λ (t : List ℕ). clause_at language (mentions before) (past is_space t)) h.4 ∙ c.reads in
    let others = more_again clauses fuel language (before ++ clause ∷ []) next h.1 (omega arith) h.3 new.1 allowed.1 in
    ap (λ (r : Result (Clause × List ℕ) (List ℕ)). r >>= λ n. more_at (suc fuel) language (before ++ n.0 ∷ []) (past is_space n.1)) reads
    ∙ ap (more_at (suc fuel) language (before ++ clause ∷ [])) c.ends ∙ others ∙ ap (λ (l : List Clause). Ok l) (append_assoc before (clause ∷ []) (next ∷ clauses))

nothing_read : (language : Language) (taken : List ℕ → Bool) (x : Clause × List ℕ) → clause_at language taken [] ≡ Ok x → ⊥
unfolding clause_at named_at name_at
nothing_read language taken x e = cc

comma_stays : (front rest : List ℕ) → length rest < length (past is_space (front ++ 44 ∷ rest))
comma_stays [] rest = omega arith
comma_stays (byte ∷ front) rest = cases (comma_stays front rest) (eqb byte 32)
  where
    cases : length rest < length (past is_space (front ++ 44 ∷ rest)) → (t : Bool) → length rest < length (cond t (past is_space (front ++ 44 ∷ rest)) (byte ∷ (front ++ 44 ∷ rest)))
    cases shorter true = shorter
    cases shorter false = omega (arith, length-append front (44 ∷ rest))

-- a list has at most one clause more than its text has bytes
few_clauses : (text : List ℕ) (clause : Clause) (clauses : List Clause) → AreClauses text (clause ∷ clauses) → length clauses ≤ length (past is_space text)
few_clauses text clause [] h = omega arith
few_clauses text clause (next ∷ clauses) h =
    let fewer = few_clauses h.1 next clauses h.3 in
    let room : length h.1 < length (past is_space text) = subst (λ (t : List ℕ). length h.1 < length (past is_space t)) (sym h.4) (comma_stays h.0 h.1) in
    omega (arith, fewer, room, length_past is_space h.1)

abbrev AreApart : List ℕ → List Clause → Type 0
AreApart name clauses = AllByRecursion (λ clause. bytes_eq clause.name name ≡ false) clauses

apart_names : (clauses : List Clause) (name : List ℕ) → mentions clauses name ≡ false → AreApart name clauses
apart_names [] name h = tt
apart_names (clause ∷ clauses) name h =
    let parts = or_parts (bytes_eq clause.name name) (mentions clauses name) h in
    (parts.0, apart_names clauses name parts.1)

still_new : (before clauses : List Clause) (clause : Clause) → AllByRecursion (λ c. mentions before c.name ≡ false) clauses → AreApart clause.name clauses → AllByRecursion (λ c. mentions (before ++ clause ∷ []) c.name ≡ false) clauses
still_new before [] clause h e = tt
still_new before (next ∷ clauses) clause h e = (mentions_push before clause next.name h.0 (bytes_eq_sym clause.name next.name ∙ e.0), still_new before clauses clause h.1 e.1)

all_new : (before clauses : List Clause) → AreDistinct clauses → AllByRecursion (λ c. mentions before c.name ≡ false) clauses → AreNew before clauses
all_new before [] d h = tt
all_new before (clause ∷ clauses) d h = (h.0, all_new (before ++ clause ∷ []) clauses d.1 (still_new before clauses clause h.1 (apart_names clauses clause.name d.0)))

nobody_before : (clauses : List Clause) → AllByRecursion (λ c. mentions [] c.name ≡ false) clauses
nobody_before [] = tt
nobody_before (clause ∷ clauses) = (refl, nobody_before clauses)

list_again_at : (language : Language) (text first : List ℕ) (clause : Clause) (clauses : List Clause) → past is_space text ≡ first → AreClauses text (clause ∷ clauses) → AreDistinct (clause ∷ clauses) → AllByRecursion (Allowed language) (clause ∷ clauses) → list_at language first ≡ Ok (clause ∷ clauses)
unfolding list_at
list_again_at language text [] clause clauses at h d allowed =
    let m = more_again clauses (suc (length clauses)) language [] clause text (omega arith) h (all_new [] (clause ∷ clauses) d (nobody_before (clause ∷ clauses))) allowed in
    let b = bind_ok (clause_at language (mentions []) (past is_space text)) (λ next. more_at (suc (length clauses)) language ([] ++ next.0 ∷ []) (past is_space next.1)) (clause ∷ clauses) m in
    absurd (nothing_read language (mentions []) b.0 (ap (clause_at language (mentions [])) (sym at) ∙ b.1))
list_again_at language text (byte ∷ rest) clause clauses at h d allowed =
    let few = few_clauses text clause clauses h in
    let m = more_again clauses (suc (suc (length rest))) language [] clause text (omega (arith, few, ap length at)) h (all_new [] (clause ∷ clauses) d (nobody_before (clause ∷ clauses))) allowed in
    ap (λ (t : List ℕ). clause_at language (mentions []) t >>= λ next. more_at (suc (suc (length rest))) language ([] ++ next.0 ∷ []) (past is_space next.1)) (sym at) ∙ m

list_again : (language : Language) (text : List ℕ) (clauses : List Clause) → IsQuery text clauses → AllByRecursion (Allowed language) clauses → list_at language (past is_space text) ≡ Ok clauses
unfolding list_at
list_again language text [] h allowed = ap (list_at language) h.0
list_again language text (clause ∷ clauses) h allowed = list_again_at language text (past is_space text) clause clauses refl h.0 h.1 allowed

all_queries : (clauses : List Clause) → AllByRecursion (Allowed Queries) clauses
all_queries [] = tt
all_queries (clause ∷ clauses) = (inl refl, all_queries clauses)

all_asked : (properties : List Property) → AllByRecursion (Allowed Definitions) (map asked properties)
all_asked [] = tt
all_asked (property ∷ properties) = (inr (refl, refl), all_asked properties)

pub query_again : (text : List ℕ) (clauses : List Clause) → IsQuery text clauses → list_at Queries (past is_space text) ≡ Ok clauses
query_again text clauses h = list_again Queries text clauses h (all_queries clauses)

pub definition_again : (text : List ℕ) (properties : List Property) → IsDefinition text properties → list_at Definitions (past is_space text) ≡ Ok (map asked properties)
definition_again text properties h = list_again Definitions text (map asked properties) h (all_asked properties)

pub property_asked : (properties : List Property) → map property_of (map asked properties) ≡ properties
property_asked [] = refl
property_asked (property ∷ properties) = ap (λ (ps : List Property). property ∷ ps) (property_asked properties)

-- ---- what a call that read a text answers

-- where reading gives a list, a refusal is for want of memory alone
pub no_fault : (size : ℕ) (refusal : TextRefused) (clauses : List Clause) (read : Result (List Clause) (List ℕ)) → IsRefusal refusal (Stops size read) → read ≡ Ok clauses → IsMemory refusal
no_fault size NoMemory clauses read h e = tt
no_fault size (NotInGrammar place) clauses read h e = absurd (subst (λ (r : Result (List Clause) (List ℕ)). Stops size r place) e h)
