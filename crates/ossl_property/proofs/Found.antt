-- What is read is in the grammar, token by token.
use Rattle.std.proofs.Common.{◌≡◌, ℕ, ◌≤◌, eqb, Bool, true, false, not, cond, ◌&&◌, ◌⊎◌, inl, inr, List, [], ◌∷◌, ◌++◌, length, drop, Option, Some, None, Result, Ok, Err, refl, sym, ap, subst, ◌∙◌, append_assoc, arith}
use Rattle.std.specs.Option.{option_map}
use Rattle.std.specs.Char.{is_ascii_alphabetic}
use Rattle.std.proofs.lemmas.Bool.{and_parts, not-true, eqb-true}
use Rattle.std.proofs.lemmas.List.{length-append}
use Rattle.ossl_property.specs.declared.clause.Value.{Value}
use Rattle.ossl_property.specs.declared.clause.Value.TheVariants.{Number, Text}
use Rattle.ossl_property.specs.declared.clause.Relation.{Relation}
use Rattle.ossl_property.specs.declared.clause.Relation.TheVariants.{Equal, Differ, Remove}
use Rattle.ossl_property.specs.declared.clause.Clause.{Clause}
use Rattle.ossl_property.specs.declared.reader.Language.{Language}
use Rattle.ossl_property.specs.declared.reader.Prefix.{Prefix}
use Rattle.ossl_property.specs.declared.reader.Prefix.TheVariants as prefixes
use Rattle.ossl_property.specs.Bytes.{is_space, is_quote, is_name_byte, is_value_byte, folded, front, past}
use Rattle.ossl_property.specs.Grammar.{is_name, number_of, is_plain, is_quotable, IsValue, IsName, operator, mark, yes, no_value, IsComparison, AreTokens, Leads}
use Rattle.ossl_property.specs.Reading.{◌>>=◌, name_at, plain_value, or_fault, plain_at, closed_at, quoted_at, value_at, is_query, compared_at, begins_differ, comparison_at, named_at, removal_at, prefix_at, prefixed_at, clause_at}
use Rattle.ossl_property.proofs.Runs.{front_past, past_twice, length_past}

-- a step that did not fail
pub bind_ok : {A B : Type 0} (r : Result A (List ℕ)) (f : A → Result B (List ℕ)) (y : B) → (r >>= f) ≡ Ok y → (x : A) × (r ≡ Ok x) × (f x ≡ Ok y)
bind_ok (Ok x) f y e = (x, refl, e)
bind_ok (Err bad) f y e = absurd cc

-- a test that did not fail
pub kept : {A : Type 0} (t : Bool) (x y : A) (bad : List ℕ) → cond t (Ok x) (Err bad) ≡ Ok y → (t ≡ true) × (x ≡ y)
kept true x y bad e = (refl, cc)
kept false x y bad e = absurd cc

abbrev done : {A : Type 0} → A → Result A (List ℕ)
done x = Ok x

pub ok_is : {A : Type 0} (x y : A) → done x ≡ done y → x ≡ y
ok_is x y e = cc

some_is : {A : Type 0} (x y : Option A) (v w : A) → x ≡ Some v → x ≡ Some w → v ≡ w
some_is x y v w e f = cc

-- ---- names

pub record NameFound (taken : List ℕ → Bool) (text name rest : List ℕ) : Type 0 where
  pub word : List ℕ
  pub is : IsName word name
  pub new : taken name ≡ false
  pub parts : text ≡ word ++ rest

pub name_found : (taken : List ℕ → Bool) (text : List ℕ) (x : List ℕ × List ℕ) → name_at taken text ≡ Ok x → NameFound taken text x.0 x.1
unfolding name_at
name_found taken text x e =
    let run = front is_name_byte text in
    let k = kept (is_name run && not (taken (folded run))) (folded run, past is_name_byte text) x text e in
    let parts = and_parts (is_name run) (not (taken (folded run))) k.0 in
    subst (λ (y : List ℕ × List ℕ). NameFound taken text y.0 y.1) k.1 (record { word = run; is = (parts.0, refl); new = not-true _ parts.1; parts = sym (front_past is_name_byte text) })

-- ---- values

pub plain_found : (word : List ℕ) (value : Value) → plain_value word ≡ Some value → IsValue word value
unfolding plain_value
plain_found [] value e = absurd cc
plain_found (byte ∷ word) value e = letter (is_ascii_alphabetic byte) e
  where
    bare : (t : Bool) → is_plain (byte ∷ word) ≡ t → cond t (Some (Text (folded (byte ∷ word)))) None ≡ Some value → IsValue (byte ∷ word) value
    bare true h e = let same : Text (folded (byte ∷ word)) ≡ value = cc in subst (IsValue (byte ∷ word)) same (inl (h, refl))
    bare false h e = absurd cc

    number : (n : Option _) → number_of (byte ∷ word) ≡ n → option_map Number n ≡ Some value → IsValue (byte ∷ word) value
    number None h e = absurd cc
    number (Some n) h e = let same : Number n ≡ value = cc in subst (IsValue (byte ∷ word)) same h

    letter : (t : Bool) → cond t (cond (is_plain (byte ∷ word)) (Some (Text (folded (byte ∷ word)))) None) (option_map Number (number_of (byte ∷ word))) ≡ Some value → IsValue (byte ∷ word) value
    letter true e = bare (is_plain (byte ∷ word)) refl e
    letter false e = number (number_of (byte ∷ word)) refl e

pub record ValueFound (text : List ℕ) (value : Value) (rest : List ℕ) : Type 0 where
  pub word : List ℕ
  pub is : IsValue word value
  pub parts : text ≡ word ++ rest

chosen_value : (text rest : List ℕ) (v : Option Value) (x : Value × List ℕ) → or_fault text rest v ≡ Ok x → (v ≡ Some x.0) × (rest ≡ x.1)
chosen_value text rest None x e = absurd cc
chosen_value text rest (Some v) x e = let same : (v, rest) ≡ x = ok_is (v, rest) x e in (ap (λ (y : Value × List ℕ). Some y.0) same, ap (λ (y : Value × List ℕ). y.1) same)

plain_at_found : (text : List ℕ) (x : Value × List ℕ) → plain_at text ≡ Ok x → ValueFound text x.0 x.1
unfolding plain_at
plain_at_found text x e =
    let c = chosen_value text (past is_value_byte text) (plain_value (front is_value_byte text)) x e in
    record { word = front is_value_byte text; is = plain_found (front is_value_byte text) x.0 c.0; parts = sym (front_past is_value_byte text) ∙ ap (λ (r : List ℕ). front is_value_byte text ++ r) c.1 }

-- what stands behind the run of bytes before a quote begins with the quote
closes : (quote : ℕ) (text : List ℕ) (close : ℕ) (rest : List ℕ) → past (λ byte. not (eqb byte quote)) text ≡ close ∷ rest → close ≡ quote
closes quote [] close rest e = absurd cc
closes quote (byte ∷ text) close rest e = cases (closes quote text close rest) (eqb byte quote) refl e
  where
    cases : (past (λ b. not (eqb b quote)) text ≡ close ∷ rest → close ≡ quote) → (t : Bool) → eqb byte quote ≡ t → cond (not t) (past (λ b. not (eqb b quote)) text) (byte ∷ text) ≡ close ∷ rest → close ≡ quote
    cases shorter true h e = let same : byte ≡ close = cc in sym same ∙ eqb-true byte quote h
    cases shorter false h e = shorter e

quoted_found : (quote : ℕ) (text : List ℕ) (x : Value × List ℕ) → is_quote quote ≡ true → quoted_at quote (quote ∷ text) text ≡ Ok x → ValueFound (quote ∷ text) x.0 x.1
quoted_found quote text x q e = cases (past (λ byte. not (eqb byte quote)) text) refl e
  where
    inner : List ℕ
    inner = front (λ byte. not (eqb byte quote)) text

    cases : (behind : List ℕ) → past (λ byte. not (eqb byte quote)) text ≡ behind → closed_at quote (quote ∷ text) inner behind ≡ Ok x → ValueFound (quote ∷ text) x.0 x.1
    cases [] h e = absurd cc
    cases (close ∷ rest) h e =
        let k = kept (is_quotable quote inner) (Text inner, rest) x (quote ∷ text) e in
        let whole : text ≡ inner ++ (quote ∷ rest) = sym (front_past (λ byte. not (eqb byte quote)) text) ∙ ap (λ (r : List ℕ). inner ++ r) (h ∙ ap (λ (b : ℕ). b ∷ rest) (closes quote text close rest h)) in
        subst (λ (y : Value × List ℕ). ValueFound (quote ∷ text) y.0 y.1) k.1 (record { word = quote ∷ (inner ++ quote ∷ []); is = inr (quote, q, k.0, refl); parts = ap (λ (t : List ℕ). quote ∷ t) (whole ∙ sym (append_assoc inner (quote ∷ []) rest)) })

pub value_found : (text : List ℕ) (x : Value × List ℕ) → value_at text ≡ Ok x → ValueFound text x.0 x.1
unfolding value_at
value_found [] x e = absurd cc
value_found (byte ∷ text) x e = cases (is_quote byte) refl e
  where
    cases : (t : Bool) → is_quote byte ≡ t → cond t (quoted_at byte (byte ∷ text) text) (plain_at (byte ∷ text)) ≡ Ok x → ValueFound (byte ∷ text) x.0 x.1
    cases true h e = quoted_found byte text x h e
    cases false h e = plain_at_found (byte ∷ text) x e

-- ---- comparisons

-- what may stand in a language
abbrev pub IsAllowed : Language → Relation → Bool → Type 0
IsAllowed language relation optional = (is_query language ≡ true) ⊎ ((relation ≡ Equal) × (optional ≡ false))

pub record ComparisonFound (language : Language) (text : List ℕ) (relation : Relation) (value : Value) (rest : List ℕ) : Type 0 where
  pub words : List (List ℕ)
  pub is : IsComparison words relation value
  pub leads : Leads words text (past is_space rest)
  pub kind : (relation ≡ Equal) ⊎ ((relation ≡ Differ) × (is_query language ≡ true))

compared_found : (language : Language) (relation : Relation) (text behind : List ℕ) (x : Relation × Value × List ℕ) → (relation ≡ Equal) ⊎ ((relation ≡ Differ) × (is_query language ≡ true)) → past is_space text ≡ operator relation ++ behind → compared_at relation behind ≡ Ok x → ComparisonFound language text x.0 x.1 x.2
compared_found language relation text behind x kind op e =
    let b = bind_ok (value_at (past is_space behind)) (λ value. Ok (relation, value.0, value.1)) x e in
    let v = value_found (past is_space behind) b.0 b.1 in
    let made : Relation × Value × List ℕ = (relation, b.0.0, b.0.1) in
    subst (λ (y : Relation × Value × List ℕ). ComparisonFound language text y.0 y.1 y.2) (ok_is made x b.2)
    (record { words = operator relation ∷ v.word ∷ []; is = inr (v.word, v.is, refl); leads = (behind, op, (b.0.1, v.parts, refl)); kind = kind })

-- `!=` is what begins so
pub differ_is : (text : List ℕ) → begins_differ text ≡ true → text ≡ operator Differ ++ drop 2 text
differ_is [] h = absurd cc
differ_is (byte ∷ []) h = absurd cc
differ_is (byte ∷ next ∷ text) h =
    let parts = and_parts (eqb byte 33) (eqb next 61) h in
    ap (λ (b : ℕ). b ∷ next ∷ text) (eqb-true byte 33 parts.0) ∙ ap (λ (b : ℕ). 33 ∷ b ∷ text) (eqb-true next 61 parts.1)

bare_found : (language : Language) (text first : List ℕ) (x : Relation × Value × List ℕ) → past is_space text ≡ first → done (Equal, yes, first) ≡ Ok x → ComparisonFound language text x.0 x.1 x.2
bare_found language text first x at e =
    let made : Relation × Value × List ℕ = (Equal, yes, first) in
    subst (λ (y : Relation × Value × List ℕ). ComparisonFound language text y.0 y.1 y.2) (ok_is made x e) (record { words = []; is = inl (refl, refl, refl); leads = sym (past_twice is_space text) ∙ ap (past is_space) at; kind = inl refl })

differ_found : (language : Language) (text : List ℕ) (byte : ℕ) (rest : List ℕ) (x : Relation × Value × List ℕ) (t : Bool) → (is_query language && begins_differ (byte ∷ rest)) ≡ t → past is_space text ≡ byte ∷ rest
    → cond t (compared_at Differ (drop 1 rest)) (Ok (Equal, yes, byte ∷ rest)) ≡ Ok x → ComparisonFound language text x.0 x.1 x.2
differ_found language text byte rest x true h at e =
    let parts = and_parts (is_query language) (begins_differ (byte ∷ rest)) h in
    compared_found language Differ text (drop 1 rest) x (inr (refl, parts.0)) (at ∙ differ_is (byte ∷ rest) parts.1) e
differ_found language text byte rest x false h at e = bare_found language text (byte ∷ rest) x at e

equal_found : (language : Language) (text : List ℕ) (byte : ℕ) (rest : List ℕ) (x : Relation × Value × List ℕ) (t : Bool) → eqb byte 61 ≡ t → past is_space text ≡ byte ∷ rest
    → cond t (compared_at Equal rest) (cond (is_query language && begins_differ (byte ∷ rest)) (compared_at Differ (drop 1 rest)) (Ok (Equal, yes, byte ∷ rest))) ≡ Ok x → ComparisonFound language text x.0 x.1 x.2
equal_found language text byte rest x true h at e = compared_found language Equal text rest x (inl refl) (at ∙ ap (λ (b : ℕ). b ∷ rest) (eqb-true byte 61 h)) e
equal_found language text byte rest x false h at e = differ_found language text byte rest x (is_query language && begins_differ (byte ∷ rest)) refl at e

comparison_found_at : (language : Language) (text first : List ℕ) (x : Relation × Value × List ℕ) → past is_space text ≡ first → comparison_at language first ≡ Ok x → ComparisonFound language text x.0 x.1 x.2
unfolding comparison_at
comparison_found_at language text [] x at e = bare_found language text [] x at e
comparison_found_at language text (byte ∷ rest) x at e = equal_found language text byte rest x (eqb byte 61) refl at e

pub comparison_found : (language : Language) (text : List ℕ) (x : Relation × Value × List ℕ) → comparison_at language (past is_space text) ≡ Ok x → ComparisonFound language text x.0 x.1 x.2
comparison_found language text x e = comparison_found_at language text (past is_space text) x refl e

-- ---- clauses

-- a text begins with the tokens of a clause, whose name is not taken
pub record ClauseFound (language : Language) (taken : List ℕ → Bool) (text : List ℕ) (clause : Clause) (rest : List ℕ) : Type 0 where
  pub words : List (List ℕ)
  pub tokens : AreTokens words clause.name clause.relation clause.value clause.optional
  pub new : taken clause.name ≡ false
  pub allowed : IsAllowed language clause.relation clause.optional
  pub leads : Leads words text (past is_space rest)

pub tokens_named : (words : List (List ℕ)) (name : List ℕ) (relation : Relation) (value : Value) (optional : Bool) → (relation ≡ Equal) ⊎ (relation ≡ Differ)
    → (word : List ℕ) × (comparison : List (List ℕ)) × IsName word name × IsComparison comparison relation value × (words ≡ mark optional ++ word ∷ comparison) → AreTokens words name relation value optional
tokens_named words name Equal value optional h p = p
tokens_named words name Differ value optional h p = p
tokens_named words name Remove value optional h p = absurd (elim h [ inl e ↦ cc | inr e ↦ cc ])

-- the prefix before the name, `?` or none
leads_marked : (optional : Bool) (words : List (List ℕ)) (text behind rest : List ℕ) → ((optional ≡ true) × (past is_space text ≡ 63 ∷ behind)) ⊎ ((optional ≡ false) × (behind ≡ text)) → Leads words behind rest → Leads (mark optional ++ words) text rest
leads_marked true words text behind rest h l = elim h [ inl p ↦ (behind, p.1, l) | inr p ↦ absurd cc ]
leads_marked false words text behind rest h l = elim h [ inl p ↦ absurd cc | inr p ↦ subst (λ (t : List ℕ). Leads words t rest) p.1 l ]

pub allowed_named : (language : Language) (relation : Relation) (optional : Bool) → (optional ≡ true → is_query language ≡ true) → (relation ≡ Equal) ⊎ ((relation ≡ Differ) × (is_query language ≡ true)) → IsAllowed language relation optional
allowed_named language relation true h kind = inl (h refl)
allowed_named language relation false h kind = elim kind [ inl e ↦ inr (e, refl) | inr e ↦ inl e.1 ]

named_found : (language : Language) (taken : List ℕ → Bool) (optional : Bool) (text behind : List ℕ) (x : Clause × List ℕ) → (optional ≡ true → is_query language ≡ true)
    → ((optional ≡ true) × (past is_space text ≡ 63 ∷ behind)) ⊎ ((optional ≡ false) × (behind ≡ text))
    → named_at language taken optional (past is_space behind) ≡ Ok x → ClauseFound language taken text x.0 x.1
unfolding named_at
named_found language taken optional text behind x may prefix e =
    let a = bind_ok (name_at taken (past is_space behind)) (λ name. comparison_at language (past is_space name.1) >>= λ r. Ok (record { name = name.0; relation = r.0; value = r.1; optional = optional }, r.2)) x e in
    let n = name_found taken (past is_space behind) a.0 a.1 in
    let b = bind_ok (comparison_at language (past is_space a.0.1)) (λ r. Ok (record { name = a.0.0; relation = r.0; value = r.1; optional = optional }, r.2)) x a.2 in
    let d = comparison_found language a.0.1 b.0 b.1 in
    let made : Clause × List ℕ = (record { name = a.0.0; relation = b.0.0; value = b.0.1; optional = optional }, b.0.2) in
    subst (λ (y : Clause × List ℕ). ClauseFound language taken text y.0 y.1) (ok_is made x b.2)
    (record {
      words = mark optional ++ n.word ∷ d.words;
      tokens = tokens_named (mark optional ++ n.word ∷ d.words) a.0.0 b.0.0 b.0.1 optional (elim d.kind [ inl k ↦ inl k | inr k ↦ inr k.0 ]) (n.word, d.words, n.is, d.is, refl);
      new = n.new;
      allowed = allowed_named language b.0.0 optional may d.kind;
      leads = leads_marked optional (n.word ∷ d.words) text behind (past is_space b.0.2) prefix (a.0.1, n.parts, d.leads);
    })

removal_found : (language : Language) (taken : List ℕ → Bool) (text behind : List ℕ) (x : Clause × List ℕ) → is_query language ≡ true → past is_space text ≡ 45 ∷ behind
    → removal_at taken (past is_space behind) ≡ Ok x → ClauseFound language taken text x.0 x.1
unfolding removal_at
removal_found language taken text behind x may prefix e =
    let a = bind_ok (name_at taken (past is_space behind)) (λ name. Ok (record { name = name.0; relation = Remove; value = no_value; optional = false }, name.1)) x e in
    let n = name_found taken (past is_space behind) a.0 a.1 in
    let made : Clause × List ℕ = (record { name = a.0.0; relation = Remove; value = no_value; optional = false }, a.0.1) in
    subst (λ (y : Clause × List ℕ). ClauseFound language taken text y.0 y.1) (ok_is made x a.2)
    (record {
      words = operator Remove ∷ n.word ∷ [];
      tokens = (n.word, n.is, refl, refl, refl);
      new = n.new;
      allowed = inl may;
      leads = (behind, prefix, (a.0.1, n.parts, refl));
    })

-- the three prefixes
prefixed_found : (language : Language) (taken : List ℕ → Bool) (text first : List ℕ) (x : Clause × List ℕ) → past is_space text ≡ first → prefixed_at language taken (prefix_at language first).0 (prefix_at language first).1 ≡ Ok x → ClauseFound language taken text x.0 x.1
prefixed_found language taken text [] x at e = named_found language taken false text text x (λ h. absurd cc) (inr (refl, refl)) (rw at e)
prefixed_found language taken text (byte ∷ rest) x at e = optional (is_query language && eqb byte 63) refl e
  where
    bare : named_at language taken false (byte ∷ rest) ≡ Ok x → ClauseFound language taken text x.0 x.1
    bare e = named_found language taken false text text x (λ h. absurd cc) (inr (refl, refl)) (rw at e)

    removal : (t : Bool) → (is_query language && eqb byte 45) ≡ t → prefixed_at language taken (cond {A = Prefix × List ℕ} t (prefixes.Removal, past is_space rest) (prefixes.Bare, byte ∷ rest)).0 (cond {A = Prefix × List ℕ} t (prefixes.Removal, past is_space rest) (prefixes.Bare, byte ∷ rest)).1 ≡ Ok x → ClauseFound language taken text x.0 x.1
    removal true h e =
        let parts = and_parts (is_query language) (eqb byte 45) h in
        removal_found language taken text rest x parts.0 (at ∙ ap (λ (b : ℕ). b ∷ rest) (eqb-true byte 45 parts.1)) e
    removal false h e = bare e

    optional : (s : Bool) → (is_query language && eqb byte 63) ≡ s → prefixed_at language taken (cond {A = Prefix × List ℕ} s (prefixes.Optional, past is_space rest) (cond {A = Prefix × List ℕ} (is_query language && eqb byte 45) (prefixes.Removal, past is_space rest) (prefixes.Bare, byte ∷ rest))).0 (cond {A = Prefix × List ℕ} s (prefixes.Optional, past is_space rest) (cond {A = Prefix × List ℕ} (is_query language && eqb byte 45) (prefixes.Removal, past is_space rest) (prefixes.Bare, byte ∷ rest))).1 ≡ Ok x → ClauseFound language taken text x.0 x.1
    optional true h e =
        let parts = and_parts (is_query language) (eqb byte 63) h in
        named_found language taken true text rest x (λ h. parts.0) (inl (refl, at ∙ ap (λ (b : ℕ). b ∷ rest) (eqb-true byte 63 parts.1))) e
    optional false h e = removal (is_query language && eqb byte 45) refl e

pub clause_found : (language : Language) (taken : List ℕ → Bool) (text : List ℕ) (x : Clause × List ℕ) → clause_at language taken (past is_space text) ≡ Ok x → ClauseFound language taken text x.0 x.1
unfolding clause_at
clause_found language taken text x e = prefixed_found language taken text (past is_space text) x refl e

-- what is left behind tokens is no longer than the text
pub leads_shorter : (words : List (List ℕ)) (text rest : List ℕ) → Leads words text rest → length rest ≤ length text
leads_shorter [] text rest h = omega (arith, ap length h, length_past is_space text)
leads_shorter (word ∷ words) text rest h =
    let shorter = leads_shorter words h.0 rest h.2 in
    omega (arith, shorter, ap length h.1, length-append word h.0, length_past is_space text)

pub clause_shorter : (language : Language) (taken : List ℕ → Bool) (text : List ℕ) (clause : Clause) (rest : List ℕ) → past is_space text ≡ text → clause_at language taken text ≡ Ok (clause, rest) → length (past is_space rest) ≤ length text
clause_shorter language taken text clause rest trimmed e =
    let f = clause_found language taken text (clause, rest) (ap (clause_at language taken) trimmed ∙ e) in
    leads_shorter f.words text (past is_space rest) f.leads
