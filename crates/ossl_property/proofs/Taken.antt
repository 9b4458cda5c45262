-- What the reader takes of a clause is the text's tokens, and where it stops the next token cannot follow.
use Rattle.std.proofs.Common.{◌≡◌, ℕ, eqb, Bool, true, false, not, cond, ◌&&◌, ◌⊎◌, inl, inr, List, [], ◌∷◌, ◌++◌, take, drop, bytes_eq, Some, None, option_and_then, Result, Ok, Err, refl, sym, ap, subst, ◌∙◌}
use Rattle.std.proofs.lemmas.Bool.{eqb-true, eq-eqb, and_parts, or_from, and_left, and_right, false_from_ne_true}
use Rattle.ossl_property.specs.declared.clause.Value.{Value}
use Rattle.ossl_property.specs.declared.clause.Relation.{Relation}
use Rattle.ossl_property.specs.declared.clause.Relation.TheVariants.{Equal, Differ, Remove}
use Rattle.ossl_property.specs.declared.clause.Clause.{Clause}
use Rattle.ossl_property.specs.declared.reader.Language.{Language}
use Rattle.ossl_property.specs.declared.reader.Language.TheVariants.{Definitions, Queries}
use Rattle.ossl_property.specs.declared.reader.Prefix.{Prefix}
use Rattle.ossl_property.specs.declared.reader.Prefix.TheVariants as prefixes
use Rattle.ossl_property.specs.Bytes.{is_space, is_name_byte, folded, front, past}
use Rattle.ossl_property.specs.Grammar.{may_stand, is_dotted, is_name, operator, yes, no_value}
use Rattle.ossl_property.specs.Reading.{◌>>=◌, name_at, plain_value, plain_at, value_at, is_query, compared_at, begins_differ, comparison_at, named_at, removal_at, prefix_at, prefixed_at, clause_at}
use Rattle.ossl_property.specs.Tokens.{is_operator, token, Begins, expects_value, names_in}
use Rattle.ossl_property.proofs.Runs.{front_past, past_twice}
use Rattle.ossl_property.proofs.Found.{differ_is}
use Rattle.ossl_property.proofs.Again.{stands_byte}
use Rattle.ossl_property.proofs.Course.{State, Next, Marked, Removing, Named, Compared, Ended, is_value, comma, opened, step, run, is_final, runs_on, same_word, other_word, Closed}
use Rattle.ossl_property.proofs.Begun.{begins_past, begins_append, expects_append, names_append}
use Rattle.ossl_property.proofs.Values.{ValueOutcome, value_outcome}

-- ---- tokens that are no values

head_of : List ℕ → ℕ
head_of [] = 0
head_of (byte ∷ text) = byte

-- a token begins with the text's first byte
token_head : (byte : ℕ) (text : List ℕ) → head_of (token false (byte ∷ text)) ≡ byte
unfolding head_of
token_head byte text = name (is_name_byte byte)
  where
    sign : (t : Bool) → bytes_eq (byte ∷ take 1 text) (operator Differ) ≡ t → head_of (cond t (operator Differ) (byte ∷ [])) ≡ byte
    sign true h = ap head_of (sym (same_word (byte ∷ take 1 text) (operator Differ) h))
    sign false h = refl

    name : (t : Bool) → head_of (cond t (byte ∷ front is_name_byte text) (cond (bytes_eq (byte ∷ take 1 text) (operator Differ)) (operator Differ) (byte ∷ []))) ≡ byte
    name true = refl
    name false = sign (bytes_eq (byte ∷ take 1 text) (operator Differ)) refl

-- a text that begins with another byte has no token of this one
pub other_sign : (byte : ℕ) (text : List ℕ) (sign : ℕ) → eqb byte sign ≡ false → bytes_eq (token false (byte ∷ text)) (sign ∷ []) ≡ false
unfolding head_of
other_sign byte text sign h = false_from_ne_true _ (λ e.
    let same : byte ≡ sign = sym (token_head byte text) ∙ ap head_of (same_word (token false (byte ∷ text)) (sign ∷ []) e) in
    let differ : true ≡ false = sym (eq-eqb byte sign same) ∙ h in
    absurd cc)

-- the token `!=` comes where the text begins so
differ_begins : (byte : ℕ) (text : List ℕ) → bytes_eq (token false (byte ∷ text)) (operator Differ) ≡ true → begins_differ (byte ∷ text) ≡ true
differ_begins byte text e = name (is_name_byte byte) refl (same_word (token false (byte ∷ text)) (operator Differ) e)
  where
    two : (rest : List ℕ) → byte ∷ take 1 rest ≡ operator Differ → begins_differ (byte ∷ rest) ≡ true
    two [] h = absurd cc
    two (next ∷ rest) h =
        let first : byte ≡ 33 = cc in
        let second : next ≡ 61 = cc in
        ap (λ (b : ℕ). eqb b 33 && eqb next 61) first ∙ ap (λ (b : ℕ). eqb b 61) second

    sign : (t : Bool) → bytes_eq (byte ∷ take 1 text) (operator Differ) ≡ t → cond t (operator Differ) (byte ∷ []) ≡ operator Differ → begins_differ (byte ∷ text) ≡ true
    sign true h k = two text (same_word (byte ∷ take 1 text) (operator Differ) h)
    sign false h k = absurd cc

    name : (t : Bool) → is_name_byte byte ≡ t → cond t (byte ∷ front is_name_byte text) (cond (bytes_eq (byte ∷ take 1 text) (operator Differ)) (operator Differ) (byte ∷ [])) ≡ operator Differ → begins_differ (byte ∷ text) ≡ true
    name true h k = let first : byte ≡ 33 = cc in let no : true ≡ false = sym h ∙ ap is_name_byte first in absurd cc
    name false h k = sign (bytes_eq (byte ∷ take 1 text) (operator Differ)) refl k

-- a name is a token
name_token : (text : List ℕ) → is_name (front is_name_byte text) ≡ true → token false text ≡ front is_name_byte text
name_token [] h = absurd cc
name_token (byte ∷ text) h = cases (is_name_byte byte) h
  where
    cases : (t : Bool) → is_name (cond t (byte ∷ front is_name_byte text) []) ≡ true → cond t (byte ∷ front is_name_byte text) (cond (bytes_eq (byte ∷ take 1 text) (operator Differ)) (operator Differ) (byte ∷ [])) ≡ cond t (byte ∷ front is_name_byte text) []
    cases true h = refl
    cases false h = absurd cc

-- a byte that no name has is no name
no_name_byte : (byte : ℕ) → is_name_byte byte ≡ false → is_name (byte ∷ []) ≡ false
no_name_byte byte h = false_from_ne_true _ (λ e.
    let dotted = (and_parts (is_dotted true (byte ∷ [])) true e).0 in
    let stands = (and_parts (may_stand true byte) (is_dotted (eqb byte 46) []) dotted).0 in
    let differ : true ≡ false = sym (stands_byte true byte stands) ∙ h in
    absurd cc)

no_name_token : (text : List ℕ) → is_name (front is_name_byte text) ≡ false → is_name (token false text) ≡ false
no_name_token [] h = refl
no_name_token (byte ∷ text) h = name (is_name_byte byte) refl h
  where
    sign : is_name_byte byte ≡ false → (t : Bool) → is_name (cond t (operator Differ) (byte ∷ [])) ≡ false
    sign none true = refl
    sign none false = no_name_byte byte none

    name : (t : Bool) → is_name_byte byte ≡ t → is_name (cond t (byte ∷ front is_name_byte text) []) ≡ false → is_name (cond t (byte ∷ front is_name_byte text) (cond (bytes_eq (byte ∷ take 1 text) (operator Differ)) (operator Differ) (byte ∷ []))) ≡ false
    name true e h = h
    name false e h = sign e (bytes_eq (byte ∷ take 1 text) (operator Differ))

name_no_operator : (word : List ℕ) → is_name word ≡ true → is_operator word ≡ false
name_no_operator word h = or_from _ _ (other_word is_name word (operator Equal) h refl) (other_word is_name word (operator Differ) h refl)

no_sign_value : (is_value (operator Equal) ≡ false) × (is_value (operator Differ) ≡ false)
unfolding value_at plain_at plain_value
no_sign_value = (refl, refl)

value_no_operator : (word : List ℕ) → is_value word ≡ true → is_operator word ≡ false
value_no_operator word h = or_from _ _ (other_word is_value word (operator Equal) h no_sign_value.0) (other_word is_value word (operator Differ) h no_sign_value.1)

-- ---- what is taken, and what stops

-- the text begins with these tokens, none of which is a name
record Signs (language : Language) (s : State) (text rest : List ℕ) (t : State) : Type 0 where
  words : List (List ℕ)
  begins : Begins false words text rest
  runs : run language s words ≡ Some t
  names : names_in false words ≡ []
  plain : expects_value false words ≡ false

-- what stands behind a name that is read
record ComparisonTaken (language : Language) (text : List ℕ) (rest : List ℕ) : Type 0 where
  t : State
  closed : Closed t
  settled : step language t (token false rest) ≡ comma (token false rest)
  signs : Signs language Named text rest t

record ComparisonStops (language : Language) (text bad : List ℕ) : Type 0 where
  words : List (List ℕ)
  begins : Begins false words text bad
  runs : run language Named words ≡ Some Compared
  names : names_in false words ≡ []
  stuck : step language Compared (token (expects_value false words) bad) ≡ None

abbrev ComparisonOutcome : Language → List ℕ → Result (Relation × Value × List ℕ) (List ℕ) → Type 0
ComparisonOutcome language text (Ok x) = ComparisonTaken language text (past is_space x.2)
ComparisonOutcome language text (Err bad) = ComparisonStops language text bad

compared_outcome : (language : Language) (relation : Relation) (text behind : List ℕ) → is_operator (operator relation) ≡ true → is_name (operator relation) ≡ false → step language Named (operator relation) ≡ Some Compared
    → past is_space text ≡ operator relation ++ behind → operator relation ≡ token false (past is_space text) → ComparisonOutcome language text (compared_at relation behind)
compared_outcome language relation text behind op no_name steps parts first = cases (value_at (past is_space behind)) (value_outcome (past is_space behind))
  where
    first_runs : run language Named (operator relation ∷ []) ≡ Some Compared
    first_runs = ap (option_and_then (λ s. run language s [])) steps

    first_names : (words : List (List ℕ)) → names_in true words ≡ [] → names_in false (operator relation ∷ words) ≡ []
    first_names words h = (λ i. cond (no_name i) (folded (operator relation) ∷ names_in (is_operator (operator relation)) words) (names_in (is_operator (operator relation)) words)) ∙ ap (λ (v : Bool). names_in v words) op ∙ h

    cases : (r : Result (Value × List ℕ) (List ℕ)) → ValueOutcome (past is_space behind) r → ComparisonOutcome language text (r >>= λ value. Ok (relation, value.0, value.1))
    cases (Err bad) h = record {
      words = operator relation ∷ [];
      begins = (behind, parts, first, sym h.0);
      runs = first_runs;
      names = first_names [] refl;
      stuck = ap (λ (v : Bool). step language Compared (token v bad)) op ∙ ap (λ (b : List ℕ). step language Compared (token true b)) h.0 ∙ (λ i. cond (h.1 i) (Some Ended) None);
    }
    cases (Ok x) h =
        let word : List ℕ = token true (past is_space behind) in
        let value_runs : run language Compared (word ∷ []) ≡ Some Ended = λ i. option_and_then (λ s. run language s []) (cond (h.1 i) (Some Ended) None) in
        record {
          t = Ended;
          closed = inr refl;
          settled = refl;
          signs = record {
            words = operator relation ∷ word ∷ [];
            begins = (behind, parts, first, (x.1, h.0, ap (λ (v : Bool). token v (past is_space behind)) (sym op), refl));
            runs = ap (option_and_then (λ s. run language s (word ∷ []))) steps ∙ value_runs;
            names = first_names (word ∷ []) refl;
            plain = value_no_operator word h.1;
          };
        }

-- no operator comes
bare_outcome : (language : Language) (text : List ℕ) (byte : ℕ) (rest : List ℕ) → past is_space text ≡ byte ∷ rest → eqb byte 61 ≡ false → (is_query language && begins_differ (byte ∷ rest)) ≡ false → ComparisonTaken language text (past is_space (byte ∷ rest))
bare_outcome language text byte rest at no_equal no_differ =
    let trimmed : past is_space (byte ∷ rest) ≡ byte ∷ rest = ap (past is_space) (sym at) ∙ past_twice is_space text ∙ at in
    let differ : (bytes_eq (token false (byte ∷ rest)) (operator Differ) && is_query language) ≡ false = false_from_ne_true _ (λ e.
    let parts = and_parts (bytes_eq (token false (byte ∷ rest)) (operator Differ)) (is_query language) e in
    let both : (is_query language && begins_differ (byte ∷ rest)) ≡ true = (λ i. parts.1 i && begins_differ (byte ∷ rest)) ∙ differ_begins byte rest parts.0 in
    let wrong : true ≡ false = sym both ∙ no_differ in
    absurd cc) in
    let none = or_from _ _ (other_sign byte rest 61 no_equal) differ in
    record {
      t = Named;
      closed = inl refl;
      settled = ap (λ (w : List ℕ). step language Named (token false w)) trimmed ∙ (λ i. cond (none i) (Some Compared) (comma (token false (byte ∷ rest)))) ∙ ap (λ (w : List ℕ). comma (token false w)) (sym trimmed);
      signs = record { words = []; begins = at ∙ sym trimmed; runs = refl; names = refl; plain = refl };
    }

operator_first : (language : Language) (text : List ℕ) (byte : ℕ) (rest : List ℕ) → past is_space text ≡ byte ∷ rest → ComparisonOutcome language text (comparison_at language (byte ∷ rest))
unfolding comparison_at
operator_first language text byte rest at = equal (eqb byte 61) refl
  where
    steps_differ : (language : Language) → is_query language ≡ true → step language Named (operator Differ) ≡ Some Compared
    steps_differ Queries h = refl
    steps_differ Definitions h = absurd cc

    differ : (t : Bool) → (is_query language && begins_differ (byte ∷ rest)) ≡ t → eqb byte 61 ≡ false → ComparisonOutcome language text (cond t (compared_at Differ (drop 1 rest)) (Ok (Equal, yes, byte ∷ rest)))
    differ true h no_equal =
        let parts = and_parts (is_query language) (begins_differ (byte ∷ rest)) h in
        let is : past is_space text ≡ operator Differ ++ drop 1 rest = at ∙ differ_is (byte ∷ rest) parts.1 in
        compared_outcome language Differ text (drop 1 rest) refl refl (steps_differ language parts.0) is (sym (ap (token false) is))
    differ false h no_equal = bare_outcome language text byte rest at no_equal h

    equal : (t : Bool) → eqb byte 61 ≡ t → ComparisonOutcome language text (cond t (compared_at Equal rest) (cond (is_query language && begins_differ (byte ∷ rest)) (compared_at Differ (drop 1 rest)) (Ok (Equal, yes, byte ∷ rest))))
    equal true h =
        let is : past is_space text ≡ 61 ∷ rest = at ∙ ap (λ (b : ℕ). b ∷ rest) (eqb-true byte 61 h) in
        compared_outcome language Equal text rest refl refl refl is (sym (ap (token false) is))
    equal false h = differ (is_query language && begins_differ (byte ∷ rest)) refl h

comparison_outcome : (language : Language) (text : List ℕ) → ComparisonOutcome language text (comparison_at language (past is_space text))
unfolding comparison_at
comparison_outcome language text = cases (past is_space text) refl
  where
    cases : (first : List ℕ) → past is_space text ≡ first → ComparisonOutcome language text (comparison_at language first)
    cases [] at = record { t = Named; closed = inl refl; settled = refl; signs = record { words = []; begins = at; runs = refl; names = refl; plain = refl } }
    cases (byte ∷ rest) at = operator_first language text byte rest at

-- ---- clauses

-- a name comes after these tokens, and it leads to this state
record PrefixTaken (language : Language) (text behind : List ℕ) (after : State) : Type 0 where
  s : State
  signs : Signs language Next text behind s
  waits : is_final s ≡ false
  takes : (word : List ℕ) → is_name word ≡ true → step language s word ≡ Some after
  refuses : is_name (token false behind) ≡ false → step language s (token false behind) ≡ None

abbrev after_prefix : Prefix → State
after_prefix prefixes.Bare = Named
after_prefix prefixes.Optional = Named
after_prefix prefixes.Removal = Ended

sign_taken : (language : Language) (text rest : List ℕ) (sign : ℕ) (s after : State) → past is_space text ≡ sign ∷ rest → sign ∷ [] ≡ token false (sign ∷ rest) → is_operator (sign ∷ []) ≡ false → is_name (sign ∷ []) ≡ false
    → opened language (sign ∷ []) ≡ Some s → is_final s ≡ false → ((word : List ℕ) → step language s word ≡ cond (is_name word) (Some after) None) → PrefixTaken language text (past is_space rest) after
sign_taken language text rest sign s after at first plain no_name opens waits steps = record {
  s = s;
  signs = record {
    words = (sign ∷ []) ∷ [];
    begins = (rest, at, first ∙ ap (token false) (sym at), refl);
    runs = ap (option_and_then (λ m. run language m [])) opens;
    names = λ i. cond (no_name i) (folded (sign ∷ []) ∷ []) [];
    plain = plain;
  };
  waits = waits;
  takes = λ word h. steps word ∙ (λ i. cond (h i) (Some after) None);
  refuses = λ h. steps (token false (past is_space rest)) ∙ (λ i. cond (h i) (Some after) None);
}

-- a token that opens nothing
not_opened : (language : Language) (word : List ℕ) → (bytes_eq word (63 ∷ []) && is_query language) ≡ false → (bytes_eq word (45 ∷ []) && is_query language) ≡ false → is_name word ≡ false → opened language word ≡ None
not_opened language word p q h = λ i. cond (p i) (Some Marked) (cond (q i) (Some Removing) (cond (h i) (Some Named) None))

opens_name : (language : Language) (word : List ℕ) → is_name word ≡ true → opened language word ≡ Some Named
opens_name language word h = λ i. cond (other_word is_name word (63 ∷ []) h refl i && is_query language) (Some Marked) (cond (other_word is_name word (45 ∷ []) h refl i && is_query language) (Some Removing) (cond (h i) (Some Named) None))

bare_taken : (language : Language) (text behind : List ℕ) → past is_space text ≡ behind → (bytes_eq (token false behind) (63 ∷ []) && is_query language) ≡ false → (bytes_eq (token false behind) (45 ∷ []) && is_query language) ≡ false → PrefixTaken language text behind Named
bare_taken language text behind at p q = record {
  s = Next;
  signs = record { words = []; begins = at; runs = refl; names = refl; plain = refl };
  waits = refl;
  takes = λ word h. opens_name language word h;
  refuses = λ h. not_opened language (token false behind) p q h;
}

-- a sign that a query alone may have is not the first
no_sign : (language : Language) (byte : ℕ) (rest : List ℕ) (sign : ℕ) → (is_query language && eqb byte sign) ≡ false → (bytes_eq (token false (byte ∷ rest)) (sign ∷ []) && is_query language) ≡ false
no_sign Queries byte rest sign h = and_left (bytes_eq (token false (byte ∷ rest)) (sign ∷ [])) true (other_sign byte rest sign h)
no_sign Definitions byte rest sign h = and_right (bytes_eq (token false (byte ∷ rest)) (sign ∷ [])) false refl

prefix_taken : (language : Language) (text first : List ℕ) → past is_space text ≡ first → PrefixTaken language text (prefix_at language first).1 (after_prefix (prefix_at language first).0)
prefix_taken language text [] at = bare_taken language text [] at refl refl
prefix_taken language text (byte ∷ rest) at = optional (is_query language && eqb byte 63) refl
  where
    Made : Prefix × List ℕ → Type 0
    Made x = PrefixTaken language text x.1 (after_prefix x.0)

    removal : (t : Bool) → (is_query language && eqb byte 45) ≡ t → (is_query language && eqb byte 63) ≡ false → Made (cond t (prefixes.Removal, past is_space rest) (prefixes.Bare, byte ∷ rest))
    removal true h bare =
        let parts = and_parts (is_query language) (eqb byte 45) h in
        sign_taken language text rest 45 Removing Ended (at ∙ ap (λ (b : ℕ). b ∷ rest) (eqb-true byte 45 parts.1)) refl refl refl (λ i. cond (parts.0 i) (Some Removing) None) refl (λ word. refl)
    removal false h bare = bare_taken language text (byte ∷ rest) at (no_sign language byte rest 63 bare) (no_sign language byte rest 45 h)

    optional : (t : Bool) → (is_query language && eqb byte 63) ≡ t → Made (cond t (prefixes.Optional, past is_space rest) (cond (is_query language && eqb byte 45) (prefixes.Removal, past is_space rest) (prefixes.Bare, byte ∷ rest)))
    optional true h =
        let parts = and_parts (is_query language) (eqb byte 63) h in
        sign_taken language text rest 63 Marked Named (at ∙ ap (λ (b : ℕ). b ∷ rest) (eqb-true byte 63 parts.1)) refl refl refl (λ i. cond (parts.0 i) (Some Marked) None) refl (λ word. refl)
    optional false h = removal (is_query language && eqb byte 45) refl h

-- a clause that is taken, whose name is new
pub record ClauseTaken (language : Language) (taken : List ℕ → Bool) (text : List ℕ) (clause : Clause) (rest : List ℕ) : Type 0 where
  pub words : List (List ℕ)
  pub t : State
  pub begins : Begins false words text rest
  pub runs : run language Next words ≡ Some t
  pub closed : Closed t
  pub settled : step language t (token false rest) ≡ comma (token false rest)
  pub names : names_in false words ≡ clause.name ∷ []
  pub new : taken clause.name ≡ false
  pub plain : expects_value false words ≡ false

-- the next token is a name that is taken
abbrev pub Repeats : (List ℕ → Bool) → List (List ℕ) → List ℕ → Type 0
Repeats taken words bad = (expects_value false words ≡ false) × (is_name (token false bad) ≡ true) × (taken (folded (token false bad)) ≡ true)

abbrev pub AreNew : (List ℕ → Bool) → List (List ℕ) → Type 0
AreNew taken names = (names ≡ []) ⊎ ((name : List ℕ) × (names ≡ name ∷ []) × (taken name ≡ false))

-- the tokens of a clause so far, where the next one cannot follow
pub record ClauseStops (language : Language) (taken : List ℕ → Bool) (text bad : List ℕ) : Type 0 where
  pub words : List (List ℕ)
  pub t : State
  pub begins : Begins false words text bad
  pub runs : run language Next words ≡ Some t
  pub waits : is_final t ≡ false
  pub names : AreNew taken (names_in false words)
  pub stuck : (step language t (token (expects_value false words) bad) ≡ None) ⊎ Repeats taken words bad

abbrev pub ClauseOutcome : Language → (List ℕ → Bool) → List ℕ → Result (Clause × List ℕ) (List ℕ) → Type 0
ClauseOutcome language taken text (Ok x) = ClauseTaken language taken text x.0 (past is_space x.1)
ClauseOutcome language taken text (Err bad) = ClauseStops language taken text bad

-- a name that is taken behind a prefix
record NameTaken (language : Language) (taken : List ℕ → Bool) (text name rest : List ℕ) (after : State) : Type 0 where
  words : List (List ℕ)
  begins : Begins false words text (past is_space rest)
  runs : run language Next words ≡ Some after
  names : names_in false words ≡ name ∷ []
  new : taken name ≡ false
  plain : expects_value false words ≡ false

abbrev NameOutcome : Language → (List ℕ → Bool) → List ℕ → State → Result (List ℕ × List ℕ) (List ℕ) → Type 0
NameOutcome language taken text after (Ok x) = NameTaken language taken text x.0 x.1 after
NameOutcome language taken text after (Err bad) = ClauseStops language taken text bad

name_outcome : (language : Language) (taken : List ℕ → Bool) (text behind : List ℕ) (after : State) → PrefixTaken language text behind after → past is_space behind ≡ behind → NameOutcome language taken text after (name_at taken behind)
unfolding name_at
name_outcome language taken text behind after p trimmed = name (is_name word) refl
  where
    word : List ℕ
    word = front is_name_byte behind

    rest : List ℕ
    rest = past is_name_byte behind

    stops : (step language p.s (token false behind) ≡ None) ⊎ Repeats taken p.signs.words behind → ClauseStops language taken text behind
    stops stuck = record {
      words = p.signs.words;
      t = p.s;
      begins = p.signs.begins;
      runs = p.signs.runs;
      waits = p.waits;
      names = inl p.signs.names;
      stuck = elim stuck [ inl e ↦ inl (ap (λ (v : Bool). step language p.s (token v behind)) p.signs.plain ∙ e) | inr r ↦ inr r ];
    }

    takes : is_name word ≡ true → taken (folded word) ≡ false → NameTaken language taken text (folded word) rest after
    takes is new =
        let at : word ≡ token (expects_value false p.signs.words) (past is_space behind) = sym (name_token behind is) ∙ ap (token false) (sym trimmed) ∙ ap (λ (v : Bool). token v (past is_space behind)) (sym p.signs.plain) in
        let next : Begins (expects_value false p.signs.words) (word ∷ []) behind (past is_space rest) = (rest, trimmed ∙ sym (front_past is_name_byte behind), at, refl) in
        let last : run language p.s (word ∷ []) ≡ Some after = ap (option_and_then (λ s. run language s [])) (p.takes word is) in
        record {
          words = p.signs.words ++ word ∷ [];
          begins = begins_append false p.signs.words (word ∷ []) text behind (past is_space rest) p.signs.begins next;
          runs = runs_on language Next p.signs.words (word ∷ []) p.s after p.signs.runs last;
          names = names_append false p.signs.words (word ∷ []) ∙ (λ i. p.signs.names i ++ names_in (p.signs.plain i) (word ∷ [])) ∙ (λ i. cond (is i) (folded word ∷ []) []);
          new = new;
          plain = expects_append false p.signs.words (word ∷ []) ∙ name_no_operator word is;
        }

    known : (t : Bool) → taken (folded word) ≡ t → is_name word ≡ true → NameOutcome language taken text after (cond (not t) (Ok (folded word, rest)) (Err behind))
    known false h is = takes is h
    known true h is =
        let at = name_token behind is in
        stops (inr (p.signs.plain, ap is_name at ∙ is, ap (λ (w : List ℕ). taken (folded w)) at ∙ h))

    name : (t : Bool) → is_name word ≡ t → NameOutcome language taken text after (cond (t && not (taken (folded word))) (Ok (folded word, rest)) (Err behind))
    name true is = known (taken (folded word)) refl is
    name false is = stops (inl (p.refuses (no_name_token behind is)))

-- a name and what stands behind it
compared_clause : (language : Language) (taken : List ℕ → Bool) (optional : Bool) (text name behind : List ℕ) → NameTaken language taken text name behind Named
    → ClauseOutcome language taken text (comparison_at language (past is_space behind) >>= λ r. Ok (record { name = name; relation = r.0; value = r.1; optional = optional }, r.2))
compared_clause language taken optional text name behind n = cases (comparison_at language (past is_space behind)) (comparison_outcome language behind)
  where
    joined : (words : List (List ℕ)) (rest : List ℕ) → Begins false words behind rest → Begins false (n.words ++ words) text rest
    joined words rest h = begins_append false n.words words text (past is_space behind) rest n.begins (subst (λ (v : Bool). Begins v words (past is_space behind) rest) (sym n.plain) (begins_past false words behind rest h))

    named : (words : List (List ℕ)) → names_in false words ≡ [] → names_in false (n.words ++ words) ≡ name ∷ []
    named words h = names_append false n.words words ∙ (λ i. n.names i ++ names_in (n.plain i) words) ∙ ap (λ (names : List (List ℕ)). name ∷ names) h

    expects : (words : List (List ℕ)) → expects_value false (n.words ++ words) ≡ expects_value false words
    expects words = expects_append false n.words words ∙ ap (λ (v : Bool). expects_value v words) n.plain

    cases : (r : Result (Relation × Value × List ℕ) (List ℕ)) → ComparisonOutcome language behind r → ClauseOutcome language taken text (r >>= λ r. Ok (record { name = name; relation = r.0; value = r.1; optional = optional }, r.2))
    cases (Err bad) c = record {
      words = n.words ++ c.words;
      t = Compared;
      begins = joined c.words bad c.begins;
      runs = runs_on language Next n.words c.words Named Compared n.runs c.runs;
      waits = refl;
      names = inr (name, named c.words c.names, n.new);
      stuck = inl (ap (λ (v : Bool). step language Compared (token v bad)) (expects c.words) ∙ c.stuck);
    }
    cases (Ok x) c = record {
      words = n.words ++ c.signs.words;
      t = c.t;
      begins = joined c.signs.words (past is_space x.2) c.signs.begins;
      runs = runs_on language Next n.words c.signs.words Named c.t n.runs c.signs.runs;
      closed = c.closed;
      settled = c.settled;
      names = named c.signs.words c.signs.names;
      new = n.new;
      plain = expects c.signs.words ∙ c.signs.plain;
    }

named_outcome : (language : Language) (taken : List ℕ → Bool) (optional : Bool) (text behind : List ℕ) → PrefixTaken language text behind Named → past is_space behind ≡ behind → ClauseOutcome language taken text (named_at language taken optional behind)
unfolding named_at
named_outcome language taken optional text behind p trimmed = cases (name_at taken behind) (name_outcome language taken text behind Named p trimmed)
  where
    cases : (r : Result (List ℕ × List ℕ) (List ℕ)) → NameOutcome language taken text Named r
        → ClauseOutcome language taken text (r >>= λ name. comparison_at language (past is_space name.1) >>= λ r. Ok (record { name = name.0; relation = r.0; value = r.1; optional = optional }, r.2))
    cases (Err bad) h = h
    cases (Ok x) h = compared_clause language taken optional text x.0 x.1 h

removal_outcome : (language : Language) (taken : List ℕ → Bool) (text behind : List ℕ) → PrefixTaken language text behind Ended → past is_space behind ≡ behind → ClauseOutcome language taken text (removal_at taken behind)
unfolding removal_at
removal_outcome language taken text behind p trimmed = cases (name_at taken behind) (name_outcome language taken text behind Ended p trimmed)
  where
    cases : (r : Result (List ℕ × List ℕ) (List ℕ)) → NameOutcome language taken text Ended r → ClauseOutcome language taken text (r >>= λ name. Ok (record { name = name.0; relation = Remove; value = no_value; optional = false }, name.1))
    cases (Err bad) h = h
    cases (Ok x) h = record { words = h.words; t = Ended; begins = h.begins; runs = h.runs; closed = inr refl; settled = refl; names = h.names; new = h.new; plain = h.plain }

prefixed_outcome : (language : Language) (taken : List ℕ → Bool) (text : List ℕ) (prefix : Prefix) (behind : List ℕ) → PrefixTaken language text behind (after_prefix prefix) → past is_space behind ≡ behind → ClauseOutcome language taken text (prefixed_at language taken prefix behind)
prefixed_outcome language taken text prefixes.Bare behind p trimmed = named_outcome language taken false text behind p trimmed
prefixed_outcome language taken text prefixes.Optional behind p trimmed = named_outcome language taken true text behind p trimmed
prefixed_outcome language taken text prefixes.Removal behind p trimmed = removal_outcome language taken text behind p trimmed

prefix_trimmed : (language : Language) (first : List ℕ) → past is_space first ≡ first → past is_space (prefix_at language first).1 ≡ (prefix_at language first).1
prefix_trimmed language [] h = refl
prefix_trimmed language (byte ∷ rest) h = optional (is_query language && eqb byte 63) (is_query language && eqb byte 45)
  where
    optional : (s t : Bool) → past is_space (cond {A = Prefix × List ℕ} s (prefixes.Optional, past is_space rest) (cond {A = Prefix × List ℕ} t (prefixes.Removal, past is_space rest) (prefixes.Bare, byte ∷ rest))).1 ≡ (cond {A = Prefix × List ℕ} s (prefixes.Optional, past is_space rest) (cond {A = Prefix × List ℕ} t (prefixes.Removal, past is_space rest) (prefixes.Bare, byte ∷ rest))).1
    optional true t = past_twice is_space rest
    optional false true = past_twice is_space rest
    optional false false = h

pub clause_outcome : (language : Language) (taken : List ℕ → Bool) (text : List ℕ) → ClauseOutcome language taken text (clause_at language taken (past is_space text))
unfolding clause_at
clause_outcome language taken text =
    let first : List ℕ = past is_space text in
    prefixed_outcome language taken text (prefix_at language first).0 (prefix_at language first).1 (prefix_taken language text first refl) (prefix_trimmed language first (past_twice is_space text))
