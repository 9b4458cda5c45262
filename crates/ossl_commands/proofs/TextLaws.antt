-- Lines, words and queries, a byte or a word at a time.
use Rattle.std.proofs.Common.{◌≡◌, ℕ, ◌+◌, ◌<◌, Bool, true, false, not, cond, nat_eq, nat_lt, List, [], ◌∷◌, ◌++◌, length, get_or, take, drop, refl, sym, ap, ◌∙◌, append_assoc, arith}
use Rattle.std.specs.Prelude.{filter, if◌then◌else◌, Some}
use Rattle.std.specs.List.{slice_split, onto_first}
use Rattle.std.specs.Str.Lines.{lines, lines_of_parts, strip_carriage_return}
use Rattle.std.proofs.lemmas.Bool.{lt-ltb, ne_eqb}
use Rattle.std.proofs.lemmas.List.{drop_more, take_more}
use Rattle.ossl_property.specs.Bytes.{front, past}
use Rattle.ossl_property.proofs.Runs.{front_at_past}
use Rattle.ossl_commands.specs.Lines.{before_query, is_blank, is_within_line, is_within_word, query_text, starts_query, words_of}

-- 1. The first part of a text that is cut at bytes that pass.

-- the parts behind the first
parts_behind : (ℕ → Bool) → List ℕ → List (List ℕ)
parts_behind p [] = []
parts_behind p (byte ∷ text) = slice_split p text

split_first : (p : ℕ → Bool) (text : List ℕ) → slice_split p text ≡ front (λ b. not (p b)) text ∷ parts_behind p (past (λ b. not (p b)) text)
unfolding parts_behind
split_first p [] = refl
split_first p (byte ∷ text) = at (p byte) (split_first p text)
  where
    at : (b : Bool) → slice_split p text ≡ front (λ b. not (p b)) text ∷ parts_behind p (past (λ b. not (p b)) text)
        → cond b ([] ∷ slice_split p text) (onto_first byte (slice_split p text))
        ≡ cond (not b) (byte ∷ front (λ b. not (p b)) text) [] ∷ parts_behind p (cond (not b) (past (λ b. not (p b)) text) (byte ∷ text))
    at true shorter = refl
    at false shorter = ap (onto_first byte) shorter

-- 2. Lines.

first_line : (text : List ℕ) → lines text ≡ lines_of_parts (front is_within_line text ∷ parts_behind (λ b. nat_eq b 10) (past is_within_line text))
first_line text = ap lines_of_parts (split_first (λ b. nat_eq b 10) text)

-- a line that ends with a line feed
pub line_ended : (text : List ℕ) (byte : ℕ) (rest : List ℕ) → past is_within_line text ≡ byte ∷ rest → lines text ≡ strip_carriage_return (front is_within_line text) ∷ lines rest
unfolding parts_behind
line_ended text byte rest is =
    first_line text ∙ ap (λ t. lines_of_parts (front is_within_line text ∷ parts_behind (λ b. nat_eq b 10) t)) is
    ∙ ap (λ parts. lines_of_parts (front is_within_line text ∷ parts)) (split_first (λ b. nat_eq b 10) rest)
    ∙ sym (ap (λ parts. strip_carriage_return (front is_within_line text) ∷ lines_of_parts parts) (split_first (λ b. nat_eq b 10) rest))

-- the last line, without a line feed
pub line_last : (text : List ℕ) → 0 < length text → past is_within_line text ≡ [] → front is_within_line text ≡ text → lines text ≡ text ∷ []
unfolding parts_behind
line_last [] some none all = absurd (omega (arith, some))
line_last (byte ∷ text) some none all =
    first_line (byte ∷ text)
    ∙ ap (λ t. lines_of_parts (front is_within_line (byte ∷ text) ∷ parts_behind (λ b. nat_eq b 10) t)) none
    ∙ ap (λ t. lines_of_parts (t ∷ [])) all
    ∙ ap (λ b. if b then [] else (byte ∷ text) ∷ []) (ne_eqb (length (byte ∷ text)) 0 (λ none. omega (arith, none)))

-- 3. Words.

abbrev kept : List (List ℕ) → List (List ℕ)
kept parts = filter (λ word. nat_lt 0 (length word)) parts

-- spaces and tabs before words
words_past : (text : List ℕ) → words_of text ≡ words_of (past is_blank text)
words_past [] = refl
words_past (byte ∷ text) = at (is_blank byte) refl (words_past text)
  where
    at : (b : Bool) → is_blank byte ≡ b → words_of text ≡ words_of (past is_blank text) → words_of (byte ∷ text) ≡ words_of (cond b (past is_blank text) (byte ∷ text))
    at true blank shorter = ap (λ b. kept (cond b ([] ∷ slice_split is_blank text) (onto_first byte (slice_split is_blank text)))) blank ∙ shorter
    at false other shorter = refl

-- the parts behind a word are words
words_behind : (text : List ℕ) → front is_within_word text ≡ [] → kept (parts_behind is_blank text) ≡ words_of text
unfolding parts_behind
words_behind [] ends = refl
words_behind (byte ∷ text) ends = at (is_blank byte) refl ends
  where
    at : (b : Bool) → is_blank byte ≡ b → cond (not b) (byte ∷ front is_within_word text) [] ≡ [] → kept (slice_split is_blank text) ≡ words_of (byte ∷ text)
    at true blank ends = sym (ap (λ b. kept (cond b ([] ∷ slice_split is_blank text) (onto_first byte (slice_split is_blank text)))) blank)
    at false other ends = cc

-- a word is kept
kept_word : (byte : ℕ) (word : List ℕ) (parts : List (List ℕ)) → kept ((byte ∷ word) ∷ parts) ≡ (byte ∷ word) ∷ kept parts
kept_word byte word parts = ap (λ b. cond b ((byte ∷ word) ∷ kept parts) (kept parts)) (lt-ltb 0 (length (byte ∷ word)) (omega arith))

-- the first word, and the words behind it
next_word : (byte : ℕ) (text : List ℕ) → is_blank byte ≡ false → words_of (byte ∷ text) ≡ front is_within_word (byte ∷ text) ∷ words_of (past is_within_word (byte ∷ text))
next_word byte text other =
    let word = front is_within_word text in
    let rest = past is_within_word (byte ∷ text) in
    let whole : front is_within_word (byte ∷ text) ≡ byte ∷ word = ap (λ b. cond (not b) (byte ∷ word) []) other in
    ap kept (split_first is_blank (byte ∷ text))
    ∙ ap (λ first. kept (first ∷ parts_behind is_blank rest)) whole
    ∙ kept_word byte word (parts_behind is_blank rest)
    ∙ ap (λ words. (byte ∷ word) ∷ words) (words_behind rest (front_at_past is_within_word (byte ∷ text)))
    ∙ sym (ap (λ first. first ∷ words_of rest) whole)

-- what stands behind spaces and tabs begins with another byte
past_begins : (text : List ℕ) (byte : ℕ) (rest : List ℕ) → past is_blank text ≡ byte ∷ rest → is_blank byte ≡ false
past_begins text byte rest is = at (is_blank byte) refl
  where
    none : front is_blank (byte ∷ rest) ≡ []
    none = ap (front is_blank) (sym is) ∙ front_at_past is_blank text

    at : (b : Bool) → is_blank byte ≡ b → b ≡ false
    at true blank = let some : (byte ∷ front is_blank rest) ≡ [] = sym (ap (λ b. cond b (byte ∷ front is_blank rest) []) blank) ∙ none in cc
    at false other = refl

-- the first word of a text, behind spaces and tabs
pub first_word : (text rest : List ℕ) → past is_blank text ≡ rest → 0 < length rest → words_of text ≡ front is_within_word rest ∷ words_of (past is_within_word rest)
first_word text [] is some = absurd (omega (arith, some))
first_word text (byte ∷ rest) is some = words_past text ∙ ap words_of is ∙ next_word byte rest (past_begins text byte rest is)

-- no words
pub no_words : (text rest : List ℕ) → past is_blank text ≡ rest → length rest ≡ 0 → words_of text ≡ []
no_words text [] is none = words_past text ∙ ap words_of is
no_words text (byte ∷ rest) is none = absurd (omega (arith, none))

pub are_none : (text rest : List ℕ) → past is_blank text ≡ rest → nat_eq (length rest) 0 ≡ nat_eq (length (words_of text)) 0
are_none text [] is = sym (ap (λ words. nat_eq (length words) 0) (no_words text [] is refl))
are_none text (byte ∷ rest) is =
    let words = words_of (past is_within_word (byte ∷ rest)) in
    ne_eqb (length (byte ∷ rest)) 0 (λ none. omega (arith, none))
    ∙ sym (ne_eqb (length (front is_within_word (byte ∷ rest) ∷ words)) 0 (λ none. omega (arith, none)))
    ∙ sym (ap (λ words. nat_eq (length words) 0) (first_word text (byte ∷ rest) is (omega arith)))

-- 4. Queries.

-- one byte more before the query
pub before_more : (at_start : Bool) (line : List ℕ) (i : ℕ) → i < length line → starts_query at_start (drop i line) ≡ false
    → take i line ++ before_query at_start (drop i line) ≡ take (i + 1) line ++ before_query (is_blank (get_or line i 0)) (drop (i + 1) line)
before_more at_start line i lt goes =
    let here = drop_more line i 0 lt in
    let not_yet = ap (starts_query at_start) (sym here) ∙ goes in
    ap (λ text. take i line ++ before_query at_start text) here
    ∙ ap (λ b. take i line ++ (if b then [] else get_or line i 0 ∷ before_query (is_blank (get_or line i 0)) (drop (i + 1) line))) not_yet
    ∙ sym (append_assoc (take i line) (get_or line i 0 ∷ []) (before_query (is_blank (get_or line i 0)) (drop (i + 1) line)))
    ∙ ap (λ text. text ++ before_query (is_blank (get_or line i 0)) (drop (i + 1) line)) (sym (take_more line i 0 lt))

pub query_more : (at_start : Bool) (line : List ℕ) (i : ℕ) → i < length line → starts_query at_start (drop i line) ≡ false
    → query_text at_start (drop i line) ≡ query_text (is_blank (get_or line i 0)) (drop (i + 1) line)
query_more at_start line i lt goes =
    let here = drop_more line i 0 lt in
    let not_yet = ap (starts_query at_start) (sym here) ∙ goes in
    ap (query_text at_start) here
    ∙ ap (λ b. if b then Some (drop (i + 1) line) else query_text (is_blank (get_or line i 0)) (drop (i + 1) line)) not_yet

-- the query begins here
pub before_ends : (at_start : Bool) (text : List ℕ) → starts_query at_start text ≡ true → before_query at_start text ≡ []
before_ends at_start [] starts = refl
before_ends at_start (byte ∷ text) starts = ap (λ b. if b then [] else byte ∷ before_query (is_blank byte) text) starts

pub query_begins : (at_start : Bool) (line : List ℕ) (i : ℕ) → i < length line → starts_query at_start (drop i line) ≡ true
    → query_text at_start (drop i line) ≡ Some (drop (i + 1) line)
query_begins at_start line i lt starts =
    let here = drop_more line i 0 lt in
    let begun = ap (starts_query at_start) (sym here) ∙ starts in
    ap (query_text at_start) here
    ∙ ap (λ b. if b then Some (drop (i + 1) line) else query_text (is_blank (get_or line i 0)) (drop (i + 1) line)) begun
