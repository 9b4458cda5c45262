-- The query of a line, from one `:` to the next.
use Rattle.std.proofs.Common.{◌≡◌, ℕ, zero, suc, ◌+◌, ◌-◌, ◌<◌, ◌≤◌, Bool, true, false, nat_eq, List, ◌∷◌, ◌++◌, length, get_or, take, drop, refl, sym, ap, subst, ◌∙◌, arith}
use Rattle.std.specs.Prelude.{Option, None, Some, ◌&&◌, ◌||◌}
use Rattle.std.proofs.lemmas.Bool.{ne_eqb}
use Rattle.std.proofs.lemmas.Grind.{common_steps}
use Rattle.std.proofs.lemmas.List.{append-nil, drop_all, drop_more, take_all}
use Rattle.memchr.specs.Find.{IsFirstByte, Nowhere, Passes, is_byte}
use Rattle.ossl_commands.specs.Lines.{before_query, ends_word, is_blank, query_text, starts_query}
use Rattle.ossl_commands.specs.Starts.{start_at}
use Rattle.ossl_commands.proofs.TextLaws.{before_ends, before_more, query_begins, query_more}

-- behind a byte a word may begin where that is a space or a tab
start_next : (line : List ℕ) (i : ℕ) → start_at line (i + 1) ≡ is_blank (get_or line i 0)
start_next line i =
    ap (λ b. b || is_blank (get_or line (i + 1 - 1) 0)) (ne_eqb (i + 1) 0 (λ none. omega (arith, none)))
    ∙ ap (λ n. is_blank (get_or line n 0)) (omega arith)

-- no query begins with another byte
other_byte : (at_start : Bool) (line : List ℕ) (i : ℕ) → i < length line → ¬ (is_byte 58 (get_or line i 0) ≡ true) → starts_query at_start (drop i line) ≡ false
other_byte at_start line i lt other = ap (starts_query at_start) (drop_more line i 0 lt) ∙ at at_start (nat_eq (get_or line i 0) 58) refl
  where
    at : (s b : Bool) → nat_eq (get_or line i 0) 58 ≡ b → starts_query s (get_or line i 0 ∷ drop (i + 1) line) ≡ false
    at false b is = refl
    at true true is = absurd (other is)
    at true false is = ap (λ b. true && b && ends_word (drop (i + 1) line)) is

-- what is before the query and what it is, from a place on
record Same (line : List ℕ) (i j : ℕ) : Type 0 where
  before : take i line ++ before_query (start_at line i) (drop i line) ≡ take j line ++ before_query (start_at line j) (drop j line)
  query : query_text (start_at line i) (drop i line) ≡ query_text (start_at line j) (drop j line)

-- a place where no query begins
one_more : (line : List ℕ) (i : ℕ) → i < length line → starts_query (start_at line i) (drop i line) ≡ false → Same line i (i + 1)
one_more line i lt goes = record {
  before = before_more (start_at line i) line i lt goes ∙ ap (λ b. take (i + 1) line ++ before_query b (drop (i + 1) line)) (sym (start_next line i));
  query = query_more (start_at line i) line i lt goes ∙ ap (λ b. query_text b (drop (i + 1) line)) (sym (start_next line i));
}

-- places without a `:`
skipped : (line : List ℕ) (i n : ℕ) → i + n ≤ length line → Nowhere (Passes (is_byte 58) (drop i line)) 0 n → Same line i (i + n)
skipped line i zero within none =
    let here : i ≡ i + 0 = omega arith in
    record { before = ap (λ j. take j line ++ before_query (start_at line j) (drop j line)) here; query = ap (λ j. query_text (start_at line j) (drop j line)) here }
skipped line i (suc n) within none =
    let lt : i + n < length line = omega (arith, within) in
    let to = skipped line i n (omega (arith, within)) (λ j low high. none j low (omega (arith, high))) in
    let byte : get_or (drop i line) n 0 ≡ get_or line (i + n) 0 = grind (arith, common_steps) in
    let over = one_more line (i + n) lt (other_byte (start_at line (i + n)) line (i + n) lt (λ is. none n (omega arith) (omega arith) (ap (is_byte 58) byte ∙ is))) in
    let there : i + n + 1 ≡ i + suc n = omega arith in
    record {
      before = to.before ∙ over.before ∙ ap (λ j. take j line ++ before_query (start_at line j) (drop j line)) there;
      query = to.query ∙ over.query ∙ ap (λ j. query_text (start_at line j) (drop j line)) there;
    }

-- up to the next `:`
pub record Stops (line : List ℕ) (i at : ℕ) : Type 0 where
  pub within : at < length line
  pub before : take i line ++ before_query (start_at line i) (drop i line) ≡ take at line ++ before_query (start_at line at) (drop at line)
  pub query : query_text (start_at line i) (drop i line) ≡ query_text (start_at line at) (drop at line)

stops : (line : List ℕ) (i k : ℕ) → i ≤ length line → k < length (drop i line) → Nowhere (Passes (is_byte 58) (drop i line)) 0 k → Stops line i (i + k)
stops line i k le lt none =
    let within : i + k < length line = grind (arith, common_steps) in
    let to = skipped line i k (omega (arith, within)) none in
    record { within = within; before = to.before; query = to.query }

stops_by : (line : List ℕ) (i : ℕ) (r : Option ℕ) (k : ℕ) → r ≡ Some k → IsFirstByte (is_byte 58) (drop i line) r → i ≤ length line → Stops line i (i + k)
stops_by line i None k is found le = absurd cc
stops_by line i (Some j) k is found le =
    let same : j ≡ k = cc in
    subst (λ n. Stops line i (i + n)) same (stops line i j le found.0.high found.0.before)

-- the query begins there
pub before_there : (line : List ℕ) (i at : ℕ) → Stops line i at → starts_query (start_at line at) (drop at line) ≡ true
    → take i line ++ before_query (start_at line i) (drop i line) ≡ take at line
before_there line i at to starts =
    to.before ∙ ap (λ (t : List ℕ). take at line ++ t) (before_ends (start_at line at) (drop at line) starts) ∙ append-nil (take at line)

pub query_there : (line : List ℕ) (i at : ℕ) → Stops line i at → starts_query (start_at line at) (drop at line) ≡ true
    → query_text (start_at line i) (drop i line) ≡ Some (drop (at + 1) line)
query_there line i at to starts = to.query ∙ query_begins (start_at line at) line at to.within starts

-- it does not, and goes on behind
pub before_behind : (line : List ℕ) (i at : ℕ) → Stops line i at → starts_query (start_at line at) (drop at line) ≡ false
    → take i line ++ before_query (start_at line i) (drop i line) ≡ take (at + 1) line ++ before_query (start_at line (at + 1)) (drop (at + 1) line)
before_behind line i at to goes = to.before ∙ (one_more line at to.within goes).before

pub query_behind : (line : List ℕ) (i at : ℕ) → Stops line i at → starts_query (start_at line at) (drop at line) ≡ false
    → query_text (start_at line i) (drop i line) ≡ query_text (start_at line (at + 1)) (drop (at + 1) line)
query_behind line i at to goes = to.query ∙ (one_more line at to.within goes).query

-- no `:` is left
all_gone : (line : List ℕ) (i : ℕ) → i ≤ length line → Nowhere (Passes (is_byte 58) (drop i line)) 0 (length (drop i line)) → Same line i (length line)
all_gone line i le none =
    let all : length (drop i line) ≡ length line - i = grind (arith, common_steps) in
    let end : i + (length line - i) ≡ length line = omega (arith, le) in
    subst (λ j. Same line i j) end (skipped line i (length line - i) (omega (arith, le)) (λ j low high. none j low (omega (arith, high, all))))

before_none : (line : List ℕ) (i : ℕ) (r : Option ℕ) → r ≡ None → IsFirstByte (is_byte 58) (drop i line) r → i ≤ length line
    → take i line ++ before_query (start_at line i) (drop i line) ≡ line
before_none line i None is none le =
    (all_gone line i le none).before
    ∙ ap (λ t. take (length line) line ++ before_query (start_at line (length line)) t) (drop_all (length line) line (omega arith))
    ∙ append-nil (take (length line) line) ∙ take_all (length line) line (omega arith)
before_none line i (Some k) is found le = absurd cc

query_none : (line : List ℕ) (i : ℕ) (r : Option ℕ) → r ≡ None → IsFirstByte (is_byte 58) (drop i line) r → i ≤ length line
    → query_text (start_at line i) (drop i line) ≡ None
query_none line i None is none le =
    (all_gone line i le none).query ∙ ap (query_text (start_at line (length line))) (drop_all (length line) line (omega arith))
query_none line i (Some k) is found le = absurd cc

-- the same of a search in a slice up to the end
sliced : (line : List ℕ) (i : ℕ) → i ≤ length line → take (length line - i) (drop i line) ≡ drop i line
sliced line i le = take_all (length line - i) (drop i line) (grind (arith, common_steps))

pub stops_in : (line : List ℕ) (i : ℕ) (r : Option ℕ) (k : ℕ) → r ≡ Some k → IsFirstByte (is_byte 58) (take (length line - i) (drop i line)) r → i ≤ length line → Stops line i (i + k)
stops_in line i r k is found le = stops_by line i r k is (subst (λ hay. IsFirstByte (is_byte 58) hay r) (sliced line i le) found) le

pub before_end : (line : List ℕ) (i : ℕ) (r : Option ℕ) → r ≡ None → IsFirstByte (is_byte 58) (take (length line - i) (drop i line)) r → i ≤ length line
    → take i line ++ before_query (start_at line i) (drop i line) ≡ line
before_end line i r is none le = before_none line i r is (subst (λ hay. IsFirstByte (is_byte 58) hay r) (sliced line i le) none) le

pub query_end : (line : List ℕ) (i : ℕ) (r : Option ℕ) → r ≡ None → IsFirstByte (is_byte 58) (take (length line - i) (drop i line)) r → i ≤ length line
    → query_text (start_at line i) (drop i line) ≡ None
query_end line i r is none le = query_none line i r is (subst (λ hay. IsFirstByte (is_byte 58) hay r) (sliced line i le) none) le
