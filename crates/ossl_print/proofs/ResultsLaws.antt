-- The results of lines, each told from its caller's list by the number of lines of the caller so far.
use Rattle.std.proofs.Common.{◌≡◌, ℕ, ◌+◌, ◌<◌, ◌≤◌, Bool, true, false, not, ◌&&◌, nat_eq, nat_lt, nat_le, List, [], ◌∷◌, ◌++◌, length, map, take, drop, get_or, refl, sym, ◌∙◌, ap, arith, cond, suc, zero, drop-cons, add-one}
use Rattle.std.specs.List.{list_all, filter, find}
use Rattle.std.specs.Prelude.{Some, unwrap_or}
use Rattle.std.proofs.lemmas.Bool.{and_parts, eq-eqb, leb-true, ltb-true}
use Rattle.std.proofs.lemmas.Grind.{common_steps}
use Rattle.std.proofs.lemmas.List.{take-append-drop, take_more, map-append}
use Rattle.std.proofs.lemmas.List.Elements.{filter-append}
use Rattle.std.proofs.lemmas.List.Folds.{list_any-append}
use Rattle.ossl_commands.specs.declared.command.Line.{Line}
use Rattle.ossl_commands.specs.Counts.{lines_of}
use Rattle.ossl_provider.specs.Members.{is_distinct, is_in}
use Rattle.ossl_script.specs.declared.caller.LineResult.{LineResult}
use Rattle.ossl_print.specs.Results.{AreTold, result_among, results_by, told_to}

abbrev number_of_line : Line → ℕ
number_of_line line = line.number

abbrev number_of_result : LineResult → ℕ
number_of_result result = result.line

-- what holds of all holds at an index
all_at : {X : Type 0} (p : X → Bool) (xs : List X) (i : ℕ) (d : X) → list_all p xs ≡ true → i < length xs → p (get_or xs i d) ≡ true
all_at p [] i d h within = absurd (omega arith)
all_at p (x ∷ xs) zero d h within = (and_parts (p x) (list_all p xs) h).0
all_at p (x ∷ xs) (suc i) d h within = all_at p xs i d (and_parts (p x) (list_all p xs) h).1 (omega arith)

-- among results with these numbers, the one whose number none before it has
find_at : (rs : List LineResult) (before after : List ℕ) (n : ℕ) (d : LineResult) → map number_of_result rs ≡ before ++ n ∷ after → is_in n before ≡ false →
    (length before < length rs) × (find (λ (r : LineResult). nat_eq r.line n) rs ≡ Some (get_or rs (length before) d))
find_at [] [] after n d e h = cc
find_at [] (m ∷ before) after n d e h = cc
find_at (r ∷ rs) [] after n d e h =
    let here : r.line ≡ n = cc in
    (omega arith, rw (eq-eqb r.line n here) refl)
find_at (r ∷ rs) (m ∷ before) after n d e h =
    let here : r.line ≡ m = cc in
    let rest : map number_of_result rs ≡ before ++ n ∷ after = cc in
    let other : nat_eq r.line n ≡ false = rw here (grind (arith, common_steps)) in
    let absent : is_in n before ≡ false = grind (arith, common_steps) in
    let later = find_at rs before after n d rest absent in
    (omega (arith, later.0), rw other later.1)

-- a number of distinct ones is none of those before it
absent_before : (xs ys : List ℕ) (n : ℕ) → is_distinct (xs ++ n ∷ ys) ≡ true → is_in n xs ≡ false
absent_before [] ys n d = refl
absent_before (x ∷ xs) ys n d =
    let parts = and_parts (not (is_in x (xs ++ n ∷ ys))) (is_distinct (xs ++ n ∷ ys)) d in
    let rest = absent_before xs ys n parts.1 in
    let split = list_any-append (λ y. nat_eq y x) xs (n ∷ ys) in
    let differs : nat_eq x n ≡ false = grind (arith, common_steps) in
    rw (differs) rest

long_numbers : (xs : List Line) → length (map number_of_line xs) ≡ length xs
long_numbers [] = refl
long_numbers (x ∷ xs) = ap suc (long_numbers xs)

-- nor of some of them
absent_fewer : (q : Line → Bool) (n : ℕ) (xs : List Line) → is_in n (map number_of_line xs) ≡ false → is_in n (map number_of_line (filter q xs)) ≡ false
absent_fewer q n [] h = refl
absent_fewer q n (x ∷ xs) h = grind (arith, common_steps, absent_fewer q n xs)

module _ (lines : List Line) (results : List (List LineResult)) (told : AreTold lines results) (x : ℕ) (line : Line) (within : x < length lines) (here : line ≡ get_or lines x line) where
  pub caller_in : (0 < line.caller) × (line.caller ≤ length results)
  caller_in =
      let test : (nat_lt 0 line.caller && nat_le line.caller (length results)) ≡ true =
      rw here (all_at (λ (l : Line). nat_lt 0 l.caller && nat_le l.caller (length results)) lines x line told.callers within) in
      let parts = and_parts (nat_lt 0 line.caller) (nat_le line.caller (length results)) test in
      (ltb-true 0 line.caller parts.0, leb-true line.caller (length results) parts.1)

  split : drop x lines ≡ line ∷ drop (x + 1) lines
  split = rw (add-one, drop-cons lines x line) (ap (λ y. y ∷ drop (suc x) lines) (sym here))

  whole : lines ≡ take x lines ++ line ∷ drop (x + 1) lines
  whole = sym (take-append-drop x lines) ∙ ap (λ l. take x lines ++ l) split

  -- a caller's lines up to this one
  pub own_more : (caller : ℕ) → lines_of caller (take (x + 1) lines) ≡ lines_of caller (take x lines) ++ cond (nat_eq line.caller caller) (line ∷ []) []
  own_more caller =
      ap (lines_of caller) (take_more lines x line within ∙ ap (λ y. take x lines ++ y ∷ []) (sym here))
      ∙ filter-append (λ (l : Line). nat_eq l.caller caller) (take x lines) (line ∷ [])
      ∙ ap (λ l. lines_of caller (take x lines) ++ l) (by (nat_eq line.caller caller))
    where
      by : (b : Bool) → cond b (line ∷ []) [] ≡ cond b (line ∷ []) []
      by b = refl

  numbers : map number_of_result (told_to results line.caller)
      ≡ map number_of_line (lines_of line.caller (take x lines)) ++ line.number ∷ map number_of_line (lines_of line.caller (drop (x + 1) lines))
  numbers =
      let caller = line.caller in
      told.each caller caller_in.0 caller_in.1
      ∙ ap (λ l. map number_of_line (lines_of caller l)) whole
      ∙ ap (map number_of_line) (filter-append (λ (l : Line). nat_eq l.caller caller) (take x lines) (line ∷ drop (x + 1) lines))
      ∙ map-append number_of_line (lines_of caller (take x lines)) (filter (λ (l : Line). nat_eq l.caller caller) (line ∷ drop (x + 1) lines))
      ∙ rw (eq-eqb line.caller line.caller refl) refl

  absent : is_in line.number (map number_of_line (lines_of line.caller (take x lines))) ≡ false
  absent = absent_fewer (λ (l : Line). nat_eq l.caller line.caller) line.number (take x lines)
      (absent_before (map number_of_line (take x lines)) (map number_of_line (drop (x + 1) lines)) line.number
      (rw (← map-append number_of_line (take x lines) (line ∷ drop (x + 1) lines), ← whole) told.numbers))

  -- the caller has a result there, and it is the line's
  pub result_here : (d : LineResult) → let place = length (lines_of line.caller (take x lines)) in
      (place < length (told_to results line.caller)) × (result_among (told_to results line.caller) line.number ≡ get_or (told_to results line.caller) place d)
  result_here d =
      let found = find_at (told_to results line.caller) (map number_of_line (lines_of line.caller (take x lines))) (map number_of_line (lines_of line.caller (drop (x + 1) lines))) line.number d numbers absent in
      let long = long_numbers (lines_of line.caller (take x lines)) in
      (omega (arith, found.0, long), ap (λ o. unwrap_or o (record { line = line.number; text = [] })) found.1 ∙ ap (λ i. get_or (told_to results line.caller) i d) long)

-- the value at an index, by another default or behind a function
pub default_at : {X : Type 0} (xs : List X) (i : ℕ) (d e : X) → i < length xs → get_or xs i d ≡ get_or xs i e
default_at [] i d e within = absurd (omega arith)
default_at (x ∷ xs) zero d e within = refl
default_at (x ∷ xs) (suc i) d e within = default_at xs i d e (omega arith)

pub map_at : {X Y : Type 0} (f : X → Y) (xs : List X) (i : ℕ) (d : X) (e : Y) → i < length xs → get_or (map f xs) i e ≡ f (get_or xs i d)
map_at f [] i d e within = absurd (omega arith)
map_at f (x ∷ xs) zero d e within = refl
map_at f (x ∷ xs) (suc i) d e within = map_at f xs i d e (omega arith)

-- the results in the order of the text, where each caller has those of its replies
pub results_same : (lines : List Line) (n : ℕ) (told others : ℕ → List LineResult) → list_all (λ (l : Line). nat_lt 0 l.caller && nat_le l.caller n) lines ≡ true →
    ((caller : ℕ) → 0 < caller → caller ≤ n → told caller ≡ others caller) → results_by lines told ≡ results_by lines others
results_same [] n told others all same = refl
results_same (line ∷ lines) n told others all same =
    let parts = and_parts (nat_lt 0 line.caller && nat_le line.caller n) (list_all (λ (l : Line). nat_lt 0 l.caller && nat_le l.caller n) lines) all in
    let bounds = and_parts (nat_lt 0 line.caller) (nat_le line.caller n) parts.0 in
    let here = same line.caller (ltb-true 0 line.caller bounds.0) (leb-true line.caller n bounds.1) in
    rw (here, results_same lines n told others parts.1 same) refl
