-- The printed form of a list that some text says is a text of it.
use Rattle.std.proofs.Common.{◌≡◌, ℕ, zero, suc, ◌+◌, ◌*◌, ◌/◌, ◌%◌, ◌^◌, ◌<◌, ◌≤◌, eqb, ltb, leb, Bool, true, false, not, cond, if◌then◌else◌, ◌&&◌, ◌||◌, inl, inr, List, [], ◌∷◌, ◌++◌, length, get_or, map, Option, Some, None, refl, sym, ap, subst, ◌∙◌, append_assoc, lit<, arith}
use Rattle.std.specs.Prelude.{ℤ, pos, negsuc, neg_ℤ}
use Rattle.std.specs.Char.{is_ascii_alphabetic, is_ascii_lowercase, is_ascii_graphic, to_ascii_lowercase}
use Rattle.std.specs.Int.{is_in_range}
use Rattle.std.specs.Fmt.{decimal, signed_decimal}
use Rattle.std.specs.List.{list_all, join_with_byte}
use Rattle.std.proofs.lemmas.Bool.{agree_below_at, leb-true, ltb-true, lt-ltb, le-leb, eqb-true, ne_eqb, cond-true, cond-false, and_parts, and_from, or_cases, cases_Bool}
use Rattle.std.proofs.lemmas.Fmt.{decimal_digit, decimal_by_steps, decimal_nonempty, first_decimal}
use Rattle.std.proofs.lemmas.List.{append-nil, length-map}
use Rattle.ossl_property.specs.declared.clause.Value.{Value}
use Rattle.ossl_property.specs.declared.clause.Value.TheVariants.{Number, Text}
use Rattle.ossl_property.specs.declared.clause.Relation.{Relation}
use Rattle.ossl_property.specs.declared.clause.Relation.TheVariants.{Equal, Differ, Remove}
use Rattle.ossl_property.specs.declared.clause.Property.{Property}
use Rattle.ossl_property.specs.declared.clause.Clause.{Clause}
use Rattle.ossl_property.specs.Bytes.{is_space, is_quote, is_word_byte, is_name_byte, is_value_byte, is_plain_byte, is_quoted_byte, folded, past}
use Rattle.ossl_property.specs.Grammar.{may_stand, is_dotted, digit_of, number_behind, digits_value, not_negative, negative, behind_zero, number_of, is_plain, is_quotable, IsValue, IsName, operator, mark, IsComparison, AreTokens, Leads, IsClause, AreClauses, IsQuery, asked, IsDefinition}
use Rattle.ossl_property.specs.Printed.{keeps, stands_bare, quote_of, printed_string, printed_value, printed_parts, printed_clause, printed_query, printed_definition}
use Rattle.ossl_property.proofs.Tables.{range_small, implied}
use Rattle.ossl_property.proofs.Again.{apart, stands_byte, tested, number_word}

-- ---- bytes below 128, by a table

word_small : (byte : ℕ) → is_word_byte byte ≡ true → byte < 128
word_small byte h = elim (or_cases ((is_in_range 48 57 byte || is_in_range 65 90 byte) || is_in_range 97 122 byte) (eqb byte 95) h) [
  | inl p ↦ elim (or_cases (is_in_range 48 57 byte || is_in_range 65 90 byte) (is_in_range 97 122 byte) p) [
    | inl q ↦ elim (or_cases (is_in_range 48 57 byte) (is_in_range 65 90 byte) q) [ inl r ↦ range_small 48 57 byte (omega arith) r | inr r ↦ range_small 65 90 byte (omega arith) r ]
    | inr q ↦ range_small 97 122 byte (omega arith) q
  ]
  | inr p ↦ let is : byte ≡ 95 = eqb-true byte 95 p in omega arith
]

name_small : (byte : ℕ) → is_name_byte byte ≡ true → byte < 128
name_small byte h = elim (or_cases (is_word_byte byte) (eqb byte 46) h) [ inl p ↦ word_small byte p | inr p ↦ let is : byte ≡ 46 = eqb-true byte 46 p in omega arith ]

abbrev lower : ℕ → ℕ
lower byte = to_ascii_lowercase byte

-- ---- names

lower_stands : (at_start : Bool) (byte : ℕ) → may_stand at_start byte ≡ true → may_stand at_start (lower byte) ≡ true
lower_stands true byte h = implied (may_stand true) (λ b. may_stand true (lower b)) byte refl (name_small byte (stands_byte true byte h)) h
lower_stands false byte h = implied (may_stand false) (λ b. may_stand false (lower b)) byte refl (name_small byte (stands_byte false byte h)) h

lower_dot : (byte : ℕ) → byte < 128 → eqb (lower byte) 46 ≡ eqb byte 46
lower_dot byte lt = agree_below_at (λ b. eqb (lower b) 46) (λ b. eqb b 46) 128 byte refl lt

lower_twice : (byte : ℕ) → byte < 128 → lower (lower byte) ≡ lower byte
lower_twice byte lt = eqb-true _ _ (agree_below_at (λ b. eqb (lower (lower b)) (lower b)) (λ b. true) 128 byte refl lt)

folded_dotted : (at_start : Bool) (word : List ℕ) → is_dotted at_start word ≡ true → is_dotted at_start (folded word) ≡ true
folded_dotted at_start [] h = h
folded_dotted at_start (byte ∷ word) h =
    let parts = and_parts (may_stand at_start byte) (is_dotted (eqb byte 46) word) h in
    let small = name_small byte (stands_byte at_start byte parts.0) in
    let rest : is_dotted (eqb (lower byte) 46) (folded word) ≡ true = ap (λ t. is_dotted t (folded word)) (lower_dot byte small) ∙ folded_dotted (eqb byte 46) word parts.1 in
    and_from (may_stand at_start (lower byte)) (is_dotted (eqb (lower byte) 46) (folded word)) (lower_stands at_start byte parts.0) rest

dotted_twice : (at_start : Bool) (word : List ℕ) → is_dotted at_start word ≡ true → folded (folded word) ≡ folded word
dotted_twice at_start [] h = refl
dotted_twice at_start (byte ∷ word) h =
    let parts = and_parts (may_stand at_start byte) (is_dotted (eqb byte 46) word) h in
    λ i. lower_twice byte (name_small byte (stands_byte at_start byte parts.0)) i ∷ dotted_twice (eqb byte 46) word parts.1 i

name_prints : (word name : List ℕ) → IsName word name → IsName name name
name_prints word name h =
    let parts = and_parts (is_dotted true word) (ltb (length word) 100) h.0 in
    let short : ltb (length (folded word)) 100 ≡ true = ap (λ n. ltb n 100) (length-map word to_ascii_lowercase) ∙ parts.1 in
    subst (λ (n : List ℕ). IsName n n) (sym h.1) (and_from (is_dotted true (folded word)) (ltb (length (folded word)) 100) (folded_dotted true word parts.0) short, sym (dotted_twice true word parts.0))

-- ---- numbers

behind_append : (base n m : ℕ) (xs ys : List ℕ) → number_behind base n xs ≡ Some m → number_behind base n (xs ++ ys) ≡ number_behind base m ys
behind_append base n m [] ys e = let same : n ≡ m = cc in ap (λ k. number_behind base k ys) same
behind_append base n m (byte ∷ xs) ys e =
    let t = tested (ltb (digit_of byte) base) (number_behind base (n * base + digit_of byte) xs) m e in
    cond-true (ltb (digit_of byte) base) _ _ t.0 ∙ behind_append base (n * base + digit_of byte) m xs ys t.1

digit_said : (n : ℕ) → n < 10 → digit_of (48 + n) ≡ n
digit_said n lt = eqb-true _ _ (agree_below_at (λ k. eqb (digit_of (48 + k)) k) (λ k. true) 10 n refl lt)

last_digit : (m n : ℕ) → n < 10 → number_behind 10 m ((48 + n) ∷ []) ≡ Some (m * 10 + n)
last_digit m n lt =
    let said = digit_said n lt in
    cond-true (ltb (digit_of (48 + n)) 10) (Some (m * 10 + digit_of (48 + n))) None (ap (λ d. ltb d 10) said ∙ lt-ltb n 10 lt) ∙ ap (λ d. Some (m * 10 + d)) said

whole : (k : ℕ) → Some (k / 10 * 10 + k % 10) ≡ Some k
whole k = let same : k / 10 * 10 + k % 10 ≡ k = omega arith in ap (λ (d : ℕ). Some d) same

decimal_value : (n : ℕ) → n < 2 ^ 64 → number_behind 10 0 (decimal n) ≡ Some n
decimal_value n lt = decimal_by_steps (λ k ds. number_behind 10 0 ds ≡ Some k)
    (λ k h. let same : 0 * 10 + k ≡ k = omega arith in last_digit 0 k h ∙ ap (λ (d : ℕ). Some d) same)
    (λ k ds h e. behind_append 10 0 (k / 10) ds ((48 + k % 10) ∷ []) e ∙ last_digit (k / 10) (k % 10) (omega arith) ∙ whole k)
    n lt

some_decimal : (n : ℕ) → n < 2 ^ 64 → digits_value 10 (decimal n) ≡ Some n
some_decimal n lt = go (decimal n) (decimal_nonempty n lt) (decimal_value n lt)
  where
    go : (ds : List ℕ) → 0 < length ds → number_behind 10 0 ds ≡ Some n → digits_value 10 ds ≡ Some n
    go [] h e = absurd (omega arith)
    go (d ∷ ds) h e = e

abbrev IsInRange64 : ℤ → Type 0
IsInRange64 (pos n) = n < 2 ^ 63
IsInRange64 (negsuc n) = n < 2 ^ 63

number_prints : (z : ℤ) → IsInRange64 z → number_of (signed_decimal z) ≡ Some z
number_prints (pos zero) h = ap number_of (decimal_digit 0 (lit< tt))
number_prints (pos (suc n)) h = go (decimal (suc n)) (first_decimal (suc n) (omega arith) (omega arith)) (decimal_value (suc n) (omega arith))
  where
    go : (ds : List ℕ) → 48 < get_or ds 0 0 → number_behind 10 0 ds ≡ Some (suc n) → number_of ds ≡ Some (pos (suc n))
    go [] first e = absurd (omega arith)
    go (d ∷ ds) first e =
        let no_minus : eqb d 45 ≡ false = ne_eqb d 45 (λ is. omega arith) in
        let no_zero : eqb d 48 ≡ false = ne_eqb d 48 (λ is. omega arith) in
        let one : number_of (d ∷ ds) ≡ cond (eqb d 48) (behind_zero ds) (not_negative (digits_value 10 (d ∷ ds))) = cond-false (eqb d 45) (negative (digits_value 10 ds)) (cond (eqb d 48) (behind_zero ds) (not_negative (digits_value 10 (d ∷ ds)))) no_minus in
        let two : cond (eqb d 48) (behind_zero ds) (not_negative (digits_value 10 (d ∷ ds))) ≡ not_negative (Some (suc n)) = cond-false (eqb d 48) (behind_zero ds) (not_negative (digits_value 10 (d ∷ ds))) no_zero ∙ ap not_negative e in
        let three : not_negative (Some (suc n)) ≡ Some (pos (suc n)) = cond-true (ltb (suc n) (2 ^ 63)) (Some (pos (suc n))) None (lt-ltb (suc n) (2 ^ 63) h) in
        one ∙ two ∙ three
number_prints (negsuc n) h =
    let said : number_of (signed_decimal (negsuc n)) ≡ negative (Some (suc n)) = ap negative (some_decimal (suc n) (omega arith)) in
    let fits : negative (Some (suc n)) ≡ Some (negsuc n) = cond-true (leb (suc n) (2 ^ 63)) (Some (negsuc n)) None (le-leb (suc n) (2 ^ 63) (omega arith)) in
    said ∙ fits

in_range_not_negative : (o : Option ℕ) (z : ℤ) → not_negative o ≡ Some z → IsInRange64 z
in_range_not_negative None z e = absurd cc
in_range_not_negative (Some m) z e = let t = tested (ltb m (2 ^ 63)) (Some (pos m)) z e in let same : pos m ≡ z = cc in subst IsInRange64 same (ltb-true m (2 ^ 63) t.0)

neg_in_range : (m : ℕ) → m ≤ 2 ^ 63 → IsInRange64 (neg_ℤ (pos m))
neg_in_range zero h = omega arith
neg_in_range (suc m) h = omega arith

in_range_negative : (o : Option ℕ) (z : ℤ) → negative o ≡ Some z → IsInRange64 z
in_range_negative None z e = absurd cc
in_range_negative (Some m) z e = let t = tested (leb m (2 ^ 63)) (Some (neg_ℤ (pos m))) z e in let same : neg_ℤ (pos m) ≡ z = cc in subst IsInRange64 same (neg_in_range m (leb-true m (2 ^ 63) t.0))

in_range_zero : (word : List ℕ) (z : ℤ) → behind_zero word ≡ Some z → IsInRange64 z
in_range_zero [] z e = let same : pos 0 ≡ z = cc in subst IsInRange64 same (omega arith)
in_range_zero (byte ∷ word) z e = go (eqb byte 120 || eqb byte 88) e
  where
    go : (t : Bool) → cond t (not_negative (digits_value 16 word)) (not_negative (digits_value 8 (byte ∷ word))) ≡ Some z → IsInRange64 z
    go true e = in_range_not_negative (digits_value 16 word) z e
    go false e = in_range_not_negative (digits_value 8 (byte ∷ word)) z e

number_in_range : (word : List ℕ) (z : ℤ) → number_of word ≡ Some z → IsInRange64 z
number_in_range [] z e = absurd cc
number_in_range (byte ∷ word) z e = go (eqb byte 45) (eqb byte 48) e
  where
    go : (s t : Bool) → cond s (negative (digits_value 10 word)) (cond t (behind_zero word) (not_negative (digits_value 10 (byte ∷ word)))) ≡ Some z → IsInRange64 z
    go true t e = in_range_negative (digits_value 10 word) z e
    go false true e = in_range_zero word z e
    go false false e = in_range_not_negative (digits_value 10 (byte ∷ word)) z e

-- ---- strings

plain_small : (byte : ℕ) → is_plain_byte byte ≡ true → byte < 128
plain_small byte h = range_small 33 126 byte (omega arith) (and_parts (is_ascii_graphic byte) (not (eqb byte 44)) h).0

all_lower : (p q : ℕ → Bool) → ((byte : ℕ) → p byte ≡ true → q (lower byte) ≡ true) → (word : List ℕ) → list_all p word ≡ true → list_all q (folded word) ≡ true
all_lower p q h [] e = refl
all_lower p q h (byte ∷ word) e = let parts = and_parts (p byte) (list_all p word) e in and_from (q (lower byte)) (list_all q (folded word)) (h byte parts.0) (all_lower p q h word parts.1)

all_both : (p q r : ℕ → Bool) → ((byte : ℕ) → p byte ≡ true → q byte ≡ true → r byte ≡ true) → (word : List ℕ) → list_all p word ≡ true → list_all q word ≡ true → list_all r word ≡ true
all_both p q r h [] e f = refl
all_both p q r h (byte ∷ word) e f =
    let s = and_parts (p byte) (list_all p word) e in
    let t = and_parts (q byte) (list_all q word) f in
    and_from (r byte) (list_all r word) (h byte s.0 t.0) (all_both p q r h word s.1 t.1)

all_fixed : (p : ℕ → Bool) → ((byte : ℕ) → p byte ≡ true → lower byte ≡ byte) → (word : List ℕ) → list_all p word ≡ true → folded word ≡ word
all_fixed p h [] e = refl
all_fixed p h (byte ∷ word) e = let parts = and_parts (p byte) (list_all p word) e in λ i. h byte parts.0 i ∷ all_fixed p h word parts.1 i

lower_plain : (byte : ℕ) → is_plain_byte byte ≡ true → is_plain_byte (lower byte) ≡ true
lower_plain byte h = implied is_plain_byte (λ b. is_plain_byte (lower b)) byte refl (plain_small byte h) h

lower_keeps : (byte : ℕ) → is_plain_byte byte ≡ true → keeps (lower byte) ≡ true
lower_keeps byte h = implied is_plain_byte (λ b. keeps (lower b)) byte refl (plain_small byte h) h

kept_fixed : (byte : ℕ) → (is_plain_byte byte && keeps byte) ≡ true → lower byte ≡ byte
kept_fixed byte h = eqb-true _ _ (implied (λ b. is_plain_byte b && keeps b) (λ b. eqb (lower b) b) byte refl (plain_small byte (and_parts (is_plain_byte byte) (keeps byte) h).0) h)

bare_prints : (text : List ℕ) → stands_bare text ≡ true → is_plain text ≡ true → folded text ≡ text → IsValue (printed_string text) (Text text)
bare_prints text bare plain same = subst (λ (w : List ℕ). IsValue w (Text text)) (sym (cond-true (stands_bare text) text _ bare)) (inl (plain, sym same))

plain_prints : (word : List ℕ) → is_plain word ≡ true → IsValue (printed_string (folded word)) (Text (folded word))
plain_prints [] h = absurd cc
plain_prints (byte ∷ word) h =
    let parts = and_parts (is_ascii_alphabetic byte && list_all is_plain_byte (byte ∷ word)) (ltb (length (byte ∷ word)) 1000) h in
    let both = and_parts (is_ascii_alphabetic byte) (list_all is_plain_byte (byte ∷ word)) parts.0 in
    let small = plain_small byte (and_parts (is_plain_byte byte) (list_all is_plain_byte word) both.1).0 in
    let plain : list_all is_plain_byte (folded (byte ∷ word)) ≡ true = all_lower is_plain_byte is_plain_byte lower_plain (byte ∷ word) both.1 in
    let kept : list_all keeps (folded (byte ∷ word)) ≡ true = all_lower is_plain_byte keeps lower_keeps (byte ∷ word) both.1 in
    let first = implied is_ascii_alphabetic (λ b. is_ascii_lowercase (lower b)) byte refl small both.0 in
    let letter = implied is_ascii_alphabetic (λ b. is_ascii_alphabetic (lower b)) byte refl small both.0 in
    let short : ltb (length (folded (byte ∷ word))) 1000 ≡ true = ap (λ n. ltb n 1000) (length-map (byte ∷ word) to_ascii_lowercase) ∙ parts.1 in
    let all = all_both is_plain_byte keeps (λ b. is_plain_byte b && keeps b) (λ b s t. and_from (is_plain_byte b) (keeps b) s t) (folded (byte ∷ word)) plain kept in
    bare_prints (folded (byte ∷ word))
    (and_from (is_ascii_lowercase (lower byte)) (list_all keeps (folded (byte ∷ word))) first kept)
    (and_from (is_ascii_alphabetic (lower byte) && list_all is_plain_byte (folded (byte ∷ word))) (ltb (length (folded (byte ∷ word))) 1000) (and_from (is_ascii_alphabetic (lower byte)) (list_all is_plain_byte (folded (byte ∷ word))) letter plain) short)
    (all_fixed (λ b. is_plain_byte b && keeps b) kept_fixed (folded (byte ∷ word)) all)

quoted_small : (quote byte : ℕ) → is_quoted_byte quote byte ≡ true → byte < 128
quoted_small quote byte h = range_small 32 126 byte (omega arith) (and_parts (is_in_range 32 126 byte) (not (eqb byte quote)) h).0

quoted_plain : (quote byte : ℕ) → is_quoted_byte quote byte ≡ true → keeps byte ≡ true → is_plain_byte byte ≡ true
quoted_plain quote byte h k = implied (λ b. is_in_range 32 126 b && keeps b) is_plain_byte byte refl (quoted_small quote byte h) (and_from (is_in_range 32 126 byte) (keeps byte) (and_parts (is_in_range 32 126 byte) (not (eqb byte quote)) h).0 k)

quotable_bare : (quote : ℕ) (text : List ℕ) → is_quotable quote text ≡ true → stands_bare text ≡ true → IsValue (printed_string text) (Text text)
quotable_bare quote [] h bare = absurd cc
quotable_bare quote (byte ∷ text) h bare =
    let parts = and_parts (list_all (is_quoted_byte quote) (byte ∷ text)) (ltb (length (byte ∷ text)) 1000) h in
    let b = and_parts (is_ascii_lowercase byte) (list_all keeps (byte ∷ text)) bare in
    let plain = all_both (is_quoted_byte quote) keeps is_plain_byte (quoted_plain quote) (byte ∷ text) parts.0 b.1 in
    let all = all_both is_plain_byte keeps (λ c. is_plain_byte c && keeps c) (λ c s t. and_from (is_plain_byte c) (keeps c) s t) (byte ∷ text) plain b.1 in
    let small = plain_small byte (and_parts (is_plain_byte byte) (list_all is_plain_byte text) plain).0 in
    let letter = implied is_ascii_lowercase is_ascii_alphabetic byte refl small b.0 in
    bare_prints (byte ∷ text) bare
    (and_from (is_ascii_alphabetic byte && list_all is_plain_byte (byte ∷ text)) (ltb (length (byte ∷ text)) 1000) (and_from (is_ascii_alphabetic byte) (list_all is_plain_byte (byte ∷ text)) letter plain) parts.1)
    (all_fixed (λ c. is_plain_byte c && keeps c) kept_fixed (byte ∷ text) all)

-- the quote that is printed may stand round the string
own_quote : (quote : ℕ) (text : List ℕ) → is_quote quote ≡ true → is_quotable quote text ≡ true → is_quotable (quote_of text) text ≡ true
own_quote quote text q h = elim (cases_Bool (list_all (λ byte. not (eqb byte 39)) text)) [
  | inl none ↦
      let parts = and_parts (list_all (is_quoted_byte quote) text) (ltb (length text) 1000) h in
      let all = all_both (is_quoted_byte quote) (λ byte. not (eqb byte 39)) (is_quoted_byte 39) (λ byte s t. and_from (is_in_range 32 126 byte) (not (eqb byte 39)) (and_parts (is_in_range 32 126 byte) (not (eqb byte quote)) s).0 t) text parts.0 none in
      subst (λ (n : ℕ). is_quotable n text ≡ true) (sym (cond-true (list_all (λ byte. not (eqb byte 39)) text) 39 34 none)) (and_from (list_all (is_quoted_byte 39) text) (ltb (length text) 1000) all parts.1)
  | inr some ↦
      subst (λ (n : ℕ). is_quotable n text ≡ true) (sym (cond-false (list_all (λ byte. not (eqb byte 39)) text) 39 34 some)) (double some)
]
  where
    double : list_all (λ byte. not (eqb byte 39)) text ≡ false → is_quotable 34 text ≡ true
    double some = elim (or_cases (eqb quote 39) (eqb quote 34) q) [
      | inl p ↦
          let same : is_quotable 39 text ≡ true = ap (λ n. is_quotable n text) (sym (eqb-true quote 39 p)) ∙ h in
          let parts = and_parts (list_all (is_quoted_byte 39) text) (ltb (length text) 1000) same in
          let none = all_both (is_quoted_byte 39) (is_quoted_byte 39) (λ byte. not (eqb byte 39)) (λ byte s t. (and_parts (is_in_range 32 126 byte) (not (eqb byte 39)) s).1) text parts.0 parts.0 in
          absurd cc
      | inr p ↦ ap (λ n. is_quotable n text) (sym (eqb-true quote 34 p)) ∙ h
    ]

quote_is : (text : List ℕ) → is_quote (quote_of text) ≡ true
quote_is text = go (list_all (λ byte. not (eqb byte 39)) text)
  where
    go : (t : Bool) → is_quote (cond t 39 34) ≡ true
    go true = refl
    go false = refl

quoted_prints : (quote : ℕ) (text : List ℕ) → is_quote quote ≡ true → is_quotable quote text ≡ true → IsValue (printed_string text) (Text text)
quoted_prints quote text q h = elim (cases_Bool (stands_bare text)) [
  | inl bare ↦ quotable_bare quote text h bare
  | inr other ↦ subst (λ (w : List ℕ). IsValue w (Text text)) (sym (cond-false (stands_bare text) text (quote_of text ∷ text ++ quote_of text ∷ []) other)) (inr (quote_of text, quote_is text, own_quote quote text q h, refl))
]

pub value_prints : (word : List ℕ) (value : Value) → IsValue word value → IsValue (printed_value value) value
value_prints word (Number n) h = number_prints n (number_in_range word n h)
value_prints word (Text text) h = elim h [
  | inl p ↦ subst (λ (t : List ℕ). IsValue (printed_string t) (Text t)) (sym p.1) (plain_prints word p.0)
  | inr p ↦ quoted_prints p.0 text p.1 p.2
]

-- ---- clauses

-- a word that begins with no space
abbrev Begins : List ℕ → Type 0
Begins word = (byte : ℕ) × (rest : List ℕ) × (is_space byte ≡ false) × (word ≡ byte ∷ rest)

begins_stays : (word behind : List ℕ) → Begins word → past is_space (word ++ behind) ≡ word ++ behind
begins_stays word behind h =
    let there : past is_space (word ++ behind) ≡ past is_space (h.0 ∷ (h.1 ++ behind)) = ap (λ (w : List ℕ). past is_space (w ++ behind)) h.3 in
    let stays : past is_space (h.0 ∷ (h.1 ++ behind)) ≡ h.0 ∷ (h.1 ++ behind) = λ i. cond (h.2 i) (past is_space (h.1 ++ behind)) (h.0 ∷ (h.1 ++ behind)) in
    let back : h.0 ∷ (h.1 ++ behind) ≡ word ++ behind = ap (λ (w : List ℕ). w ++ behind) (sym h.3) in
    there ∙ stays ∙ back

no_space : (test : ℕ → Bool) (byte : ℕ) → test byte ≡ true → test 32 ≡ false → is_space byte ≡ false
no_space test byte h none = ne_eqb byte 32 (apart test byte 32 h none)

name_begins : (name : List ℕ) → IsName name name → Begins name
name_begins [] h = absurd cc
name_begins (byte ∷ name) h =
    let dotted = (and_parts (is_dotted true (byte ∷ name)) (ltb (length (byte ∷ name)) 100) h.0).0 in
    let stands = (and_parts (may_stand true byte) (is_dotted (eqb byte 46) name) dotted).0 in
    (byte, name, no_space (may_stand true) byte stands refl, refl)

value_begins : (word : List ℕ) (value : Value) → IsValue word value → Begins word
value_begins [] (Number n) h = absurd cc
value_begins [] (Text text) h = elim h [ inl p ↦ absurd cc | inr p ↦ absurd cc ]
value_begins (byte ∷ word) (Number n) h = (byte, word, no_space is_value_byte byte (and_parts (is_value_byte byte) (list_all is_value_byte word) (number_word byte word n h).bytes).0 refl, refl)
value_begins (byte ∷ word) (Text text) h = elim h [
  | inl p ↦ (byte, word, no_space is_ascii_alphabetic byte (and_parts (is_ascii_alphabetic byte) (list_all is_plain_byte (byte ∷ word)) (and_parts (is_ascii_alphabetic byte && list_all is_plain_byte (byte ∷ word)) (ltb (length (byte ∷ word)) 1000) p.0).0).0 refl, refl)
  | inr p ↦ let same : p.0 ≡ byte = cc in (byte, word, no_space is_quote byte (ap is_quote (sym same) ∙ p.1) refl, refl)
]

compare_leads : (relation : Relation) (name word : List ℕ) → (relation ≡ Remove → ⊥) → Begins name → Begins word → Leads (name ∷ operator relation ∷ word ∷ []) ((name ++ operator relation) ++ word) []
compare_leads Remove name word h n w = absurd (h refl)
compare_leads Equal name word h n w =
    let whole : (name ++ 61 ∷ []) ++ word ≡ name ++ (61 ∷ word) = append_assoc name (61 ∷ []) word in
    (61 ∷ word, ap (past is_space) whole ∙ begins_stays name (61 ∷ word) n, (word, refl, ([], ap (past is_space) (sym (append-nil word)) ∙ begins_stays word [] w, refl)))
compare_leads Differ name word h n w =
    let whole : (name ++ 33 ∷ 61 ∷ []) ++ word ≡ name ++ (33 ∷ 61 ∷ word) = append_assoc name (33 ∷ 61 ∷ []) word in
    (33 ∷ 61 ∷ word, ap (past is_space) whole ∙ begins_stays name (33 ∷ 61 ∷ word) n, (word, refl, ([], ap (past is_space) (sym (append-nil word)) ∙ begins_stays word [] w, refl)))

compared_value : (words : List (List ℕ)) (relation : Relation) (value : Value) → IsComparison words relation value → IsValue (printed_value value) value
compared_value words relation value h = elim h [
  | inl p ↦ subst (λ (v : Value). IsValue (printed_value v) v) (sym p.2) (inl (refl, refl))
  | inr p ↦ value_prints p.0 value p.1
]

asking_prints : (optional : Bool) (name : List ℕ) (relation : Relation) (value : Value) → (relation ≡ Remove → ⊥) → IsName name name → IsValue (printed_value value) value
    → (words : List (List ℕ)) × ((word : List ℕ) × (comparison : List (List ℕ)) × IsName word name × IsComparison comparison relation value × (words ≡ mark optional ++ word ∷ comparison)) × Leads words ((((if optional then 63 ∷ [] else []) ++ name) ++ operator relation) ++ printed_value value) []
asking_prints false name relation value h n v =
    (name ∷ operator relation ∷ printed_value value ∷ [], (name, operator relation ∷ printed_value value ∷ [], n, inr (printed_value value, v, refl), refl), compare_leads relation name (printed_value value) h (name_begins name n) (value_begins (printed_value value) value v))
asking_prints true name relation value h n v =
    ((63 ∷ []) ∷ name ∷ operator relation ∷ printed_value value ∷ [], (name, operator relation ∷ printed_value value ∷ [], n, inr (printed_value value, v, refl), refl), ((name ++ operator relation) ++ printed_value value, refl, compare_leads relation name (printed_value value) h (name_begins name n) (value_begins (printed_value value) value v)))

tokens_print : (words : List (List ℕ)) (name : List ℕ) (relation : Relation) (value : Value) (optional : Bool) → AreTokens words name relation value optional
    → (printed : List (List ℕ)) × AreTokens printed name relation value optional × Leads printed (printed_parts optional name relation value) []
tokens_print words name Equal value optional h = asking_prints optional name Equal value (λ e. cc) (name_prints h.0 name h.2) (compared_value h.1 Equal value h.3)
tokens_print words name Differ value optional h = asking_prints optional name Differ value (λ e. cc) (name_prints h.0 name h.2) (compared_value h.1 Differ value h.3)
tokens_print words name Remove value optional h =
    let n = name_prints h.0 name h.1 in
    (operator Remove ∷ name ∷ [], (name, n, h.2, h.3, refl), (name, refl, ([], ap (past is_space) (sym (append-nil name)) ∙ begins_stays name [] (name_begins name n), refl)))

clause_prints : (text : List ℕ) (clause : Clause) → IsClause text clause → IsClause (printed_clause clause) clause
clause_prints text clause h = tokens_print h.0 clause.name clause.relation clause.value clause.optional h.1

-- ---- lists

clauses_print : (text : List ℕ) (clauses : List Clause) → AreClauses text clauses → AreClauses (printed_query clauses) clauses
clauses_print text [] h = refl
clauses_print text (clause ∷ []) h = clause_prints text clause h
clauses_print text (clause ∷ next ∷ clauses) h = (printed_clause clause, printed_query (next ∷ clauses), clause_prints h.0 clause h.2, clauses_print h.1 (next ∷ clauses) h.3, refl)

-- the printed form of a query is a text of it
pub query_prints : (text : List ℕ) (clauses : List Clause) → IsQuery text clauses → IsQuery (printed_query clauses) clauses
query_prints text clauses h = (clauses_print text clauses h.0, h.1)

same_form : (properties : List Property) → map printed_clause (map asked properties) ≡ map (λ property. printed_clause (asked property)) properties
same_form [] = refl
same_form (property ∷ properties) = ap (λ (rest : List (List ℕ)). printed_clause (asked property) ∷ rest) (same_form properties)

pub definition_prints : (text : List ℕ) (properties : List Property) → IsDefinition text properties → IsDefinition (printed_definition properties) properties
definition_prints text properties h = subst (λ (t : List ℕ). IsDefinition t properties) (ap (join_with_byte 44) (same_form properties)) (query_prints text (map asked properties) h)
