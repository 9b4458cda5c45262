-- What the functions that read numbers and orders cite.
use Rattle.std.proofs.Common.{◌≡◌, ◌∙◌, ℕ, ◌+◌, ◌^◌, ◌<◌, ◌≤◌, refl, sym, ap, arith, subst, Bool, true, false, ◌&&◌, not, ◌⊎◌, inl, inr, List, [], ◌∷◌, ◌++◌, length, get_or, drop, Option, Some, None, Result, Ok, Err, append_assoc, append-nil}
use Rattle.std.specs.Prelude.{nat_lt, option_map, option_and_then, if◌then◌else◌}
use Rattle.std.specs.Char.{is_ascii_digit}
use Rattle.std.specs.Int.{IsInRange}
use Rattle.std.specs.List.{list_all}
use Rattle.std.specs.Str.Parse.{IsNumeral, ParsesUnsigned, digits_value, without_leading_plus}
use Rattle.std.proofs.lemmas.Bool.{and_parts, or_right, leb-true, le-leb, le-ltb, lt-ltb, ltb-true}
use Rattle.std.proofs.lemmas.List.{at_drop_more, at_drop_all, length_push}
use Rattle.std.proofs.lemmas.Str.Parse.{IsDigitsTest, IsNumeralModel, numerals_by_value, without_leading_plus_none}
use Rattle.std.proofs.Math.Dec.{leb}
use Rattle.ossl_words.specs.Numbers.{caller_of, callers_of, has_leading_zero, is_decimal, items_of, kept_within, number_of, order_of}

-- ---- numbers

abbrev AreDigits : List ℕ → Type 0
AreDigits text = list_all is_ascii_digit text ≡ true

digit_parts : (c : ℕ) (cs : List ℕ) → AreDigits (c ∷ cs) → IsInRange 48 57 c × AreDigits cs
digit_parts c cs e =
    let k = and_parts (is_ascii_digit c) (list_all is_ascii_digit cs) e in
    let m = and_parts (leb 48 c) (leb c 57) k.0 in
    ((leb-true 48 c m.0, leb-true c 57 m.1), k.1)

digits_more : (c : ℕ) (cs : List ℕ) → IsInRange 48 57 c → AreDigits cs → AreDigits (c ∷ cs)
digits_more c cs k e = rw (le-leb 48 c k.0, le-leb c 57 k.1) e

tells_digits : IsDigitsTest AreDigits
tells_digits = record { empty = refl; parts = digit_parts; more = digits_more }

digits : IsNumeralModel AreDigits (digits_value 10)
digits = numerals_by_value AreDigits tells_digits

-- digits have no sign before them
no_plus : (text : List ℕ) → AreDigits text → without_leading_plus text ≡ text
no_plus [] e = refl
no_plus (c ∷ cs) e = let k = (digit_parts c cs e).0 in without_leading_plus_none (c ∷ cs) (λ is. omega (arith, k.0, is))

pub record IsDecimal (text : List ℕ) : Type 0 where
  pub some : 0 < length text
  pub digits : list_all is_ascii_digit text ≡ true

decimal_parts : (text : List ℕ) → is_decimal text ≡ true → IsDecimal text
decimal_parts text e =
    let front = and_parts (nat_lt 0 (length text) && list_all is_ascii_digit text) (not (has_leading_zero text)) e in
    let parts = and_parts (nat_lt 0 (length text)) (list_all is_ascii_digit text) front.0 in
    record { some = ltb-true 0 (length text) parts.0; digits = parts.1 }

outside : (low high n : ℕ) → (n < low) ⊎ (high < n) → kept_within low high n ≡ None
outside low high n (inl less) = rw (lt-ltb n low less) refl
outside low high n (inr more) = rw (or_right (nat_lt n low) (nat_lt high n) (lt-ltb high n more)) refl

-- a text that was parsed, or was not
module _ {E : Type 0} (text : List ℕ) (decimal : is_decimal text ≡ true) (r : Result ℕ E) (parses : ParsesUnsigned 64 10 text r) where
  parsed : (n : ℕ) → r ≡ Ok n → n ≡ digits_value 10 text
  parsed n is = (let h : ParsesUnsigned {E = E} 64 10 text (Ok n) = subst (ParsesUnsigned 64 10 text) is parses in h.1)
      ∙ ap (digits_value 10) (no_plus text (decimal_parts text decimal).digits)

  over : (e : E) → r ≡ Err e → digits_value 10 text < 2 ^ 64 → ⊥
  over e is less =
      let d = decimal_parts text decimal in
      let h : ParsesUnsigned {E = E} 64 10 text (Err e) = subst (ParsesUnsigned 64 10 text) is parses in
      subst (λ t. IsNumeral 10 t × (digits_value 10 t < 2 ^ 64) → ⊥) (no_plus text d.digits) h ((d.some, digits.to text d.digits), less)

  -- a number that lies within
  pub said_within : (low high n : ℕ) → r ≡ Ok n → low ≤ n → n ≤ high → Some n ≡ number_of low high text
  said_within low high n is least most =
      let kept : kept_within low high n ≡ Some n = rw (le-ltb n low least, le-ltb high n most) refl in
      sym kept ∙ ap (kept_within low high) (parsed n is) ∙ rw (decimal) refl

  -- one that does not
  pub said_outside : (low high n : ℕ) → r ≡ Ok n → (n < low) ⊎ (high < n) → None ≡ number_of low high text
  said_outside low high n is out = sym (outside low high n out) ∙ ap (kept_within low high) (parsed n is) ∙ rw (decimal) refl

  -- one that no 64 bits hold
  pub said_over : (low high : ℕ) (e : E) → r ≡ Err e → high < 2 ^ 64 → None ≡ number_of low high text
  said_over low high e is fits =
      let beyond : digits_value 10 text < 2 ^ 64 → ⊥ = over e is in
      let more : high < digits_value 10 text = omega (arith, beyond) in
      sym (outside low high (digits_value 10 text) (inr more)) ∙ rw (decimal) refl

-- ---- orders

abbrev Numbers : Type 0
Numbers = Option (List ℕ)

-- the numbers that were read, and those of what is left
abbrev pub Reads : List (List ℕ) → List ℕ → Type 0
Reads items read = callers_of items ≡ option_map (λ more. read ++ more) (callers_of (drop (length read) items))

abbrev pub IsNext : List (List ℕ) → List ℕ → List ℕ → Type 0
IsNext items read item = (length read < length items) × (item ≡ get_or items (length read) item)

pub next_by : (items : List (List ℕ)) (read item : List ℕ) (i : ℕ) → length read ≡ i → (i < length items) × (item ≡ get_or items i item)
    → IsNext items read item
next_by items read item i e h = subst (λ k. (k < length items) × (item ≡ get_or items k item)) (sym e) h

pub reads_none : (items : List (List ℕ)) → Reads items []
reads_none items = go (callers_of items)
  where
    go : (o : Numbers) → o ≡ option_map (λ more. [] ++ more) o
    go None = refl
    go (Some ns) = refl

-- what an item and those behind it say
abbrev with_first : Option ℕ → Numbers → Numbers
with_first o more = option_and_then (λ n. option_map (λ ns. n ∷ ns) more) o

next_is : (items : List (List ℕ)) (read item : List ℕ) → IsNext items read item
    → callers_of (drop (length read) items) ≡ with_first (caller_of item) (callers_of (drop (length read + 1) items))
next_is items read item h =
    at_drop_more callers_of items (length read) item h.0
    ∙ ap (λ x. with_first (caller_of x) (callers_of (drop (length read + 1) items))) (sym h.1)

-- a number that was pushed
pub pushed : (b : Bool) (new old more : List ℕ) → new ≡ (if b then more else old) → b ≡ true → new ≡ more
pushed b new old more e full = e ∙ ap (λ b. if b then more else old) full

pub reads_more : (items : List (List ℕ)) (read item : List ℕ) (n : ℕ) → Reads items read → IsNext items read item → Some n ≡ caller_of item
    → Reads items (read ++ n ∷ [])
reads_more items read item n so_far h said =
    so_far ∙ ap (option_map (λ more. read ++ more)) (next_is items read item h ∙ ap (λ o. with_first o rest) (sym said))
    ∙ go rest ∙ ap (λ i. option_map (λ more. (read ++ n ∷ []) ++ more) (callers_of (drop i items))) (sym (length_push read n))
  where
    rest : Numbers
    rest = callers_of (drop (length read + 1) items)

    go : (o : Numbers) → option_map (λ more. read ++ more) (option_map (λ ns. n ∷ ns) o) ≡ option_map (λ more. (read ++ n ∷ []) ++ more) o
    go None = refl
    go (Some ns) = ap Some (sym (append_assoc read (n ∷ []) ns))

-- an order with an item that is no caller's number
pub no_caller : (text read item : List ℕ) → Reads (items_of text) read → IsNext (items_of text) read item → None ≡ caller_of item → order_of text ≡ None
no_caller text read item so_far h said = go (nat_lt 65536 (length (items_of text)))
  where
    none : callers_of (items_of text) ≡ None
    none = so_far ∙ ap (option_map (λ more. read ++ more)) (next_is (items_of text) read item h ∙ ap (λ o. with_first o (callers_of (drop (length read + 1) (items_of text)))) (sym said))

    go : (b : Bool) → (if b then None else callers_of (items_of text)) ≡ None
    go true = refl
    go false = none

-- an order with too many items
pub too_many : (text read item : List ℕ) → IsNext (items_of text) read item → length read ≡ 65536 → order_of text ≡ None
too_many text read item h full = rw (lt-ltb 65536 (length (items_of text)) (omega (arith, h.0, full))) refl

-- an order that was read to its end
pub read_whole : (text read : List ℕ) → Reads (items_of text) read → length read ≡ length (items_of text) → length read ≤ 65536 → order_of text ≡ Some read
read_whole text read so_far end most =
    let all : callers_of (items_of text) ≡ Some read = so_far
    ∙ ap (option_map (λ more. read ++ more)) (at_drop_all callers_of (items_of text) (length read) (omega (arith, end))) ∙ ap Some (append-nil read) in
    rw (le-ltb 65536 (length (items_of text)) (omega (arith, end, most))) all
