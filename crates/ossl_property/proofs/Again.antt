-- What is in the grammar is read, token by token.
use Rattle.std.proofs.Common.{◌≡◌, ℕ, ◌+◌, ◌-◌, ◌*◌, ◌<◌, ◌≤◌, eqb, ltb, leb, Bool, true, false, not, cond, ◌&&◌, ◌||◌, inl, inr, List, [], ◌∷◌, ◌++◌, length, Option, Some, None, Ok, Err, refl, sym, ap, ◌∙◌, append_assoc, lit≤, arith}
use Rattle.std.specs.Prelude.{ℤ}
use Rattle.std.specs.Char.{is_ascii_alphabetic}
use Rattle.std.specs.Int.{is_in_range}
use Rattle.std.specs.List.{list_all}
use Rattle.std.specs.Option.{option_map}
use Rattle.std.proofs.lemmas.Bool.{ltb-true, leb-true, eqb-true, eq-eqb, ne_eqb, cond-true, and_parts, and_from, or_cases, or_from, or_left, or_right, not_from_false, not-true}
use Rattle.ossl_property.specs.declared.clause.Value.{Value}
use Rattle.ossl_property.specs.declared.clause.Value.TheVariants.{Number, Text}
use Rattle.ossl_property.specs.Bytes.{is_quote, is_word_byte, is_name_byte, is_value_byte, is_plain_byte, is_quoted_byte, folded, front, past}
use Rattle.ossl_property.specs.Grammar.{may_stand, is_dotted, is_name, digit_of, number_behind, digits_value, not_negative, negative, behind_zero, number_of, is_plain, is_quotable, IsValue, IsName}
use Rattle.ossl_property.specs.Reading.{name_at, plain_value, or_fault, plain_at, closed_at, quoted_at, value_at}
use Rattle.ossl_property.proofs.Runs.{front_run, past_run}
use Rattle.ossl_property.proofs.Tables.{range_small, implied}

-- a byte that passes a test is none that does not
pub apart : (test : ℕ → Bool) (byte other : ℕ) → test byte ≡ true → test other ≡ false → byte ≡ other → ⊥
apart test byte other h none e = let same : true ≡ false = sym h ∙ ap test e ∙ none in absurd cc

-- ---- names

alphabetic_word : (byte : ℕ) → is_ascii_alphabetic byte ≡ true → is_word_byte byte ≡ true
alphabetic_word byte h =
    let small : byte < 128 = elim (or_cases (is_in_range 65 90 byte) (is_in_range 97 122 byte) h) [ inl p ↦ range_small 65 90 byte (omega arith) p | inr p ↦ range_small 97 122 byte (omega arith) p ] in
    implied is_ascii_alphabetic is_word_byte byte refl small h

pub stands_byte : (at_start : Bool) (byte : ℕ) → may_stand at_start byte ≡ true → is_name_byte byte ≡ true
stands_byte at_start byte h = dot (eqb byte 46) refl h
  where
    start : (s : Bool) → cond s (is_ascii_alphabetic byte) (is_word_byte byte) ≡ true → is_word_byte byte ≡ true
    start true h = alphabetic_word byte h
    start false h = h

    dot : (t : Bool) → eqb byte 46 ≡ t → cond t (not at_start) (cond at_start (is_ascii_alphabetic byte) (is_word_byte byte)) ≡ true → is_name_byte byte ≡ true
    dot true e h = or_right (is_word_byte byte) (eqb byte 46) e
    dot false e h = or_left (is_word_byte byte) (eqb byte 46) (start at_start h)

name_bytes : (at_start : Bool) (word : List ℕ) → is_dotted at_start word ≡ true → list_all is_name_byte word ≡ true
name_bytes at_start [] h = refl
name_bytes at_start (byte ∷ word) h =
    let parts = and_parts (may_stand at_start byte) (is_dotted (eqb byte 46) word) h in
    and_from (is_name_byte byte) (list_all is_name_byte word) (stands_byte at_start byte parts.0) (name_bytes (eqb byte 46) word parts.1)

at_name : (taken : List ℕ → Bool) (text run rest : List ℕ) → front is_name_byte text ≡ run → past is_name_byte text ≡ rest → (is_name run && not (taken (folded run))) ≡ true → name_at taken text ≡ Ok (folded run, rest)
unfolding name_at
at_name taken text run rest e f h =
    let moved : name_at taken text ≡ cond (is_name run && not (taken (folded run))) (Ok (folded run, rest)) (Err text) = λ i. cond (is_name (e i) && not (taken (folded (e i)))) (Ok (folded (e i), f i)) (Err text) in
    moved ∙ cond-true _ _ _ h

pub name_again : (taken : List ℕ → Bool) (word name behind : List ℕ) → IsName word name → taken name ≡ false → front is_name_byte behind ≡ [] → name_at taken (word ++ behind) ≡ Ok (name, behind)
name_again taken word name behind h new ends =
    let bytes = name_bytes true word (and_parts (is_dotted true word) (ltb (length word) 100) h.0).0 in
    at_name taken (word ++ behind) word behind (front_run is_name_byte word behind bytes ends) (past_run is_name_byte word behind bytes ends) (and_from (is_name word) (not (taken (folded word))) h.0 (not_from_false _ (ap taken (sym h.1) ∙ new)))
    ∙ ap (λ (n : List ℕ). Ok (n, behind)) (sym h.1)

-- ---- numbers

value_byte : (byte : ℕ) → (byte ≡ 32 → ⊥) → (byte ≡ 44 → ⊥) → is_value_byte byte ≡ true
value_byte byte p q = not_from_false _ (or_from (eqb byte 32) (eqb byte 44) (ne_eqb byte 32 p) (ne_eqb byte 44 q))

digit_byte : (byte : ℕ) → digit_of byte < 16 → is_value_byte byte ≡ true
digit_byte byte h = value_byte byte (λ e. let none : digit_of byte ≡ 16 = ap digit_of e in omega arith) (λ e. let none : digit_of byte ≡ 16 = ap digit_of e in omega arith)

pub tested : {A : Type 0} (t : Bool) (x : Option A) (y : A) → cond t x None ≡ Some y → (t ≡ true) × (x ≡ Some y)
tested true x y e = (refl, e)
tested false x y e = absurd cc

digits_bytes : (base n : ℕ) (word : List ℕ) (m : ℕ) → base ≤ 16 → number_behind base n word ≡ Some m → list_all is_value_byte word ≡ true
digits_bytes base n [] m h e = refl
digits_bytes base n (byte ∷ word) m h e =
    let t = tested (ltb (digit_of byte) base) (number_behind base (n * base + digit_of byte) word) m e in
    let small : digit_of byte < base = ltb-true (digit_of byte) base t.0 in
    and_from (is_value_byte byte) (list_all is_value_byte word) (digit_byte byte (omega arith)) (digits_bytes base (n * base + digit_of byte) word m h t.1)

some_digits : (base : ℕ) (word : List ℕ) (m : ℕ) → base ≤ 16 → digits_value base word ≡ Some m → list_all is_value_byte word ≡ true
some_digits base [] m h e = refl
some_digits base (byte ∷ word) m h e = digits_bytes base 0 (byte ∷ word) m h e

from_not_negative : (o : Option ℕ) (z : ℤ) → not_negative o ≡ Some z → (m : ℕ) × (o ≡ Some m)
from_not_negative None z e = absurd cc
from_not_negative (Some m) z e = (m, refl)

from_negative : (o : Option ℕ) (z : ℤ) → negative o ≡ Some z → (m : ℕ) × (o ≡ Some m)
from_negative None z e = absurd cc
from_negative (Some m) z e = (m, refl)

zero_bytes : (word : List ℕ) (z : ℤ) → behind_zero word ≡ Some z → list_all is_value_byte word ≡ true
zero_bytes [] z e = refl
zero_bytes (byte ∷ word) z e = letter (eqb byte 120 || eqb byte 88) refl e
  where
    letter : (t : Bool) → (eqb byte 120 || eqb byte 88) ≡ t → cond t (not_negative (digits_value 16 word)) (not_negative (digits_value 8 (byte ∷ word))) ≡ Some z → list_all is_value_byte (byte ∷ word) ≡ true
    letter true h e =
        let o = from_not_negative (digits_value 16 word) z e in
        let is_x : is_value_byte byte ≡ true = elim (or_cases (eqb byte 120) (eqb byte 88) h) [ inl p ↦ ap is_value_byte (eqb-true byte 120 p) | inr p ↦ ap is_value_byte (eqb-true byte 88 p) ] in
        and_from (is_value_byte byte) (list_all is_value_byte word) is_x (some_digits 16 word o.0 (lit≤ tt) o.1)
    letter false h e = let o = from_not_negative (digits_value 8 (byte ∷ word)) z e in digits_bytes 8 0 (byte ∷ word) o.0 (lit≤ tt) o.1

-- what a number begins with, and that it has no space and no comma
pub record NumberWord (byte : ℕ) (word : List ℕ) : Type 0 where
  pub bytes : list_all is_value_byte (byte ∷ word) ≡ true
  pub no_letter : is_ascii_alphabetic byte ≡ false
  pub no_quote : is_quote byte ≡ false

digit_range : (byte : ℕ) → digit_of byte < 10 → is_in_range 48 57 byte ≡ true
digit_range byte h = first (is_in_range 48 57 byte) refl h
  where
    third : (t : Bool) → is_in_range 65 70 byte ≡ t → cond t (byte - 55) 16 < 10 → ⊥
    third true e h = let low : 65 ≤ byte = leb-true 65 byte (and_parts (leb 65 byte) (leb byte 70) e).0 in omega arith
    third false e h = omega arith

    second : (t : Bool) → is_in_range 97 102 byte ≡ t → cond t (byte - 87) (cond (is_in_range 65 70 byte) (byte - 55) 16) < 10 → ⊥
    second true e h = let low : 97 ≤ byte = leb-true 97 byte (and_parts (leb 97 byte) (leb byte 102) e).0 in omega arith
    second false e h = third (is_in_range 65 70 byte) refl h

    first : (t : Bool) → is_in_range 48 57 byte ≡ t → cond t (byte - 48) (cond (is_in_range 97 102 byte) (byte - 87) (cond (is_in_range 65 70 byte) (byte - 55) 16)) < 10 → is_in_range 48 57 byte ≡ true
    first true e h = e
    first false e h = absurd (second (is_in_range 97 102 byte) refl h)

first_digit : (byte : ℕ) → digit_of byte < 10 → (is_ascii_alphabetic byte ≡ false) × (is_quote byte ≡ false)
first_digit byte h =
    let digit = digit_range byte h in
    let small = range_small 48 57 byte (omega arith) digit in
    (not-true _ (implied (is_in_range 48 57) (λ b. not (is_ascii_alphabetic b)) byte refl small digit), not-true _ (implied (is_in_range 48 57) (λ b. not (is_quote b)) byte refl small digit))

pub number_word : (byte : ℕ) (word : List ℕ) (z : ℤ) → number_of (byte ∷ word) ≡ Some z → NumberWord byte word
number_word byte word z e = minus (eqb byte 45) refl e
  where
    zeroed : (t : Bool) → eqb byte 48 ≡ t → cond t (behind_zero word) (not_negative (digits_value 10 (byte ∷ word))) ≡ Some z → NumberWord byte word
    zeroed true h e =
        let is : byte ≡ 48 = eqb-true byte 48 h in
        record { bytes = and_from (is_value_byte byte) (list_all is_value_byte word) (ap is_value_byte is) (zero_bytes word z e); no_letter = ap is_ascii_alphabetic is; no_quote = ap is_quote is }
    zeroed false h e =
        let o = from_not_negative (digits_value 10 (byte ∷ word)) z e in
        let t = tested (ltb (digit_of byte) 10) (number_behind 10 (0 * 10 + digit_of byte) word) o.0 o.1 in
        let first = first_digit byte (ltb-true (digit_of byte) 10 t.0) in
        record { bytes = digits_bytes 10 0 (byte ∷ word) o.0 (lit≤ tt) o.1; no_letter = first.0; no_quote = first.1 }

    minus : (t : Bool) → eqb byte 45 ≡ t → cond t (negative (digits_value 10 word)) (cond (eqb byte 48) (behind_zero word) (not_negative (digits_value 10 (byte ∷ word)))) ≡ Some z → NumberWord byte word
    minus true h e =
        let is : byte ≡ 45 = eqb-true byte 45 h in
        let o = from_negative (digits_value 10 word) z e in
        record { bytes = and_from (is_value_byte byte) (list_all is_value_byte word) (ap is_value_byte is) (some_digits 10 word o.0 (lit≤ tt) o.1); no_letter = ap is_ascii_alphabetic is; no_quote = ap is_quote is }
    minus false h e = zeroed (eqb byte 48) refl e

-- ---- values

at_plain : (byte : ℕ) (word behind : List ℕ) (value : Value) → list_all is_value_byte (byte ∷ word) ≡ true → front is_value_byte behind ≡ [] → is_quote byte ≡ false → plain_value (byte ∷ word) ≡ Some value → value_at (byte ∷ (word ++ behind)) ≡ Ok (value, behind)
unfolding value_at plain_at
at_plain byte word behind value bytes ends no_quote is =
    let run = front_run is_value_byte (byte ∷ word) behind bytes ends in
    let rest = past_run is_value_byte (byte ∷ word) behind bytes ends in
    let first : value_at (byte ∷ (word ++ behind)) ≡ plain_at (byte ∷ (word ++ behind)) = λ i. cond (no_quote i) (quoted_at byte (byte ∷ (word ++ behind)) (word ++ behind)) (plain_at (byte ∷ (word ++ behind))) in
    let moved : plain_at (byte ∷ (word ++ behind)) ≡ or_fault (byte ∷ (word ++ behind)) behind (plain_value (byte ∷ word)) = λ i. or_fault (byte ∷ (word ++ behind)) (rest i) (plain_value (run i)) in
    first ∙ moved ∙ ap (or_fault (byte ∷ (word ++ behind)) behind) is

number_again : (byte : ℕ) (word behind : List ℕ) (n : ℤ) → number_of (byte ∷ word) ≡ Some n → front is_value_byte behind ≡ [] → value_at (byte ∷ (word ++ behind)) ≡ Ok (Number n, behind)
unfolding plain_value
number_again byte word behind n e ends =
    let w = number_word byte word n e in
    let is : plain_value (byte ∷ word) ≡ Some (Number n) = (λ i. cond (w.no_letter i) (cond (is_plain (byte ∷ word)) (Some (Text (folded (byte ∷ word)))) None) (option_map Number (e i))) in
    at_plain byte word behind (Number n) w.bytes ends w.no_quote is

plain_byte : (byte : ℕ) → is_plain_byte byte ≡ true → is_value_byte byte ≡ true
plain_byte byte h = value_byte byte (apart is_plain_byte byte 32 h refl) (apart is_plain_byte byte 44 h refl)

plain_bytes : (word : List ℕ) → list_all is_plain_byte word ≡ true → list_all is_value_byte word ≡ true
plain_bytes [] h = refl
plain_bytes (byte ∷ word) h =
    let parts = and_parts (is_plain_byte byte) (list_all is_plain_byte word) h in
    and_from (is_value_byte byte) (list_all is_value_byte word) (plain_byte byte parts.0) (plain_bytes word parts.1)

bare_again : (byte : ℕ) (word behind : List ℕ) → is_plain (byte ∷ word) ≡ true → front is_value_byte behind ≡ [] → value_at (byte ∷ (word ++ behind)) ≡ Ok (Text (folded (byte ∷ word)), behind)
unfolding plain_value
bare_again byte word behind h ends =
    let parts = and_parts (is_ascii_alphabetic byte && list_all is_plain_byte (byte ∷ word)) (ltb (length (byte ∷ word)) 1000) h in
    let both = and_parts (is_ascii_alphabetic byte) (list_all is_plain_byte (byte ∷ word)) parts.0 in
    let no_quote : is_quote byte ≡ false = or_from (eqb byte 39) (eqb byte 34) (ne_eqb byte 39 (apart is_ascii_alphabetic byte 39 both.0 refl)) (ne_eqb byte 34 (apart is_ascii_alphabetic byte 34 both.0 refl)) in
    let is : plain_value (byte ∷ word) ≡ Some (Text (folded (byte ∷ word))) = (λ i. cond (both.0 i) (cond (h i) (Some (Text (folded (byte ∷ word)))) None) (option_map Number (number_of (byte ∷ word)))) in
    at_plain byte word behind (Text (folded (byte ∷ word))) (plain_bytes (byte ∷ word) both.1) ends no_quote is

within_bytes : (quote : ℕ) (text : List ℕ) → list_all (is_quoted_byte quote) text ≡ true → list_all (λ byte. not (eqb byte quote)) text ≡ true
within_bytes quote [] h = refl
within_bytes quote (byte ∷ text) h =
    let parts = and_parts (is_quoted_byte quote byte) (list_all (is_quoted_byte quote) text) h in
    and_from (not (eqb byte quote)) (list_all (λ b. not (eqb b quote)) text) (and_parts _ (not (eqb byte quote)) parts.0).1 (within_bytes quote text parts.1)

quoted_again : (quote : ℕ) (text behind : List ℕ) → is_quote quote ≡ true → is_quotable quote text ≡ true → value_at (quote ∷ ((text ++ quote ∷ []) ++ behind)) ≡ Ok (Text text, behind)
unfolding value_at
quoted_again quote text behind q h =
    let bytes = within_bytes quote text (and_parts (list_all (is_quoted_byte quote) text) (ltb (length text) 1000) h).0 in
    let ends : front (λ byte. not (eqb byte quote)) (quote ∷ behind) ≡ [] = λ i. cond (not (eq-eqb quote quote refl i)) (quote ∷ front (λ byte. not (eqb byte quote)) behind) [] in
    let whole : (text ++ quote ∷ []) ++ behind ≡ text ++ (quote ∷ behind) = append_assoc text (quote ∷ []) behind in
    let run : front (λ byte. not (eqb byte quote)) ((text ++ quote ∷ []) ++ behind) ≡ text = ap (front (λ byte. not (eqb byte quote))) whole ∙ front_run (λ byte. not (eqb byte quote)) text (quote ∷ behind) bytes ends in
    let rest : past (λ byte. not (eqb byte quote)) ((text ++ quote ∷ []) ++ behind) ≡ quote ∷ behind = ap (past (λ byte. not (eqb byte quote))) whole ∙ past_run (λ byte. not (eqb byte quote)) text (quote ∷ behind) bytes ends in
    let all : List ℕ = quote ∷ ((text ++ quote ∷ []) ++ behind) in
    let first : value_at all ≡ quoted_at quote all ((text ++ quote ∷ []) ++ behind) = λ i. cond (q i) (quoted_at quote all ((text ++ quote ∷ []) ++ behind)) (plain_at all) in
    let moved : quoted_at quote all ((text ++ quote ∷ []) ++ behind) ≡ closed_at quote all text (quote ∷ behind) = λ i. closed_at quote all (run i) (rest i) in
    first ∙ moved ∙ cond-true _ _ _ h

pub value_again : (word behind : List ℕ) (value : Value) → IsValue word value → front is_value_byte behind ≡ [] → value_at (word ++ behind) ≡ Ok (value, behind)
value_again [] behind (Number n) h ends = absurd cc
value_again [] behind (Text text) h ends = elim h [ inl p ↦ absurd cc | inr p ↦ absurd cc ]
value_again (byte ∷ word) behind (Number n) h ends = number_again byte word behind n h ends
value_again (byte ∷ word) behind (Text text) h ends = elim h [
  | inl p ↦ bare_again byte word behind p.0 ends ∙ ap (λ (t : List ℕ). Ok (Text t, behind)) (sym p.1)
  | inr p ↦ ap (λ (w : List ℕ). value_at (w ++ behind)) p.3 ∙ quoted_again p.0 text behind p.1 p.2
]
