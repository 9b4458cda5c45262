-- Numbers and lists of them, as words say them.
use Rattle.std.specs.Prelude.{ℕ, nat_lt, Bool, false, ◌&&◌, ◌||◌, ◌==◌, not, List, [], ◌∷◌, length}
use Rattle.std.specs.Prelude.{Option, Some, None, option_and_then, option_map, if◌then◌else◌}
use Rattle.std.specs.Char.{is_ascii_digit}
use Rattle.std.specs.List.{list_all, slice_split}
use Rattle.std.specs.Str.Parse.{digits_value}

-- a zero with more behind it
abbrev pub has_leading_zero : List ℕ → Bool
has_leading_zero [] = false
has_leading_zero (byte ∷ []) = false
has_leading_zero (byte ∷ next ∷ text) = byte == 48

-- decimal digits, at least one, without sign or leading zero, `0` itself excepted
abbrev pub is_decimal : List ℕ → Bool
is_decimal text = nat_lt 0 (length text) && list_all is_ascii_digit text && not (has_leading_zero text)

-- the number, if it lies from low to high
abbrev pub kept_within : ℕ → ℕ → ℕ → Option ℕ
kept_within low high n = if nat_lt n low || nat_lt high n then None else Some n

-- the number from low to high that a text says
abbrev pub number_of : ℕ → ℕ → List ℕ → Option ℕ
number_of low high text = if is_decimal text then kept_within low high (digits_value 10 text) else None

-- a caller's number is from 1 to 16
abbrev pub caller_of : List ℕ → Option ℕ
caller_of = number_of 1 16

-- the numbers that these texts say, if each says one
abbrev pub callers_of : List (List ℕ) → Option (List ℕ)
callers_of [] = Some []
callers_of (text ∷ texts) = option_and_then (λ n. option_map (λ ns. n ∷ ns) (callers_of texts)) (caller_of text)

-- the texts between the commas (44) of a list
abbrev pub items_of : List ℕ → List (List ℕ)
items_of = slice_split (λ byte. byte == 44)

-- an order: the numbers of 1 to 65,536 callers, joined by commas
abbrev pub order_of : List ℕ → Option (List ℕ)
order_of text = if nat_lt 65536 (length (items_of text)) then None else callers_of (items_of text)
