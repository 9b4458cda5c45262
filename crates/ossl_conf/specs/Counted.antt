-- What counts of a line, and of a part of it: a range of its bytes, without the comment and without what is dropped at
-- its ends.
use Rattle.std.specs.Prelude.{ℕ, ◌+◌, ◌==◌, Bool, true, false, ◌&&◌, ◌||◌, List, [], ◌∷◌, take, drop, if◌then◌else◌}
use Rattle.std.specs.List.{prefix_len}
use Rattle.std.specs.Str.{byte}
use Rattle.ossl_property.specs.Bytes.{is_quote}
use Rattle.ossl_conf.specs.declared.counted.Place.{Place}
use Rattle.ossl_conf.specs.declared.counted.Place.TheVariants.{Outside, BehindSlash, Within}

-- where the next byte stands; quoted parts may begin where quotes says so
abbrev pub place_after : Bool → Place → ℕ → Place
place_after quotes Outside b =
    if b == byte "\\" then BehindSlash else if quotes && is_quote b then Within b else Outside
place_after quotes BehindSlash b = Outside
place_after quotes (Within quote) b = if b == quote then Outside else Within quote

-- outside quotes and by itself: only there a byte can begin a comment or be dropped
abbrev pub is_free : Place → Bool
is_free Outside = true
is_free _ = false

-- a space or a tab
abbrev pub is_blank : ℕ → Bool
is_blank b = b == byte " " || b == byte "\t"

-- what is dropped at the end: blanks, and a `\` with no byte behind it where slash says so
abbrev pub dropped : Bool → ℕ → Bool
dropped slash b = is_blank b || (slash && b == byte "\\")

-- a `#` that begins a comment
abbrev pub begins_comment : Place → ℕ → Bool
begins_comment place b = is_free place && b == byte "#"

-- where a text ends that has no comment and none of the bytes that are dropped at its end. The bytes from place `at`
-- on are left, and what stays of those before it ends at `end`
abbrev pub end_of : Bool → Bool → Place → ℕ → ℕ → List ℕ → ℕ
end_of quotes slash place at end [] = end
end_of quotes slash place at end (b ∷ text) =
    if begins_comment place b then end
    else end_of quotes slash (place_after quotes place b) (at + 1)
    (if is_free place && dropped slash b then end else at + 1) text

-- the text without the blanks at its front
abbrev pub past_blanks : List ℕ → List ℕ
past_blanks text = drop (prefix_len is_blank text) text

-- without these bytes at its end, and without a comment
abbrev pub ended : Bool → Bool → List ℕ → List ℕ
ended quotes slash text = take (end_of quotes slash Outside 0 0 text) text

-- what counts of the rest of a logical line that is a value, in which quoted parts may begin
abbrev pub counted_value : List ℕ → List ℕ
counted_value text = ended true true (past_blanks text)

-- a name without the blanks at its ends. A `\` stays in it
abbrev pub trimmed : List ℕ → List ℕ
trimmed text = ended false false (past_blanks text)
