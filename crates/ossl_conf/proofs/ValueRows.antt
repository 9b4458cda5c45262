-- Values by computation: blanks, quotes, escapes and variables.
use Rattle.std.proofs.Common.{◌≡◌, ℕ, List, ◌++◌, Option, Some, Result, Ok, Err, [], ◌∷◌, codes, refl}
use Rattle.ossl_conf.specs.declared.refusal.ConfRefused.{ConfRefused}
use Rattle.ossl_conf.specs.declared.refusal.ConfRefused.TheVariants.{NoVariable}
use Rattle.ossl_conf.proofs.Examples.{x_of}

-- the value of x, set to this text
abbrev value : List ℕ → Result (Option (List ℕ)) ConfRefused
value text = x_of (codes "x=" ++ text)

-- the same behind lines that set variables
abbrev value_behind : List ℕ → List ℕ → Result (Option (List ℕ)) ConfRefused
value_behind lines text = x_of (lines ++ codes "[default]\nx=" ++ text)

blanks : value (codes " \ta b \t") ≡ Ok (Some (codes "a b"))
blanks = refl

empty : value (codes " # y") ≡ Ok (Some [])
empty = refl

-- a quoted blank stays, and a quoted `#` begins no comment
quoted : value (codes " ' a # b ' # c") ≡ Ok (Some (codes " a # b "))
quoted = refl

-- bytes within quotes are taken as they are; the other quote is one of them
taken_as_they_are : value (codes "a\"b'$c\\n\"d") ≡ Ok (Some (codes "ab'$c\\nd"))
taken_as_they_are = refl

-- a quoted part without its second quote goes to the end of the line, blanks with it
open_quote : value (codes "'a # b ") ≡ Ok (Some (codes "a # b "))
open_quote = refl

escapes : value (codes "\\n\\r\\t\\b\\x\\\\\\$\\'") ≡ Ok (Some (codes "\n\r\t" ++ 8 ∷ codes "x\\$'"))
escapes = refl

-- the byte behind a `\` begins no comment and no quoted part, and is not dropped as a blank
held_bytes : value (codes "\\#\\'\\  # y") ≡ Ok (Some (codes "#' "))
held_bytes = refl

-- a `\` that is left at the end goes first, then the blanks before it
left_slash : value (codes "a \\") ≡ Ok (Some (codes "a"))
left_slash = refl

-- within quotes it is a byte like any other
quoted_slash : value (codes "'a \\") ≡ Ok (Some (codes "a \\"))
quoted_slash = refl

bare_name : value_behind (codes "a_1=b\n") (codes "$a_1/c") ≡ Ok (Some (codes "b/c"))
bare_name = refl

braces : value_behind (codes "a b=c\n") (codes "${a b}d") ≡ Ok (Some (codes "cd"))
braces = refl

parentheses : value_behind (codes "a}=c\n") (codes "$(a})d") ≡ Ok (Some (codes "cd"))
parentheses = refl

-- a single `:` ends a bare name
one_colon : value_behind (codes "a=b\n") (codes "$a:b") ≡ Ok (Some (codes "b:b"))
one_colon = refl

named_section : value_behind (codes "s::n=c\n[s]\n") (codes "$s::n ${s::n}") ≡ Ok (Some (codes "c c"))
named_section = refl

-- without a value in the named section, `default` is looked at; a section with an empty name holds nothing
default_behind_section : value_behind (codes "n=c\n[s]\n") (codes "$s::n${nosuch::n}$::n") ≡ Ok (Some (codes "ccc"))
default_behind_section = refl

-- without a section the current one is looked at, then `default`
current_section : x_of (codes "n=1\nm=2\n[s]\nn=3\ndefault::x=$n$m") ≡ Ok (Some (codes "32"))
current_section = refl

-- in `s::n = $x` the current section is the one opened last
opened_last : x_of (codes "s::n=1\n[t]\nn=2\ns::y=$n\ndefault::x=$s::y") ≡ Ok (Some (codes "2"))
opened_last = refl

-- the value set before, also of the very name
set_before : x_of (codes "x=a\nx=${x}b\nx=$(x)c") ≡ Ok (Some (codes "abc"))
set_before = refl

-- what a variable stands for is not read again, and none of its blanks is dropped
replaced_whole : value_behind (codes "a=' $b\\n# '\n") (codes " $a ") ≡ Ok (Some (codes " $b\\n# "))
replaced_whole = refl

not_set : x_of (codes "\nx = $nosuch") ≡ Err (NoVariable 2 (codes "nosuch"))
not_set = refl

-- it is set behind the line alone
set_later : x_of (codes "x = $y\ny = 1") ≡ Err (NoVariable 1 (codes "y"))
set_later = refl

no_name : value (codes "$/") ≡ Err (NoVariable 1 [])
no_name = refl

no_name_in_braces : value (codes "${}") ≡ Err (NoVariable 1 [])
no_name_in_braces = refl

no_name_in_section : value (codes "$s::") ≡ Err (NoVariable 1 (codes "s::"))
no_name_in_section = refl

-- without the closing bracket the name is all that is left, though it is set
no_bracket : value_behind (codes "y=1\n") (codes "a${y") ≡ Err (NoVariable 3 (codes "y"))
no_bracket = refl

other_bracket : value_behind (codes "y=1\n") (codes "$(y} b ") ≡ Err (NoVariable 3 (codes "y} b"))
other_bracket = refl

-- a comment is cut before variables are read
comment_in_braces : value_behind (codes "a=1\n") (codes "${a#b}") ≡ Err (NoVariable 3 (codes "a"))
comment_in_braces = refl

-- a quote within brackets is a byte of the name, but begins a quoted part where the comment is looked for
quote_in_braces : value_behind (codes "a'b=1\n") (codes "${a'b}#c") ≡ Ok (Some (codes "1#c"))
quote_in_braces = refl

-- the first variable without a value is told
first_missing : value (codes "$a$b") ≡ Err (NoVariable 1 (codes "a"))
first_missing = refl
