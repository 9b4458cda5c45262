-- Lines by computation: their ends and numbers, comments, blanks, and each way in which a line is refused.
use Rattle.std.proofs.Common.{◌≡◌, Some, None, Ok, Err, [], ◌∷◌, codes, refl}
use Rattle.ossl_conf.specs.declared.kind.ConfKind.TheVariants.{Bracket, Directive, Equals, Name}
use Rattle.ossl_conf.specs.declared.refusal.ConfRefused.TheVariants.{Line}
use Rattle.ossl_conf.specs.Lines.{logical_lines}
use Rattle.ossl_conf.specs.Said.{said, nothing, opens, sets, includes, faulty}
use Rattle.ossl_conf.proofs.Examples.{x_of}

-- a line feed, and a carriage return before one, end a line; a carriage return by itself is a byte
ends : logical_lines (codes "a\r\nb\rc\n") ≡ record { number = 1; text = codes "a" } ∷ record { number = 2; text = codes "b\rc" } ∷ record { number = 3; text = [] } ∷ []
ends = refl

-- a `\` right before the end joins the next line, whose number is that of the first; a doubled one joins too
joins : logical_lines (codes "a\\\nb\\\\\r\nc\nd") ≡ record { number = 1; text = codes "ab\\c" } ∷ record { number = 4; text = codes "d" } ∷ []
joins = refl

-- at the end of the text there is no line's end to be joined
last_slash : logical_lines (codes "a\\") ≡ record { number = 1; text = codes "a\\" } ∷ []
last_slash = refl

-- also in a comment and in quotes
joined_comment : x_of (codes "# y\\\nx = 1\nx = 2") ≡ Ok (Some (codes "2"))
joined_comment = refl

joined_quotes : x_of (codes "x = 'a\\\nb'") ≡ Ok (Some (codes "ab"))
joined_quotes = refl

-- what a line says
blank : said (codes " \t# x = 1") ≡ nothing
blank = refl

section : said (codes " [ a b ] c # d") ≡ opens (codes "a b")
section = refl

setting : said (codes " a b = c d # e") ≡ sets None (codes "a b") (codes "c d")
setting = refl

-- the comment comes before the `]`
no_bracket : said (codes "[a#b]") ≡ faulty Bracket
no_bracket = refl

no_name : said (codes "[ ]") ≡ faulty Bracket
no_name = refl

-- a file is named behind blanks and at most one `=`; its name is a value
included : said (codes " .include x # y") ≡ includes (codes "x")
included = refl

included_equals : said (codes ".include\t= = 'x # y'") ≡ includes (codes "= 'x # y'")
included_equals = refl

included_nothing : said (codes ".include=") ≡ includes []
included_nothing = refl

no_file : said (codes ".include # x") ≡ faulty Directive
no_file = refl

directive : said (codes " .pragma = x") ≡ faulty Directive
directive = refl

longer_word : said (codes ".includes x") ≡ faulty Directive
longer_word = refl

no_equals : said (codes "x") ≡ faulty Equals
no_equals = refl

no_equals_before_comment : said (codes "x # = 1") ≡ faulty Equals
no_equals_before_comment = refl

empty_name : said (codes " = 1") ≡ faulty Name
empty_name = refl

empty_section : said (codes ":: n = 1") ≡ faulty Name
empty_section = refl

empty_part : said (codes "s::=1") ≡ faulty Name
empty_part = refl

-- a name is cut at the first `::`, and the blanks beside it stay
two_parts : said (codes "s :: n::m = 1") ≡ sets (Some (codes "s ")) (codes " n::m") (codes "1")
two_parts = refl

-- quotes in a name are bytes, so the `#` begins a comment
quote_in_name : said (codes "a'#b = c'") ≡ faulty Equals
quote_in_name = refl

quote_in_brackets : said (codes "['a] = '") ≡ opens (codes "'a")
quote_in_brackets = refl

-- the first `=` cuts also behind a `\`, and so does the first `]`
slash_before_equals : said (codes "a\\=b=c") ≡ sets None (codes "a\\") (codes "b=c")
slash_before_equals = refl

slash_before_bracket : said (codes "[a\\]b]") ≡ opens (codes "a\\")
slash_before_bracket = refl

-- a name keeps its `\`, and the byte behind it is no comment and no blank
escapes_in_name : said (codes "a\\#\\  = 1") ≡ sets None (codes "a\\#\\ ") (codes "1")
escapes_in_name = refl

-- a `\` that is left at the end goes first, then the blanks before it
slash_at_the_end : said (codes "x = a  \\") ≡ sets None (codes "x") (codes "a")
slash_at_the_end = refl

slash_alone : said (codes " \\") ≡ nothing
slash_alone = refl

-- the first refused line is the answer, by the number of its first line
first_refused : x_of (codes "x = 1\ny = \\\n2\n[z\n.w") ≡ Err (Line 4 Bracket)
first_refused = refl
