-- What a logical line says.
use Rattle.std.specs.Prelude.{ℕ, ◌==◌, nat_eq, Bool, false, true, ◌&&◌, ◌||◌, Option, Some, None, List, [], ◌∷◌, codes}
use Rattle.std.specs.Prelude.{drop, if◌then◌else◌}
use Rattle.std.specs.List.{list_any, before_first, after_first, starts_with}
use Rattle.std.specs.Str.{byte}
use Rattle.ossl_conf.specs.declared.kind.ConfKind.{ConfKind}
use Rattle.ossl_conf.specs.declared.kind.ConfKind.TheVariants.{Bracket, Directive, Equals, Name}
use Rattle.ossl_conf.specs.Counted.{is_blank, past_blanks, ended, counted_value, trimmed}
use Rattle.ossl_conf.specs.Values.{cut_at_colons}

-- what a line says: nothing, that a section is opened, that a name is set (in the current section or in one that is
-- named) to a value that is still to be read, that a file is included whose name is still to be read, or nothing that
-- can be read
pub data Said : Type 0 where
  nothing : Said
  opens : List ℕ → Said
  sets : Option (List ℕ) → List ℕ → List ℕ → Said
  includes : List ℕ → Said
  faulty : ConfKind → Said

-- such a byte is there, also behind a `\`
abbrev pub has : ℕ → List ℕ → Bool
has b text = list_any (λ c. c == b) text

-- the text before the first such byte, also where a `\` stands before it, without the blanks at its ends
abbrev pub name_before : ℕ → List ℕ → List ℕ
name_before b text = trimmed (before_first (λ c. c == b) text)

-- the name of a section is not empty
abbrev pub opens_named : List ℕ → Said
opens_named [] = faulty Bracket
opens_named name = opens name

-- behind a `[`: the name up to `]`; what follows that is passed over
abbrev pub section_said : List ℕ → Said
section_said text = if has (byte "]") text then opens_named (name_before (byte "]") text) else faulty Bracket

-- the two parts of a name `s::n`, neither of which is empty
abbrev pub sets_in : List ℕ → List ℕ → List ℕ → Said
sets_in [] name value = faulty Name
sets_in section [] value = faulty Name
sets_in section name value = sets (Some section) name value

-- a name with its cut, where it has one
abbrev pub sets_cut : Option (List ℕ × List ℕ) → List ℕ → List ℕ → Said
sets_cut None name value = sets None name value
sets_cut (Some cut) name value = sets_in cut.0 cut.1 value

-- a name is not empty; where it holds `::` it is cut at the first one
abbrev pub sets_named : List ℕ → List ℕ → Said
sets_named [] value = faulty Name
sets_named name value = sets_cut (cut_at_colons name) name value

-- `name = value`, cut at the first `=`, by the whole line and what counts of it; quoted parts begin in the value alone
abbrev pub setting_said : List ℕ → List ℕ → Said
setting_said text line =
    if has (byte "=") line then
    sets_named (name_before (byte "=") line) (counted_value (after_first (λ b. b == byte "=") text))
    else faulty Equals

-- a blank or a `=` comes next
abbrev pub begins_name : List ℕ → Bool
begins_name [] = false
begins_name (b ∷ text) = is_blank b || b == byte "="

-- behind one `=`, where that comes next
abbrev pub past_equals : List ℕ → List ℕ
past_equals [] = []
past_equals (b ∷ text) = if b == byte "=" then text else b ∷ text

-- behind a `.`, by the whole line and what counts of it behind the `.`: `include`, and the name of a file behind
-- blanks and at most one `=`. The name is a value, in which quoted parts may begin
abbrev pub directive_said : List ℕ → List ℕ → Said
directive_said text line =
    if starts_with nat_eq line (codes "include") && begins_name (drop 7 line) then
    includes (counted_value (past_equals (past_blanks (drop 8 text))))
    else faulty Directive

-- what a line without the blanks at its front says by its first byte that counts
abbrev pub said_by : List ℕ → List ℕ → Said
said_by text [] = nothing
said_by text (b ∷ line) =
    if b == byte "[" then section_said line
    else if b == byte "." then directive_said text line
    else setting_said text (b ∷ line)

-- what a logical line says
abbrev pub said : List ℕ → Said
said text = let line = past_blanks text in said_by line (ended false true line)
