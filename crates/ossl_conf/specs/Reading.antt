-- The reading of all lines of a text and of the files that it includes, up to the first refused line or file.
use Rattle.std.specs.Prelude.{ℕ, zero, suc, ◌+◌, ◌-◌, nat_lt, Option, Some, None, Result, Ok, Err, List, [], ◌∷◌}
use Rattle.std.specs.Prelude.{length, unwrap_or, if◌then◌else◌}
use Rattle.ossl_base.specs.declared.files.FileRefusal.{FileRefusal}
use Rattle.ossl_conf.specs.declared.kind.ConfKind.TheVariants.{Name, Length, Growth, Depth}
use Rattle.ossl_conf.specs.declared.refusal.ConfRefused.{ConfRefused}
use Rattle.ossl_conf.specs.declared.refusal.ConfRefused.TheVariants.{Line, NoVariable, File}
use Rattle.ossl_conf.specs.Lines.{LogicalLine, logical_lines}
use Rattle.ossl_conf.specs.Values.{parts, replaced, cut_at_colons}
use Rattle.ossl_conf.specs.Sections.{Sections, with_section, with_value, default_section, variable_value}
use Rattle.ossl_conf.specs.Said.{Said, said, nothing, opens, sets, includes, faulty}

-- the greatest length of a value
abbrev pub most_value : ℕ
most_value = 65535

-- the greatest sum of the lengths of all values that are set, those that are set again counted too
abbrev pub most_values : ℕ
most_values = 16777216

-- the greatest number of bytes of the text and all included files together, each counted as often as it is read
abbrev pub most_bytes : ℕ
most_bytes = 1048576

-- the text has depth 0; a file that is included at a depth has the next one, and at this depth none is
abbrev pub most_depth : ℕ
most_depth = 4

-- what was read so far: the current section, all sections, the sum of the lengths of all values set, and how many
-- bytes files may still have
pub record Conf : Type 0 where
  pub current : List ℕ
  pub sections : Sections
  pub total : ℕ
  pub left : ℕ

-- what begins before the first line of a text
abbrev pub nothing_read : List ℕ → Conf
nothing_read text = record { current = default_section; sections = []; total = 0; left = most_bytes - length text }

-- a variable by its cut, where its name has one
abbrev pub value_by_cut : Conf → List ℕ → Option (List ℕ × List ℕ) → Option (List ℕ)
value_by_cut conf written None = variable_value conf.sections conf.current written
value_by_cut conf written (Some cut) = variable_value conf.sections cut.0 cut.1

-- a variable by its name as written: `n` in the current section or in `default`, `s::n` in s or in `default`
abbrev pub value_by_name : Conf → List ℕ → Option (List ℕ)
value_by_name conf written = value_by_cut conf written (cut_at_colons written)

-- every variable is set, and then the value is not too long
abbrev pub checked : ℕ → Result (List ℕ) (List ℕ) → Result (List ℕ) ConfRefused
checked number (Err written) = Err (NoVariable number written)
checked number (Ok value) = if nat_lt most_value (length value) then Err (Line number Length) else Ok value

-- the value that a text has in a line of this number
abbrev pub value_of : Conf → ℕ → List ℕ → Result (List ℕ) ConfRefused
value_of conf number text = checked number (replaced (value_by_name conf) (parts text))

-- the first step, and the second one behind it where the first is not refused
infixl 10 ◌>>=◌
abbrev pub ◌>>=◌ : {A B : Type 0} → Result A ConfRefused → (A → Result B ConfRefused) → Result B ConfRefused
(Ok x) >>= f = f x
(Err refusal) >>= f = Err refusal

-- a section is opened, and is the current one
abbrev pub after_opening : Conf → List ℕ → Conf
after_opening conf name = record conf { current = name; sections = with_section name conf.sections }

-- a name has a value, where all values together are not too long
abbrev pub after_setting : Conf → ℕ → List ℕ → List ℕ → List ℕ → Result Conf ConfRefused
after_setting conf number section name value =
    let total = conf.total + length value in
    if nat_lt most_values total then Err (Line number Growth)
    else Ok (record conf { sections = with_value section name value conf.sections; total = total })

-- the name of a file is not empty
abbrev pub file_name : ℕ → List ℕ → Result (List ℕ) ConfRefused
file_name number [] = Err (Line number Name)
file_name number name = Ok name

-- the name of a file that a text has in a line of this number
abbrev pub file_of : Conf → ℕ → List ℕ → Result (List ℕ) ConfRefused
file_of conf number text = value_of conf number text >>= λ name. file_name number name

-- what was read after a line that includes no file
abbrev pub after_plain : Conf → ℕ → Said → Result Conf ConfRefused
after_plain conf number nothing = Ok conf
after_plain conf number (opens name) = Ok (after_opening conf name)
after_plain conf number (sets section name text) =
    value_of conf number text >>= λ value. after_setting conf number (unwrap_or section conf.current) name value
after_plain conf number (includes text) = Ok conf
after_plain conf number (faulty kind) = Err (Line number kind)

-- what files answer: to a name, and how many bytes the content may have
abbrev pub Answering : Type 0
Answering = List ℕ → ℕ → Result (List ℕ) FileRefusal

-- what an include of this name does, in a line of this number
abbrev pub Including : Type 0
Including = Conf → ℕ → List ℕ → Result Conf ConfRefused

-- what was read after a line
abbrev pub after_line : Including → Conf → ℕ → Said → Result Conf ConfRefused
after_line including conf number (includes text) = file_of conf number text >>= λ name. including conf number name
after_line including conf number line = after_plain conf number line

-- what was read after these lines; the first refused one is the answer
abbrev pub after_lines : Including → Conf → List LogicalLine → Result Conf ConfRefused
after_lines including conf [] = Ok conf
after_lines including conf (line ∷ lines) =
    after_line including conf line.number (said line.text) >>= λ next. after_lines including next lines

-- the content of a file, or why it is refused
abbrev pub content_of : List ℕ → Result (List ℕ) FileRefusal → Result (List ℕ) ConfRefused
content_of name (Ok content) = Ok content
content_of name (Err refusal) = Err (File name refusal)

-- a file of this length is being read: so many bytes fewer may follow
abbrev pub within_file : Conf → List ℕ → Conf
within_file conf content = record conf { left = conf.left - length content }

-- a file was read: the section that was current before it is current again
abbrev pub after_file : Conf → Conf → Conf
after_file conf inner = record inner { current = conf.current }

-- a file is included where so many depths may follow: its lines stand in place of the line
abbrev pub including : Answering → ℕ → Including
including files zero conf number name = Err (Line number Depth)
including files (suc depths) conf number name =
    content_of name (files name conf.left) >>= λ content.
    after_lines (including files depths) (within_file conf content) (logical_lines content) >>= λ inner.
    Ok (after_file conf inner)

-- the sections of a text, where files answer so
abbrev pub sections_of : Answering → List ℕ → Result Sections ConfRefused
sections_of files text =
    after_lines (including files most_depth) (nothing_read text) (logical_lines text) >>= λ conf. Ok conf.sections
