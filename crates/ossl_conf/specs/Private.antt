-- What the contracts of private functions cite: what stands for their values, and the state of a value that is being
-- read.
use Rattle.std.specs.Prelude.{◌≡◌, ℕ, ◌+◌, ◌==◌, nat_lt, Bool, true, false, not, Option, Some, None, Result, Ok, Err}
use Rattle.std.specs.Prelude.{List, [], ◌∷◌, length, ⊤}
use Rattle.std.specs.Option.{option_copied}
use Rattle.ossl_property.specs.Bytes.{is_word_byte}
use Rattle.ossl_conf.specs.declared.run.Class.{Class}
use Rattle.ossl_conf.specs.declared.run.Class.TheVariants.{Blank, Word, Not}
use Rattle.ossl_conf.specs.declared.part.Part.{Part as CodePart}
use Rattle.ossl_conf.specs.declared.part.Part.TheVariants.{Bytes, Byte, Variable, Unclosed}
use Rattle.ossl_conf.specs.declared.part.Taken.{Taken as CodeTaken}
use Rattle.ossl_conf.specs.declared.said.Statement.{Statement}
use Rattle.ossl_conf.specs.declared.said.Statement.TheVariants.{Nothing, Opens, Sets, Includes, Faulty}
use Rattle.ossl_conf.specs.Counted.{is_blank}
use Rattle.ossl_conf.specs.Lines.{LogicalLine, lines_at}
use Rattle.ossl_conf.specs.Values.{Part, bytes, variable, unclosed, Taken}
use Rattle.ossl_conf.specs.Said.{Said, nothing, opens, sets, includes, faulty}
use Rattle.ossl_conf.specs.declared.refusal.ConfRefused.{ConfRefused}
use Rattle.ossl_conf.specs.declared.refusal.ConfRefused.TheVariants.{NoVariable, NoMemory}
use Rattle.ossl_conf.specs.Reading.{Conf, most_value}

-- the bytes of a class
abbrev pub in_class : Class → ℕ → Bool
in_class Blank b = is_blank b
in_class Word b = is_word_byte b
in_class (Not other) b = not (b == other)

-- the part that a value of the code stands for
abbrev pub part_of : CodePart → Part
part_of (Bytes text) = bytes text.now
part_of (Byte b) = bytes (b ∷ [])
part_of (Variable name) = variable name.now
part_of (Unclosed name) = unclosed name.now

abbrev pub shown_part : CodeTaken → Taken
shown_part taken = (part_of taken.part, taken.count)

-- what a line says, by a value of the code
abbrev pub shown_said : Statement → Said
shown_said Nothing = nothing
shown_said (Opens name) = opens name.now
shown_said (Sets section name value) = sets (option_copied section) name.now value.now
shown_said (Includes name) = includes name.now
shown_said (Faulty kind) = faulty kind

-- the logical lines behind one, the next of which has this number
abbrev pub lines_behind : ℕ → Option (List ℕ) → List LogicalLine
lines_behind number None = []
lines_behind number (Some text) = lines_at number text

-- the logical lines of a text are this one, made of so many lines, and those of what follows
abbrev pub BeginsWith : ℕ → List ℕ → List ℕ → ℕ → Option (List ℕ) → Type 0
BeginsWith number text line lines rest =
    lines_at number text ≡ record { number = number; text = line } ∷ lines_behind (number + lines) rest

-- what was read after a step that changed it
abbrev pub after : Conf → Result ⊤ ConfRefused → Result Conf ConfRefused
after conf (Ok done) = Ok conf
after conf (Err refusal) = Err refusal

-- what stands for a part was appended, or it is told as a variable without a value
abbrev pub Puts : ℕ → Result (List ℕ) (List ℕ) → (List ℕ → Type 0) → Result ⊤ ConfRefused → Type 0
Puts number said IsPut (Ok done) = (piece : List ℕ) × (said ≡ Ok piece) × IsPut piece
Puts number said IsPut (Err NoMemory) = Unit {0}
Puts number said IsPut (Err refusal) = (written : List ℕ) × (said ≡ Err written) × (refusal ≡ NoVariable number written)

-- the bytes of a value that was read so far, kept only while they are not too many
pub record IsSoFar (bytes : List ℕ) (is_long : Bool) (value : List ℕ) : Type 0 where
  pub long : is_long ≡ nat_lt most_value (length value)
  pub same : is_long ≡ false → bytes ≡ value
