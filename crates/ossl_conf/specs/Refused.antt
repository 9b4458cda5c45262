-- The words of a refusal, and its error line.
use Rattle.std.specs.Prelude.{ℕ, List, [], ◌++◌, map, codes, if◌then◌else◌}
use Rattle.std.specs.Char.{is_ascii_graphic}
use Rattle.std.specs.Fmt.{decimal}
use Rattle.std.specs.Str.{byte}
use Rattle.ossl_conf.specs.declared.kind.ConfKind.{ConfKind}
use Rattle.ossl_conf.specs.declared.kind.ConfKind.TheVariants.{Bracket, Directive, Equals, Name, Length, Growth, Depth}
use Rattle.ossl_conf.specs.declared.refusal.ConfRefused.{ConfRefused}
use Rattle.ossl_conf.specs.declared.refusal.ConfRefused.TheVariants.{Line, NoVariable, NoSection, BadActivate}
use Rattle.ossl_conf.specs.declared.refusal.ConfRefused.TheVariants.{BadQuery, File, NoMemory}
use Rattle.ossl_base.specs.declared.files.FileRefusal.{FileRefusal}
use Rattle.ossl_base.specs.declared.files.FileRefusal.TheVariants as files

-- the word of a kind
abbrev pub kind_text : ConfKind → List ℕ
kind_text Bracket = codes "bracket"
kind_text Directive = codes "directive"
kind_text Equals = codes "equals"
kind_text Name = codes "name"
kind_text Length = codes "length"
kind_text Growth = codes "growth"
kind_text Depth = codes "depth"

-- a byte outside 33 to 126 is shown as `?`
abbrev pub shown_byte : ℕ → ℕ
shown_byte b = if is_ascii_graphic b then b else byte "?"

-- a name or a word as an error line shows it
abbrev pub shown : List ℕ → List ℕ
shown text = map shown_byte text

-- the error line of a file: it could not be read, or it passes the limit of bytes
abbrev pub file_text : FileRefusal → List ℕ
file_text files.Failed = codes "error read\n"
file_text files.TooLong = codes "error limit configuration\n"
file_text files.NoMemory = []

-- the error line, and nothing for want of memory
abbrev pub refusal_text : ConfRefused → List ℕ
refusal_text (Line number kind) =
    codes "error configuration line " ++ decimal number ++ codes " " ++ kind_text kind ++ codes "\n"
refusal_text (NoVariable number name) =
    codes "error configuration line " ++ decimal number ++ codes " variable " ++ shown name ++ codes "\n"
refusal_text (NoSection name) = codes "error configuration section " ++ shown name ++ codes "\n"
refusal_text (BadActivate word) = codes "error configuration activate " ++ shown word ++ codes "\n"
refusal_text (BadQuery place) = codes "error configuration query " ++ decimal place ++ codes "\n"
refusal_text (File name refusal) = file_text refusal
refusal_text NoMemory = []
