-- What a single word says: a number, a caller, a name, data, or an option with its value.
use Rattle.std.specs.Prelude.{ℕ, ◌==◌, nat_lt, Bool, true, false, ◌&&◌, ◌||◌, Option, Some, None, List, [], ◌∷◌, ◌++◌}
use Rattle.std.specs.Prelude.{length, codes, option_map, option_and_then, find, if◌then◌else◌}
use Rattle.std.specs.Char.{is_ascii_alphabetic, is_ascii_alphanumeric, is_ascii_lowercase}
use Rattle.std.specs.List.{list_all, list_any, position_or_len}
use Rattle.std.specs.Result.{result_ok}
use Rattle.std.specs.Str.{bytes_eq}
use Rattle.hex.specs.Hex.{decode_of}
use Rattle.ossl_property.specs.Grammar.{digits_value}
use Rattle.ossl_codes.specs.declared.code.Operation.{Operation}
use Rattle.ossl_codes.specs.declared.code.Operation.TheVariants as operations
use Rattle.ossl_codes.specs.declared.param.Direction.TheVariants.{Encrypt, Decrypt}
use Rattle.ossl_codes.specs.declared.param.KdfMode.TheVariants.{Both, Extract, Expand}
use Rattle.ossl_commands.specs.declared.command.Data.{Data}
use Rattle.ossl_commands.specs.declared.command.Data.TheVariants.{Bytes, Copies, File}
use Rattle.ossl_commands.specs.declared.command.Argument.{Argument}
use Rattle.ossl_commands.specs.declared.command.Argument.TheVariants.{Piece, Retain, Lib, Digest, Cipher, Inner, Key}
use Rattle.ossl_commands.specs.declared.command.Argument.TheVariants.{Iv, Direction as Way, Pad, Salt, Info, Mode, Len}
use Rattle.ossl_commands.specs.declared.option.OptionKind.{OptionKind}
use Rattle.ossl_commands.specs.declared.option.OptionKind.TheVariants as kinds

-- what a table has for a word
abbrev pub looked_up : {A : Type 0} → List (List ℕ × A) → List ℕ → Option A
looked_up table word = option_map (λ row. row.1) (find (λ row. bytes_eq row.0 word) table)

-- a text cut at the first such byte, which goes
abbrev pub cut_at : ℕ → List ℕ → Option (List ℕ × List ℕ)
cut_at separator [] = None
cut_at separator (byte ∷ text) =
    if byte == separator then Some ([], text)
    else option_map (λ parts. (byte ∷ parts.0, parts.1)) (cut_at separator text)

-- a `0` with something behind it
abbrev pub has_leading_zero : List ℕ → Bool
has_leading_zero [] = false
has_leading_zero (byte ∷ []) = false
has_leading_zero (byte ∷ next ∷ text) = byte == 48

-- a number: 1 to 9 decimal digits without a leading zero, `0` itself excepted
abbrev pub number_of : List ℕ → Option ℕ
number_of word = if has_leading_zero word || nat_lt 9 (length word) then None else digits_value 10 word

abbrev pub positive : ℕ → Option ℕ
positive n = if n == 0 then None else Some n

-- a caller's number is at least 1
abbrev pub caller_of : List ℕ → Option ℕ
caller_of word = option_and_then positive (number_of word)

-- a letter, a digit or `_`
abbrev pub is_name_byte : ℕ → Bool
is_name_byte byte = is_ascii_alphanumeric byte || byte == 95

-- a name: a letter followed by letters, digits or `_`, at most 32 bytes
abbrev pub is_name : List ℕ → Bool
is_name [] = false
is_name (byte ∷ text) = is_ascii_alphabetic byte && list_all is_name_byte text && nat_lt (length (byte ∷ text)) 33

abbrev pub name_of : List ℕ → Option (List ℕ)
name_of word = if is_name word then Some word else None

-- a text that is not empty
abbrev pub some_text : List ℕ → Option (List ℕ)
some_text [] = None
some_text (byte ∷ text) = Some (byte ∷ text)

abbrev pub operation_of : List ℕ → Option Operation
operation_of =
    looked_up (
    (codes "digest", operations.Digest)
    ∷ (codes "cipher", operations.Cipher)
    ∷ (codes "mac", operations.Mac)
    ∷ (codes "kdf", operations.Kdf)
    ∷ []
    )

-- an even number of hexadecimal digits of either case
abbrev pub hex_of : List ℕ → Option (List ℕ)
hex_of text = result_ok (decode_of text)

-- so many copies of the byte that two digits say
abbrev pub copies_of : Option ℕ → Option (List ℕ) → Option Data
copies_of (Some count) (Some (byte ∷ [])) = Some (Copies count byte)
copies_of count bytes = None

-- files by their names, each once, in the order of their first naming
abbrev pub Files : Type 0
Files = List (List ℕ)

-- the place of a file among these; one that is not among them comes behind them
abbrev pub place_of : Files → List ℕ → ℕ
place_of files name = position_or_len (bytes_eq name) files

-- these files when one more is named
abbrev pub with_file : Files → List ℕ → Files
with_file files name = if list_any (bytes_eq name) files then files else files ++ name ∷ []

-- what a word says that names no file, with the files that are named by then
abbrev pub plain : {A : Type 0} → Files → Option A → Option (A × Files)
plain files said = option_map (λ value. (value, files)) said

-- a file that is named, by its place, with the files that are named by then
abbrev pub named : Files → List ℕ → Data × Files
named files name = (File (place_of files name), with_file files name)

-- the forms of data, where these files are named before: `hex:DIGITS`, `text:BYTES`, `rep:N:HH` and `file:NAME`
abbrev pub data_forms : Files → List (List ℕ × (List ℕ → Option (Data × Files)))
data_forms files =
    (codes "hex", λ text. plain files (option_map Bytes (hex_of text)))
    ∷ (codes "text", λ text. plain files (Some (Bytes text)))
    ∷ (
      codes "rep",
      λ text.
          plain files (option_and_then (λ parts. copies_of (number_of parts.0) (hex_of parts.1)) (cut_at 58 text)),
    )
    ∷ (codes "file", λ text. option_map (named files) (some_text text))
    ∷ []

abbrev pub data_of : Files → List ℕ → Option (Data × Files)
data_of files word =
    option_and_then (λ parts. option_and_then (λ form. form parts.1) (looked_up (data_forms files) parts.0))
    (cut_at 58 word)

-- an argument that data makes
abbrev pub from_data : (Data → Argument) → Option (Data × Files) → Option (Argument × Files)
from_data make read = option_map (λ read. (make read.0, read.1)) read

-- the options by their names
abbrev pub option_kind_of : List ℕ → Option OptionKind
option_kind_of =
    looked_up (
    (codes "lib", kinds.Lib)
    ∷ (codes "digest", kinds.Digest)
    ∷ (codes "cipher", kinds.Cipher)
    ∷ (codes "inner", kinds.Inner)
    ∷ (codes "key", kinds.Key)
    ∷ (codes "iv", kinds.Iv)
    ∷ (codes "dir", kinds.Direction)
    ∷ (codes "pad", kinds.Pad)
    ∷ (codes "salt", kinds.Salt)
    ∷ (codes "info", kinds.Info)
    ∷ (codes "mode", kinds.Mode)
    ∷ (codes "len", kinds.Len)
    ∷ []
    )

-- how the value of each is read
abbrev pub option_form : OptionKind → Files → List ℕ → Option (Argument × Files)
option_form kinds.Lib files value = plain files (option_map Lib (number_of value))
option_form kinds.Digest files value = plain files (option_map Digest (some_text value))
option_form kinds.Cipher files value = plain files (option_map Cipher (some_text value))
option_form kinds.Inner files value = plain files (option_map Inner (name_of value))
option_form kinds.Key files value = from_data Key (data_of files value)
option_form kinds.Iv files value = from_data Iv (data_of files value)
option_form kinds.Direction files value =
    plain files (option_map Way (looked_up ((codes "encrypt", Encrypt) ∷ (codes "decrypt", Decrypt) ∷ []) value))
option_form kinds.Pad files value =
    plain files (option_map Pad (looked_up ((codes "yes", true) ∷ (codes "no", false) ∷ []) value))
option_form kinds.Salt files value = from_data Salt (data_of files value)
option_form kinds.Info files value = from_data Info (data_of files value)
option_form kinds.Mode files value =
    plain files (option_map Mode (
    looked_up ((codes "both", Both) ∷ (codes "extract", Extract) ∷ (codes "expand", Expand) ∷ []) value))
option_form kinds.Len files value = plain files (option_map Len (number_of value))

abbrev pub option_of : Files → List ℕ → List ℕ → Option (Argument × Files)
option_of files name value = option_and_then (λ kind. option_form kind files value) (option_kind_of name)

-- the name of an option; other arguments have none
abbrev pub option_name : Argument → List ℕ
option_name (Piece given) = []
option_name Retain = []
option_name (Lib n) = codes "lib"
option_name (Digest name) = codes "digest"
option_name (Cipher name) = codes "cipher"
option_name (Inner name) = codes "inner"
option_name (Key given) = codes "key"
option_name (Iv given) = codes "iv"
option_name (Way way) = codes "dir"
option_name (Pad padded) = codes "pad"
option_name (Salt given) = codes "salt"
option_name (Info given) = codes "info"
option_name (Mode mode) = codes "mode"
option_name (Len n) = codes "len"

-- one or more lower-case letters
abbrev pub is_lower : List ℕ → Bool
is_lower name = nat_lt 0 (length name) && list_all is_ascii_lowercase name

-- an option word is one or more lower-case letters followed by `=`: its name and its value
abbrev pub option_word : List ℕ → Option (List ℕ × List ℕ)
option_word word = option_and_then (λ parts. if is_lower parts.0 then Some parts else None) (cut_at 61 word)
