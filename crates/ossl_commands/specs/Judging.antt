-- The commands that a text says, or its first faulty line with the first kind of fault that applies.
use Rattle.std.specs.Prelude.{ℕ, ◌≡◌, ⊤, ◌+◌, Bool, true, false, not, ◌&&◌, ◌||◌, Option, Some, None, is_some, is_none}
use Rattle.std.specs.Prelude.{unwrap_or, ok_or, option_and_then, Result, Ok, Err, List, [], ◌∷◌, ◌++◌, drop, slice_get}
use Rattle.std.specs.Prelude.{codes, if◌then◌else◌}
use Rattle.std.specs.List.{list_any, list_all}
use Rattle.std.specs.Str.{bytes_eq}
use Rattle.std.specs.Str.Lines.{lines}
use Rattle.ossl_commands.specs.declared.command.Argument.{Argument}
use Rattle.ossl_commands.specs.declared.command.Argument.TheVariants.{Piece, Retain}
use Rattle.ossl_commands.specs.declared.command.Command.{Command}
use Rattle.ossl_commands.specs.declared.command.Line.{Line}
use Rattle.ossl_commands.specs.declared.command.Verb.{Verb}
use Rattle.ossl_commands.specs.declared.kind.LineKind.{LineKind}
use Rattle.ossl_commands.specs.declared.kind.LineKind.TheVariants as kinds
use Rattle.ossl_commands.specs.declared.kind.LineRefused.{LineRefused}
use Rattle.ossl_commands.specs.declared.kind.LineRefused.TheVariants.{Faulty, NoMemory}
use Rattle.ossl_commands.specs.declared.kind.ScriptRefused.{ScriptRefused}
use Rattle.ossl_commands.specs.declared.kind.ScriptRefused.TheVariants as refusals
use Rattle.ossl_commands.specs.declared.table.Colon.{Colon}
use Rattle.ossl_commands.specs.declared.table.Colon.TheVariants.{Never, May, Must}
use Rattle.ossl_commands.specs.declared.table.Others.{Others}
use Rattle.ossl_commands.specs.declared.table.Others.TheVariants as others
use Rattle.ossl_commands.specs.Lines.{is_allowed, is_skipped, before_query, query_text, words_of}
use Rattle.ossl_commands.specs.Words.{Files, caller_of, data_of, from_data, option_of, option_name, option_word}
use Rattle.ossl_commands.specs.Table.{Row, verb_of, row_of, filled}

-- a line's first fault
pub record Fault : Type 0 where
  pub number : ℕ
  pub kind : LineKind

-- the next step is taken where this one finds no fault
infixl 10 ◌>>=◌
abbrev pub ◌>>=◌ : {E A B : Type 0} → Result A E → (A → Result B E) → Result B E
(Ok x) >>= f = f x
(Err fault) >>= f = Err fault

-- why a line was refused: its fault, or want of memory, which says nothing of it
abbrev pub IsFault : {A : Type 0} → LineRefused → Result A LineKind → Type 0
IsFault (Faulty kind) said = said ≡ Err kind
IsFault NoMemory said = ⊤

abbrev pub holds : Bool → LineKind → Result Bool LineKind
holds test kind = if test then Ok true else Err kind

-- whether a `:` stands or not as it has to
abbrev pub is_placed : Colon → Option (List ℕ) → Bool
is_placed Never query = is_none query
is_placed May query = true
is_placed Must query = is_some query

-- whether a word stands behind the fixed ones where one has to
abbrev pub is_enough : Others → List (List ℕ) → Bool
is_enough others.SomePieces [] = false
is_enough kind words = true

-- an inner digest and an inner cipher exclude each other
abbrev pub is_inner : List ℕ → Bool
is_inner option = bytes_eq option (codes "digest") || bytes_eq option (codes "cipher")

abbrev pub excludes : List ℕ → List ℕ → Bool
excludes option other = bytes_eq option other || (is_inner option && is_inner other)

-- an option that the command has, that no argument before it excludes, and whose value is good
abbrev pub option_argument : Row → Files → List Argument → List ℕ → List ℕ → Option (Argument × Files)
option_argument row files before option value =
    if list_any (bytes_eq option) row.options
    && not (list_any (λ argument. excludes option (option_name argument)) before)
    then option_of files option value
    else None

-- a word that is no option
abbrev pub other_argument : Others → Files → List Argument → List ℕ → Result (Argument × Files) LineKind
other_argument others.Nothing files before word = Err kinds.Arguments
other_argument others.Retain files [] word =
    if bytes_eq word (codes "retain") then Ok (Retain, files) else Err kinds.Arguments
other_argument others.Retain files (argument ∷ before) word = Err kinds.Arguments
other_argument others.Pieces files before word = ok_or (from_data Piece (data_of files word)) kinds.Data
other_argument others.SomePieces files before word = ok_or (from_data Piece (data_of files word)) kinds.Data

abbrev pub argument_of : Row → Files → List Argument → List ℕ → Option (List ℕ × List ℕ)
    → Result (Argument × Files) LineKind
argument_of row files before word None = other_argument row.others files before word
argument_of row files before word (Some parts) = ok_or (option_argument row files before parts.0 parts.1) kinds.Option

-- the words behind the fixed ones, looked at one by one from the left, with the files that are named by then
abbrev pub arguments_of : Row → Files → List Argument → List (List ℕ) → Result (List Argument × Files) LineKind
arguments_of row files before [] = Ok (before, files)
arguments_of row files before (word ∷ words) =
    argument_of row files before word (option_word word)
    >>= λ read. arguments_of row read.1 (before ++ read.0 ∷ []) words

-- the last two of five steps: the words behind the command's own, and the query text
abbrev pub command_in : Verb → Files → List (List ℕ) → Option (List ℕ) → Result (Command × Files) LineKind
command_in verb files words query =
    let row = row_of verb in
    ok_or (row.fixed words) kinds.Arguments >>= λ begun.
    holds (is_placed row.colon query && is_enough row.others begun.1) kinds.Arguments >>= λ placed.
    arguments_of row files [] begun.1 >>= λ read.
    Ok (filled read.0 (unwrap_or query []) begun.0, read.1)

-- what a line says: its caller, its command, and the files that are named by then
pub record Said : Type 0 where
  pub caller : ℕ
  pub command : Command
  pub files : Files

-- a line is judged in five steps: its bytes, its caller, its command, the fixed words and the query, and the other
-- words
abbrev pub judged : Files → List ℕ → Result Said LineKind
judged files line =
    let words = words_of (before_query true line) in
    holds (list_all is_allowed line) kinds.Byte >>= λ allowed.
    ok_or (option_and_then caller_of (slice_get words 0)) kinds.Caller >>= λ caller.
    ok_or (option_and_then verb_of (slice_get words 1)) kinds.Command >>= λ verb.
    command_in verb files (drop 2 words) (query_text true line) >>= λ read.
    Ok (record { caller = caller; command = read.0; files = read.1 })

-- the commands of a text, numbered, and the files that they name
pub record Commands : Type 0 where
  pub lines : List Line
  pub files : Files

-- a line with its number before the commands behind it, or its fault
abbrev pub numbered : ℕ → Result Said LineKind → (Files → Result Commands Fault) → Result Commands Fault
numbered number (Ok said) later = later said.files >>= λ more. Ok (record {
  lines = record { number = number; caller = said.caller; command = said.command } ∷ more.lines;
  files = more.files;
})
numbered number (Err kind) later = Err (record { number = number; kind = kind })

-- commands before others, or the fault of these
abbrev pub continued : List Line → Result Commands Fault → Result Commands Fault
continued done later = later >>= λ more. Ok (record { lines = done ++ more.lines; files = more.files })

-- the lines from this number on, where these files are named before
abbrev pub commands_from : ℕ → Files → List (List ℕ) → Result Commands Fault
commands_from number files [] = Ok (record { lines = []; files = files })
commands_from number files (line ∷ lines) =
    if is_skipped line
    then commands_from (number + 1) files lines
    else numbered number (judged files line) (λ named. commands_from (number + 1) named lines)

-- the numbered commands of a text with the files that they name, or its first faulty line; lines are numbered from 1,
-- and skipped ones count
abbrev pub commands_of : List ℕ → Result Commands Fault
commands_of text = commands_from 1 [] (lines text)

-- the refusal of a text whose line of this number was refused
abbrev pub refusal_at : ℕ → LineRefused → ScriptRefused
refusal_at number (Faulty kind) = refusals.Line number kind
refusal_at number NoMemory = refusals.NoMemory

-- why a text was refused: its first faulty line, or want of memory, which says nothing of it
abbrev pub IsRefusal : ScriptRefused → Result Commands Fault → Type 0
IsRefusal (refusals.Line number kind) said = said ≡ Err (record { number = number; kind = kind })
IsRefusal refusals.NoMemory said = ⊤
