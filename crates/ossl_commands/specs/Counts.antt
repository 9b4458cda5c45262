-- How much a batch names: its lines, callers and library contexts.
use Rattle.std.specs.Prelude.{ℕ, ◌+◌, max, Option, Some, None, List, [], ◌∷◌, length, map, fold, filter, filter_map}
use Rattle.std.specs.Prelude.{flat_map, nat_eq, if◌then◌else◌}
use Rattle.std.specs.Str.Lines.{lines}
use Rattle.ossl_commands.specs.declared.command.Argument.{Argument}
use Rattle.ossl_commands.specs.declared.command.Argument.TheVariants.{Piece, Lib, Key, Iv, Salt, Info}
use Rattle.ossl_commands.specs.declared.command.Command.{Command}
use Rattle.ossl_commands.specs.declared.command.Command.TheVariants.{Load, Default, Fetch, Open, Feed, CloseLib}
use Rattle.ossl_commands.specs.declared.command.Command.TheVariants.{Perform}
use Rattle.ossl_commands.specs.declared.command.Data.{Data}
use Rattle.ossl_commands.specs.declared.command.Line.{Line}

-- the greatest of these numbers, 0 where there are none
abbrev pub greatest : List ℕ → ℕ
greatest numbers = fold max 0 numbers

-- all lines of a text, skipped ones too
abbrev pub line_count : List ℕ → ℕ
line_count text = length (lines text)

-- the greatest caller that is named, 0 where there is no command
abbrev pub callers_of : List Line → ℕ
callers_of commands = greatest (map (λ line. line.caller) commands)

-- the words of a command behind its fixed ones
abbrev pub arguments_in : Command → List Argument
arguments_in (Open used bound arguments) = arguments
arguments_in (Feed used arguments) = arguments
arguments_in (Perform operation algorithm arguments query) = arguments
arguments_in command = []

abbrev pub lib_in : Argument → Option ℕ
lib_in (Lib n) = Some n
lib_in argument = None

-- the library contexts that a command names
abbrev pub libs_in : Command → List ℕ
libs_in (Load n provider bound retain) = n ∷ []
libs_in (Default n query) = n ∷ []
libs_in (Fetch n operation algorithm bound query) = n ∷ []
libs_in (CloseLib n) = n ∷ []
libs_in command = filter_map lib_in (arguments_in command)

-- 1 plus the greatest library context that is named, at least 1
abbrev pub contexts_of : List Line → ℕ
contexts_of commands = 1 + greatest (flat_map (λ line. libs_in line.command) commands)

-- the data that an argument gives
abbrev pub data_in : Argument → Option Data
data_in (Piece given) = Some given
data_in (Key given) = Some given
data_in (Iv given) = Some given
data_in (Salt given) = Some given
data_in (Info given) = Some given
data_in argument = None

-- the lines of a caller
abbrev pub lines_of : ℕ → List Line → List Line
lines_of caller lines = filter (λ line. nat_eq line.caller caller) lines

-- their places, where the first of all lines has this one
abbrev pub own_places : ℕ → ℕ → List Line → List ℕ
own_places caller place [] = []
own_places caller place (line ∷ lines) =
    if nat_eq line.caller caller then place ∷ own_places caller (place + 1) lines
    else own_places caller (place + 1) lines
