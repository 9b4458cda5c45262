-- How much a batch declares, and the first limit that it passes.
use Rattle.std.specs.Prelude.{ℕ, ◌-◌, ◌^◌, min, nat_lt, Option, Some, None, List, [], ◌∷◌, ◌++◌, length, map}
use Rattle.std.specs.Prelude.{slice_index, sum, sum_by, if◌then◌else◌}
use Rattle.ossl_commands.specs.declared.command.Argument.{Argument}
use Rattle.ossl_commands.specs.declared.command.Argument.TheVariants.{Len}
use Rattle.ossl_commands.specs.declared.command.Data.{Data}
use Rattle.ossl_commands.specs.declared.command.Data.TheVariants.{Bytes, Copies, File}
use Rattle.ossl_commands.specs.declared.command.Line.{Line}
use Rattle.ossl_commands.specs.declared.limit.Limit.{Limit}
use Rattle.ossl_commands.specs.declared.limit.Limit.TheVariants as limits
use Rattle.ossl_commands.specs.Counts.{greatest, callers_of, contexts_of, arguments_in, data_in}
use Rattle.ossl_commands.specs.Limit.{most_of}

-- the bytes that data stands for, given the lengths of files in the order of their first naming; a file without a
-- length counts 0
abbrev pub data_length : List ℕ → Data → ℕ
data_length lengths (Bytes bytes) = length bytes
data_length lengths (Copies count byte) = count
data_length lengths (File place) = slice_index lengths place

abbrev pub given_length : List ℕ → Option Data → ℕ
given_length lengths None = 0
given_length lengths (Some given) = data_length lengths given

-- the bytes that an argument declares; `len` counts whatever the mode
abbrev pub declared_by : List ℕ → Argument → ℕ
declared_by lengths (Len n) = n
declared_by lengths argument = given_length lengths (data_in argument)

abbrev pub declared_in : List ℕ → Line → ℕ
declared_in lengths line = sum_by (declared_by lengths) (arguments_in line.command)

-- an amount as a number of 64 bits holds it: one that is greater than all of these is held as the greatest
abbrev pub capped : ℕ → ℕ
capped n = min n (2 ^ 64 - 1)

-- the first of these amounts that passes its limit
abbrev pub first_passed : List (ℕ × Limit) → Option Limit
first_passed [] = None
first_passed (measured ∷ more) = if nat_lt (most_of measured.1) measured.0 then Some measured.1 else first_passed more

-- what all lines, with these lengths of files, amount to, in the order in which limits are named
abbrev pub amounts : ℕ → List Line → List ℕ → List (ℕ × Limit)
amounts lines commands lengths =
    let declared = map (declared_in lengths) commands in
    (lines, limits.Lines)
    ∷ (callers_of commands, limits.Callers)
    ∷ (contexts_of commands, limits.Contexts)
    ∷ (greatest declared, limits.Line)
    ∷ (sum declared, limits.Total)
    ∷ []

-- what the text alone amounts to, then each file in order, and then the whole with the lengths of its files
abbrev pub passed_limit : ℕ → List Line → List ℕ → Option Limit
passed_limit lines commands lengths =
    first_passed (
    amounts lines commands [] ++ map (λ size. (size, limits.File)) lengths ++ amounts lines commands lengths)
