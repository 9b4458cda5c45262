-- The limits of a run, as an error line names them, and the greatest amounts that do not pass them.
use Rattle.std.specs.Prelude.{ℕ, List, codes}
use Rattle.ossl_commands.specs.declared.limit.Limit.{Limit}
use Rattle.ossl_commands.specs.declared.limit.Limit.TheVariants.{Bytes, Lines, Callers, Contexts, Line, Total, File}
use Rattle.ossl_commands.specs.declared.limit.Limit.TheVariants.{Configuration}

abbrev pub limit_word : Limit → List ℕ
limit_word Bytes = codes "bytes"
limit_word Lines = codes "lines"
limit_word Callers = codes "callers"
limit_word Contexts = codes "contexts"
limit_word Line = codes "line"
limit_word Total = codes "total"
limit_word File = codes "file"
limit_word Configuration = codes "configuration"

abbrev pub most_of : Limit → ℕ
most_of Bytes = 16777216
most_of Lines = 65536
most_of Callers = 16
most_of Contexts = 8
most_of Line = 4194304
most_of Total = 67108864
most_of File = 4194304
most_of Configuration = 1048576
