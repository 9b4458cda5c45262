-- The kinds of faulty lines, as an error line names them.
use Rattle.std.specs.Prelude.{ℕ, List, codes}
use Rattle.ossl_commands.specs.declared.kind.LineKind.{LineKind}
use Rattle.ossl_commands.specs.declared.kind.LineKind.TheVariants.{Byte, Caller, Command, Arguments, Option, Data}

abbrev pub kind_word : LineKind → List ℕ
kind_word Byte = codes "byte"
kind_word Caller = codes "caller"
kind_word Command = codes "command"
kind_word Arguments = codes "arguments"
kind_word Option = codes "option"
kind_word Data = codes "data"
