-- The error lines, with the statuses at which they are written.
use Rattle.std.specs.Prelude.{ℕ, List, ◌++◌, codes}
use Rattle.std.specs.Fmt.{decimal}
use Rattle.ossl_base.specs.declared.files.FileRefusal.TheVariants as files
use Rattle.ossl_conf.specs.declared.refusal.ConfRefused.{ConfRefused}
use Rattle.ossl_conf.specs.declared.refusal.ConfRefused.TheVariants.{File}
use Rattle.ossl_conf.specs.declared.refusal.ConfRefused.TheVariants as conf
use Rattle.ossl_prepare.specs.declared.refused.Refused.{Refused}
use Rattle.ossl_prepare.specs.declared.refused.Refused.TheVariants.{Error, NoMemory}
use Rattle.ossl_conf.specs.Refused.{refusal_text, shown}
use Rattle.ossl_commands.specs.Kind.{kind_word}
use Rattle.ossl_commands.specs.Limit.{limit_word}
use Rattle.ossl_commands.specs.declared.limit.Limit.TheVariants as limits
use Rattle.ossl_prepare.specs.declared.error_line.ErrorLine.{ErrorLine}
use Rattle.ossl_prepare.specs.declared.error_line.ErrorLine.TheVariants.{Usage, Read, Configuration, Batch, Limit}
use Rattle.ossl_prepare.specs.declared.error_line.ErrorLine.TheVariants.{Provider}

abbrev pub error_status : ErrorLine → ℕ
error_status Usage = 2
error_status Read = 3
error_status (Configuration refusal) = 5
error_status (Batch number kind) = 6
error_status (Limit limit) = 7
error_status (Provider name) = 8

-- the line with its line feed; a byte of a name outside 33 to 126 is shown as `?`
abbrev pub error_text : ErrorLine → List ℕ
error_text Usage = codes "error usage\n"
error_text Read = codes "error read\n"
error_text (Configuration refusal) = refusal_text refusal
error_text (Batch number kind) =
    codes "error batch line " ++ decimal number ++ codes " " ++ kind_word kind ++ codes "\n"
error_text (Limit limit) = codes "error limit " ++ limit_word limit ++ codes "\n"
error_text (Provider name) = codes "error provider " ++ shown name ++ codes "\n"

-- why a configuration is refused, as an error line says it: an included file that could not be read, or that passes
-- the limit of bytes, is one that every file may be refused for
abbrev pub configuration_error : ConfRefused → ErrorLine
configuration_error (File name files.Failed) = Read
configuration_error (File name files.TooLong) = Limit limits.Configuration
configuration_error refusal = Configuration refusal

-- the same, with want of memory, which has no line
abbrev pub configuration_refused : ConfRefused → Refused
configuration_refused conf.NoMemory = NoMemory
configuration_refused (File name files.NoMemory) = NoMemory
configuration_refused refusal = Error (configuration_error refusal)
