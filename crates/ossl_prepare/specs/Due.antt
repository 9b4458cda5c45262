-- What the text of a batch and the name of a configuration come to: a batch that is ready to be run, or the first
-- error line in the order of the checks: the text, the limits that it shows alone, its files in the order of their
-- first naming, the limits with their lengths, and the configuration.
use Rattle.std.specs.Prelude.{ℕ, Option, Some, None, Result, Ok, Err, List, [], ◌∷◌, ◌++◌, length, map}
use Rattle.ossl_base.specs.declared.files.FileRefusal.{FileRefusal}
use Rattle.ossl_base.specs.declared.files.FileRefusal.TheVariants as refusals
use Rattle.ossl_conf.specs.declared.refusal.ConfRefused.{ConfRefused}
use Rattle.ossl_conf.specs.Reading.{Answering}
use Rattle.ossl_conf.specs.Settings.{settings_of}
use Rattle.ossl_conf.specs.View.{SettingsView}
use Rattle.ossl_commands.specs.declared.limit.Limit as limit
use Rattle.ossl_commands.specs.declared.limit.Limit.TheVariants as limits
use Rattle.ossl_commands.specs.Counts.{line_count}
use Rattle.ossl_commands.specs.Fits.{passed_limit}
use Rattle.ossl_commands.specs.Judging.{Commands, Fault, commands_of}
use Rattle.ossl_commands.specs.Limit.{most_of}
use Rattle.ossl_commands.specs.View.{ScriptView}
use Rattle.ossl_prepare.specs.declared.error_line.ErrorLine.{ErrorLine}
use Rattle.ossl_prepare.specs.declared.error_line.ErrorLine.TheVariants.{Read, Batch, Limit}
use Rattle.ossl_prepare.specs.ErrorLine.{configuration_error}
use Rattle.ossl_prepare.specs.View.{PreparedView}

-- the first step, and the second one behind it where the first ends in no error
infixl 10 ◌>>=◌
abbrev pub ◌>>=◌ : {A B : Type 0} → Result A ErrorLine → (A → Result B ErrorLine) → Result B ErrorLine
(Ok x) >>= f = f x
(Err error) >>= f = Err error

abbrev pub script_said : ℕ → Result Commands Fault → Result ScriptView ErrorLine
script_said lines (Ok said) = Ok (record { lines = lines; commands = said.lines; files = said.files })
script_said lines (Err fault) = Err (Batch fault.number fault.kind)

-- the commands of a text, or its first faulty line
abbrev pub script_of : List ℕ → Result ScriptView ErrorLine
script_of text = script_said (line_count text) (commands_of text)

-- no limit is passed, or this one is the first
abbrev pub passing : Option limit.Limit → Result (Unit {0}) ErrorLine
passing None = Ok tt
passing (Some first) = Err (Limit first)

-- the limits of a batch, with these lengths of its files; without lengths those that the text alone shows
abbrev pub fitting : ScriptView → List ℕ → Result (Unit {0}) ErrorLine
fitting script lengths = passing (passed_limit script.lines script.commands lengths)

-- a file's content, or why there is none: it could not be read, or it passes this limit; want of memory is no answer
abbrev pub content_or : limit.Limit → Result (List ℕ) FileRefusal → Result (List ℕ) ErrorLine
content_or most (Ok content) = Ok content
content_or most (Err refusals.TooLong) = Err (Limit most)
content_or most (Err refusal) = Err Read

-- what files hold, one after the other, behind those that were read before
abbrev pub contents_from : Answering → List (List ℕ) → List (List ℕ) → Result (List (List ℕ)) ErrorLine
contents_from files done [] = Ok done
contents_from files done (name ∷ names) =
    content_or limits.File (files name (most_of limits.File)) >>= λ content.
    contents_from files (done ++ content ∷ []) names

abbrev pub settings_or : Result SettingsView ConfRefused → Result SettingsView ErrorLine
settings_or (Ok settings) = Ok settings
settings_or (Err refusal) = Err (configuration_error refusal)

-- without a configuration nothing is set
abbrev pub no_settings : SettingsView
no_settings = record { activations = []; default_query = None }

-- what the configuration of this name sets, where one is named
abbrev pub settings_by : Answering → Option (List ℕ) → Result SettingsView ErrorLine
settings_by files None = Ok no_settings
settings_by files (Some name) =
    content_or limits.Configuration (files name (most_of limits.Configuration)) >>= λ text.
    settings_or (settings_of files text)

-- all checks in their order, where files answer so
abbrev pub due_batch : Answering → Option (List ℕ) → List ℕ → Result PreparedView ErrorLine
due_batch files conf text =
    script_of text >>= λ script.
    fitting script [] >>= λ fits.
    contents_from files [] script.files >>= λ contents.
    fitting script (map length contents) >>= λ fits.
    settings_by files conf >>= λ settings.
    Ok (record { script = script; contents = contents; settings = settings })
