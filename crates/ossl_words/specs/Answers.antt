-- What a step of the reading answers.
use Rattle.std.specs.Prelude.{◌≡◌, List, [], Option, Some, None, Result, Ok, Err, ⊤}
use Rattle.clap.specs.Walk.{Text}
use Rattle.clap.specs.Simple.{App, subcommand_of, subcommand_rows_of}
use Rattle.clap.specs.Faults.{fault_of}
use Rattle.clap.specs.declared.parser.matches.ArgMatches.{ArgMatches}
use Rattle.ossl_words.specs.declared.job.WordsRefused.{WordsRefused}
use Rattle.ossl_words.specs.declared.job.WordsRefused.TheVariants.{Usage, NoMemory}

-- what is said, or a refusal exactly where nothing is, but for want of memory
abbrev pub Answers : {A : Type 0} → Result A WordsRefused → Option A → Type 0
Answers (Ok answer) said = said ≡ Some answer
Answers (Err Usage) said = said ≡ None
Answers (Err NoMemory) said = ⊤

-- what was found in the words, or a refusal exactly where `clap` refuses them, but for want of memory
abbrev pub ParsesTo : App → List Text → Result ArgMatches WordsRefused → Type 0
ParsesTo app words (Ok found) = (fault_of app words ≡ []) × (subcommand_rows_of found ≡ subcommand_of app words)
ParsesTo app words (Err Usage) = fault_of app words ≡ [] → ⊥
ParsesTo app words (Err NoMemory) = ⊤
