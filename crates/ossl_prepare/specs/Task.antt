-- What the words of a top call come to, with what it reads: a batch that is ready to be run, or the first error in
-- the order of the checks: the words, the reading of the batch and its limit of bytes, and then those of the batch,
-- its files and its configuration.
use Rattle.std.specs.Prelude.{ℕ, ◌≡◌, ◌⊎◌, ◌<◌, ◌≤◌, nat_lt, Bool, true, false, IfSome, if◌then◌else◌, Option, Some}
use Rattle.std.specs.Prelude.{None, Result, Ok, Err, List, [], length}
use Rattle.ossl_base.specs.Causes.{Rose}
use Rattle.ossl_base.specs.Files.{Entries}
use Rattle.ossl_commands.specs.declared.limit.Limit.TheVariants as limits
use Rattle.ossl_commands.specs.Limit.{most_of}
use Rattle.ossl_conf.specs.Answers.{told}
use Rattle.ossl_conf.specs.Reading.{Answering}
use Rattle.ossl_generate.specs.Generator.{generated}
use Rattle.ossl_prepare.specs.declared.error_line.ErrorLine.{ErrorLine}
use Rattle.ossl_prepare.specs.declared.error_line.ErrorLine.TheVariants.{Usage, Read, Limit}
use Rattle.ossl_prepare.specs.Answered.{IsDue, Then, Told}
use Rattle.ossl_prepare.specs.Due.{◌>>=◌, due_batch}
use Rattle.ossl_prepare.specs.View.{PreparedView}
use Rattle.ossl_words.specs.Commands.{job_of}
use Rattle.ossl_words.specs.declared.job.Job.{Job}
use Rattle.ossl_words.specs.declared.job.Job.TheVariants.{Run, Gen}
use Rattle.ossl_prepare.specs.declared.reading.Task.{Task}

-- the name of the configuration, where one is named
abbrev pub conf_of : Job → Option (List ℕ)
conf_of (Run conf order hits) = conf
conf_of (Gen lines seed callers) = None

-- the stated order, empty where none is
abbrev pub order_of : Job → List ℕ
order_of (Run conf order hits) = order
order_of (Gen lines seed callers) = []

-- a job with all that its run needs
abbrev pub task_with : Job → PreparedView → Task
task_with job prepared = record { job = job; prepared = prepared }

-- 1. Where all is told.

-- the text of the batch: that which is read, within its limit, or that which is generated
abbrev pub text_of : Job → List ℕ → Result (List ℕ) ErrorLine
text_of (Run conf order hits) bytes =
    if nat_lt (most_of limits.Bytes) (length bytes) then Err (Limit limits.Bytes) else Ok bytes
text_of (Gen lines seed callers) bytes = Ok (generated lines seed callers)

abbrev pub due_job : Answering → List ℕ → Option Job → Result Task ErrorLine
due_job files bytes None = Err Usage
due_job files bytes (Some job) =
    text_of job bytes >>= λ text. due_batch files (conf_of job) text >>= λ prepared. Ok (task_with job prepared)

-- by the words, the bytes that the source has left, and what files answer
abbrev pub due_error : Bool → List (List ℕ) → List ℕ → Answering → Result Task ErrorLine
due_error threads words bytes files = due_job files bytes (job_of threads words)

-- 2. Where it is left open what the source and the files give.

-- what a top call has before it: whether its program has threads, the words, the bytes that its source has left,
-- where it tells them, with its count of faults before and after, and its files
pub record Inputs : Type 0 where
  pub threads : Bool
  pub words : List (List ℕ)
  pub left : Option (List ℕ)
  pub before : ℕ
  pub after : ℕ
  pub files : Told

-- the text of the batch may be this, or end in this error: the source failed, which it counted, or had more bytes
-- than the limit
abbrev pub IsText : Option (List ℕ) → ℕ → ℕ → Job → Result (List ℕ) ErrorLine → Type 0
IsText left before after (Run conf order hits) (Ok text) = IfSome left (λ bytes. bytes ≡ text)
    × (length text ≤ most_of limits.Bytes)
IsText left before after (Run conf order hits) (Err Read) = Rose before after
IsText left before after (Run conf order hits) (Err (Limit limits.Bytes)) =
    IfSome left (λ bytes. most_of limits.Bytes < length bytes)
IsText left before after (Run conf order hits) (Err error) = ⊥
IsText left before after (Gen lines seed callers) result = result ≡ Ok (generated lines seed callers)

-- a generated batch has callers
abbrev pub HasCallers : Job → Type 0
HasCallers (Run conf order hits) = Unit {0}
HasCallers (Gen lines seed callers) = 1 ≤ callers

-- whether a job has its batch read
abbrev pub reads_source : Option Job → Bool
reads_source (Some (Run conf order hits)) = true
reads_source other = false

-- words that are not in the command set are usage
abbrev pub job_or : Option Job → Result Job ErrorLine
job_or None = Err Usage
job_or (Some job) = Ok job

abbrev pub IsDueOf : Inputs → Option Job → Result Task ErrorLine → Type 0
IsDueOf inputs None result = result ≡ Err Usage
IsDueOf inputs (Some job) result =
    (text : Result (List ℕ) ErrorLine) × IsText inputs.left inputs.before inputs.after job text
    × Then text (λ t. (prepared : Result PreparedView ErrorLine) × IsDue inputs.files (conf_of job) t prepared
    × (result ≡ prepared >>= λ p. Ok (task_with job p))) result

-- all checks in their order
abbrev pub IsDueRun : Inputs → Result Task ErrorLine → Type 0
IsDueRun inputs result = IsDueOf inputs (job_of inputs.threads inputs.words) result

-- where the source and the files are told it is what they hold, unless one of them failed, which it counted
abbrev pub DueRunIsTold : Type 0
DueRunIsTold = (inputs : Inputs) (bytes : List ℕ) (entries : Entries) (result : Result Task ErrorLine)
    → inputs.left ≡ Some bytes
    → inputs.files.entries ≡ Some entries
    → IsDueRun inputs result
    → (result ≡ due_error inputs.threads inputs.words bytes (told entries))
    ⊎ ((result ≡ Err Read) × (Rose inputs.before inputs.after ⊎ Rose inputs.files.before inputs.files.after))
