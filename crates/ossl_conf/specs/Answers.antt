-- The same reading where it is left open what files answer: they may fail, and files that do not tell their contents
-- may answer a name differently each time.
use Rattle.std.specs.Prelude.{◌≡◌, ◌≤◌, ◌<◌, ℕ, zero, suc, nat_lt, Option, Some, None, Result, Ok, Err, List, [], ◌∷◌}
use Rattle.std.specs.Prelude.{length, if◌then◌else◌}
use Rattle.ossl_base.specs.declared.files.FileRefusal.{FileRefusal}
use Rattle.ossl_base.specs.declared.files.FileRefusal.TheVariants.{Failed, TooLong, NoMemory}
use Rattle.ossl_base.specs.Causes.{Rose}
use Rattle.ossl_base.specs.Files.{Entries, HasContent, LacksName, IsLonger, content_of as told_content}
use Rattle.ossl_conf.specs.declared.kind.ConfKind.TheVariants.{Depth}
use Rattle.ossl_conf.specs.declared.refusal.ConfRefused.{ConfRefused}
use Rattle.ossl_conf.specs.declared.refusal.ConfRefused.TheVariants.{Line, File}
use Rattle.ossl_conf.specs.Lines.{LogicalLine, logical_lines}
use Rattle.ossl_conf.specs.declared.refusal.ConfRefused.TheVariants as refused
use Rattle.ossl_conf.specs.View.{SettingsView}
use Rattle.ossl_conf.specs.Sections.{Sections}
use Rattle.ossl_conf.specs.Said.{Said, said, includes}
use Rattle.ossl_conf.specs.Reading.{Conf, ◌>>=◌, Answering, nothing_read, file_of, after_plain, within_file}
use Rattle.ossl_conf.specs.Reading.{after_file, content_of, most_depth}
use Rattle.ossl_conf.specs.Settings.{settings_in}

-- what files that are told answer where none fails: a name that is not there fails, a content that is too long is
-- refused
abbrev pub answer_within : ℕ → Option (List ℕ) → Result (List ℕ) FileRefusal
answer_within limit None = Err Failed
answer_within limit (Some content) = if nat_lt limit (length content) then Err TooLong else Ok content

abbrev pub told : Entries → Answering
told entries name limit = answer_within limit (told_content entries name)

-- what files may answer, told or not
abbrev pub MayAnswer : Option Entries → List ℕ → ℕ → Result (List ℕ) FileRefusal → Type 0
MayAnswer entries name limit (Ok content) = HasContent entries name content × (length content ≤ limit)
MayAnswer entries name limit (Err Failed) = Unit {0}
MayAnswer entries name limit (Err TooLong) = IsLonger entries name limit
MayAnswer entries name limit (Err NoMemory) = ⊥

-- what an include of this name may do
abbrev pub MayInclude : Type 1
MayInclude = Conf → ℕ → List ℕ → Result Conf ConfRefused → Type 0

-- the answer is that refusal, or what follows where the step before was not refused
abbrev pub Then : {A B : Type 0} → Result A ConfRefused → (A → Type 0) → Result B ConfRefused → Type 0
Then (Ok x) P result = P x
Then (Err refusal) P result = result ≡ Err refusal

-- the answer to a line
abbrev pub AfterLine : MayInclude → Conf → ℕ → Said → Result Conf ConfRefused → Type 0
AfterLine MayInc conf number (includes text) result =
    Then (file_of conf number text) (λ name. MayInc conf number name result) result
AfterLine MayInc conf number line result = result ≡ after_plain conf number line

-- the answer to these lines
abbrev pub AfterLines : MayInclude → Conf → List LogicalLine → Result Conf ConfRefused → Type 0
AfterLines MayInc conf [] result = result ≡ Ok conf
AfterLines MayInc conf (line ∷ lines) result =
    (step : Result Conf ConfRefused) × AfterLine MayInc conf line.number (said line.text) step
    × Then step (λ next. AfterLines MayInc next lines result) result

-- what an include of a file may do, where so many depths may follow
abbrev pub MayIncludeAt : Option Entries → ℕ → MayInclude
MayIncludeAt entries zero conf number name result = result ≡ Err (Line number Depth)
MayIncludeAt entries (suc depths) conf number name result =
    (answer : Result (List ℕ) FileRefusal) × MayAnswer entries name conf.left answer
    × Then (content_of name answer) (λ content.
    (inner : Result Conf ConfRefused)
    × AfterLines (MayIncludeAt entries depths) (within_file conf content) (logical_lines content) inner
    × (result ≡ inner >>= λ after. Ok (after_file conf after)))
    result

-- the sections of a text, or why it is refused, by what files may answer
abbrev pub AreSections : Option Entries → List ℕ → Result Sections ConfRefused → Type 0
AreSections entries text result =
    (conf : Result Conf ConfRefused)
    × AfterLines (MayIncludeAt entries most_depth) (nothing_read text) (logical_lines text) conf
    × (result ≡ conf >>= λ after. Ok after.sections)

-- the answer to a text: its settings, or why it is refused
abbrev pub IsAnswer : Option Entries → List ℕ → Result SettingsView ConfRefused → Type 0
IsAnswer entries text result =
    (sections : Result Sections ConfRefused) × AreSections entries text sections × (result ≡ sections >>= settings_in)

-- an answer, by what stands for its value
abbrev pub mapped : {A B E : Type 0} → (A → B) → Result A E → Result B E
mapped view (Ok answer) = Ok (view answer)
mapped view (Err refusal) = Err refusal

-- a fact about an answer that is not for want of memory
abbrev pub ButForMemory : {A : Type 0} → Result A ConfRefused → (Result A ConfRefused → Type 0) → Type 0
ButForMemory (Ok answer) P = P (Ok answer)
ButForMemory (Err refused.NoMemory) P = Unit {0}
ButForMemory (Err refusal) P = P (Err refusal)

-- an answer is this one, or is for want of memory
abbrev pub Answers : {A : Type 0} → Result A ConfRefused → Result A ConfRefused → Type 0
Answers answer said = ButForMemory answer (λ given. said ≡ given)

-- a file was not read, by the count of faults
abbrev pub IsFaulty : {A : Type 0} → ℕ → ℕ → Result A ConfRefused → Type 0
IsFaulty before after answer = (name : List ℕ) × (answer ≡ Err (File name Failed)) × Rose before after
