-- The same checks where it is left open what files answer: a file may fail where the count of faults rises, and files
-- that do not tell their contents may answer anything.
use Rattle.std.specs.Prelude.{ℕ, ◌≡◌, ◌⊎◌, Option, Some, None, Result, Ok, Err, List, [], ◌∷◌, ◌++◌, length, map}
use Rattle.ossl_base.specs.declared.files.FileRefusal.{FileRefusal}
use Rattle.ossl_base.specs.declared.files.FileRefusal.TheVariants.{Failed}
use Rattle.ossl_base.specs.Causes.{Rose}
use Rattle.ossl_base.specs.Files.{Entries, LacksName}
use Rattle.ossl_conf.specs.Answers.{IsAnswer, IsFaulty, MayAnswer, told}
use Rattle.ossl_conf.specs.declared.refusal.ConfRefused.{ConfRefused}
use Rattle.ossl_conf.specs.declared.refusal.ConfRefused.TheVariants.{File}
use Rattle.ossl_conf.specs.Settings.{settings_of}
use Rattle.ossl_conf.specs.View.{SettingsView}
use Rattle.ossl_commands.specs.declared.limit.Limit as limit
use Rattle.ossl_commands.specs.declared.limit.Limit.TheVariants as limits
use Rattle.ossl_commands.specs.Limit.{most_of}
use Rattle.ossl_prepare.specs.declared.error_line.ErrorLine.{ErrorLine}
use Rattle.ossl_prepare.specs.declared.error_line.ErrorLine.TheVariants.{Read}
use Rattle.ossl_prepare.specs.declared.refused.Refused.{Refused}
use Rattle.ossl_prepare.specs.declared.refused.Refused.TheVariants.{Error, NoMemory}
use Rattle.ossl_prepare.specs.Due.{◌>>=◌, content_or, due_batch, fitting, no_settings, script_of, settings_or}
use Rattle.ossl_prepare.specs.View.{PreparedView}

-- a fact about an answer that is not for want of memory
abbrev pub ButForMemory : {A : Type 0} → Result A Refused → (Result A ErrorLine → Type 0) → Type 0
ButForMemory (Ok answer) P = P (Ok answer)
ButForMemory (Err (Error error)) P = P (Err error)
ButForMemory (Err NoMemory) P = Unit {0}

-- what files hold, where they tell it, and their count of faults before and after all readings
pub record Told : Type 0 where
  pub entries : Option Entries
  pub before : ℕ
  pub after : ℕ

abbrev pub telling : Option Entries → ℕ → ℕ → Told
telling entries before after = record { entries = entries; before = before; after = after }

-- a file of this name may be answered so within a limit; it is not read only where the count rose, or the files are
-- told and lack it
pub record IsGiven (files : Told) (name : List ℕ) (limit : ℕ) (answer : Result (List ℕ) FileRefusal) : Type 0 where
  pub may : MayAnswer files.entries name limit answer
  pub failed : answer ≡ Err Failed → Rose files.before files.after ⊎ LacksName files.entries name

-- a file of this name may have this content within a limit, or this error line
abbrev pub IsContent : Told → List ℕ → limit.Limit → Result (List ℕ) ErrorLine → Type 0
IsContent files name most result =
    (answer : Result (List ℕ) FileRefusal) × IsGiven files name (most_of most) answer
    × (result ≡ content_or most answer)

-- a configuration of this text may be answered so; where the files are told it is the answer by what they hold, but
-- for a file that was not read
pub record IsSettled (files : Told) (text : List ℕ) (answer : Result SettingsView ConfRefused) : Type 0 where
  pub may : IsAnswer files.entries text answer
  pub exact : (entries : Entries) → files.entries ≡ Some entries
      → (answer ≡ settings_of (told entries) text) ⊎ IsFaulty files.before files.after answer
  pub failed : (name : List ℕ) → answer ≡ Err (File name Failed)
      → Rose files.before files.after ⊎ LacksName files.entries name

-- the answer is that error, or what follows where the step before ends in none
abbrev pub Then : {A B : Type 0} → Result A ErrorLine → (A → Type 0) → Result B ErrorLine → Type 0
Then (Ok x) P result = P x
Then (Err error) P result = result ≡ Err error

-- what files may hold, one after the other, behind those that were read before
abbrev pub AreContents : Told → List (List ℕ) → List (List ℕ) → Result (List (List ℕ)) ErrorLine → Type 0
AreContents files done [] result = result ≡ Ok done
AreContents files done (name ∷ names) result =
    (read : Result (List ℕ) ErrorLine) × IsContent files name limits.File read
    × Then read (λ content. AreContents files (done ++ content ∷ []) names result) result

-- what the configuration of this name may set, where one is named
abbrev pub AreSettings : Told → Option (List ℕ) → Result SettingsView ErrorLine → Type 0
AreSettings files None result = result ≡ Ok no_settings
AreSettings files (Some name) result =
    (read : Result (List ℕ) ErrorLine) × IsContent files name limits.Configuration read
    × Then read (λ text. (said : Result SettingsView ConfRefused) × IsSettled files text said
    × (result ≡ settings_or said)) result

-- what comes behind the files
abbrev pub IsDueBehind : Told → Option (List ℕ) → (SettingsView → PreparedView)
    → Result PreparedView ErrorLine → Type 0
IsDueBehind files conf ready result =
    (settings : Result SettingsView ErrorLine) × AreSettings files conf settings
    × (result ≡ settings >>= λ set. Ok (ready set))

-- all checks in their order
abbrev pub IsDue : Told → Option (List ℕ) → List ℕ → Result PreparedView ErrorLine → Type 0
IsDue files conf text result =
    Then (script_of text) (λ script.
    Then (fitting script []) (λ fits.
    (contents : Result (List (List ℕ)) ErrorLine) × AreContents files [] script.files contents
    × Then contents (λ held.
    Then (fitting script (map length held)) (λ fits.
    IsDueBehind files conf (λ settings. record { script = script; contents = held; settings = settings }) result)
    result) result) result) result

-- where the files are told it is what they hold, unless a file that is there was not read
abbrev pub DueIsTold : Type 0
DueIsTold = (files : Told) (entries : Entries) (conf : Option (List ℕ)) (text : List ℕ)
    (result : Result PreparedView ErrorLine)
    → files.entries ≡ Some entries
    → IsDue files conf text result
    → (result ≡ due_batch (told entries) conf text) ⊎ (result ≡ Err Read) × Rose files.before files.after

-- where they are not told, a file that was not read was counted
abbrev pub ReadIsCounted : Type 0
ReadIsCounted = (files : Told) (conf : Option (List ℕ)) (text : List ℕ)
    → files.entries ≡ None
    → IsDue files conf text (Err Read)
    → Rose files.before files.after
