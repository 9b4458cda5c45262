-- Configurations that are read.
use Rattle.std.proofs.Common.{◌≡◌, ◌⊎◌, ℕ, ◌≤◌, List, Ok, Err, Result, refl, inl, inr}
use Rattle.std.specs.Prelude.{Some}
use Rattle.ossl_base.specs.declared.files.FileRefusal.TheVariants.{Failed, TooLong, NoMemory as NoFileMemory}
use Rattle.ossl_base.specs.Causes.{Rose}
use Rattle.ossl_base.specs.Files.{Entries, LacksName}
use Rattle.ossl_commands.specs.declared.limit.Limit.TheVariants as limits
use Rattle.ossl_conf.specs.declared.refusal.ConfRefused.{ConfRefused}
use Rattle.ossl_conf.specs.declared.refusal.ConfRefused.TheVariants.{File, NoMemory}
use Rattle.ossl_conf.specs.Answers as conf
use Rattle.ossl_conf.specs.Settings.{settings_of}
use Rattle.ossl_conf.specs.View.{SettingsView}
use Rattle.ossl_prepare.specs.Answered.{AreSettings, ButForMemory, IsContent, IsSettled, Told}
use Rattle.ossl_prepare.specs.ErrorLine.{configuration_refused}
use Rattle.ossl_prepare.proofs.CauseLaws.{rose_within}

module _ (files : Told) (text : List ℕ) (before after : ℕ) (low : files.before ≤ before) (high : after ≤ files.after) where
  exact_within : (answer said : Result SettingsView ConfRefused) → (answer ≡ said) ⊎ conf.IsFaulty before after answer → (answer ≡ said) ⊎ conf.IsFaulty files.before files.after answer
  exact_within answer said (inl same) = inl same
  exact_within answer said (inr faulty) = inr (faulty.0, faulty.1, rose_within files.before before after files.after low high faulty.2)

  cause_within : (name : List ℕ) → Rose before after ⊎ LacksName files.entries name → Rose files.before files.after ⊎ LacksName files.entries name
  cause_within name (inl rose) = inl (rose_within files.before before after files.after low high rose)
  cause_within name (inr lacks) = inr lacks

  one : (answer : Result SettingsView ConfRefused) → conf.IsAnswer files.entries text answer →
      ((entries : Entries) → files.entries ≡ Some entries → (answer ≡ settings_of (conf.told entries) text) ⊎ conf.IsFaulty before after answer) →
      ((name : List ℕ) → answer ≡ Err (File name Failed) → Rose before after ⊎ LacksName files.entries name) → IsSettled files text answer
  one answer may exact failed = record {
    may = may;
    exact = λ entries e. exact_within answer (settings_of (conf.told entries) text) (exact entries e);
    failed = λ name e. cause_within name (failed name e);
  }

  -- what a configuration is answered by its reading
  pub settled : (answer : Result SettingsView ConfRefused) → conf.ButForMemory answer (conf.IsAnswer files.entries text) →
      ((entries : Entries) → files.entries ≡ Some entries → conf.ButForMemory answer (λ given. (given ≡ settings_of (conf.told entries) text) ⊎ conf.IsFaulty before after given)) →
      ((name : List ℕ) → answer ≡ Err (File name Failed) → Rose before after ⊎ LacksName files.entries name) → conf.ButForMemory answer (IsSettled files text)
  settled (Ok settings) may exact failed = one (Ok settings) may exact failed
  settled (Err NoMemory) may exact failed = tt
  settled (Err refusal) may exact failed = one (Err refusal) may exact failed

-- a configuration that is refused
pub configuration_unsettled : (files : Told) (name text : List ℕ) (refusal : ConfRefused) → IsContent files name limits.Configuration (Ok text) →
    conf.ButForMemory {A = SettingsView} (Err refusal) (IsSettled files text) → ButForMemory {A = SettingsView} (Err (configuration_refused refusal)) (AreSettings files (Some name))
configuration_unsettled files name text NoMemory content is = tt
configuration_unsettled files name text (File included NoFileMemory) content is = tt
configuration_unsettled files name text (File included Failed) content is = (Ok text, content, (Err (File included Failed), is, refl))
configuration_unsettled files name text (File included TooLong) content is = (Ok text, content, (Err (File included TooLong), is, refl))
configuration_unsettled files name text refusal content is = (Ok text, content, (Err refusal, is, refl))
