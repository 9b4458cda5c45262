-- The checks, step by step: an error of one ends all.
use Rattle.std.proofs.Common.{◌≡◌, ℕ, List, [], Option, Ok, Err, length, map, refl}
use Rattle.ossl_commands.specs.View.{ScriptView}
use Rattle.ossl_conf.specs.View.{SettingsView}
use Rattle.ossl_prepare.specs.declared.refused.Refused.{Refused}
use Rattle.ossl_prepare.specs.declared.refused.Refused.TheVariants.{Error, NoMemory}
use Rattle.ossl_prepare.specs.Answered.{AreContents, AreSettings, ButForMemory, IsDue, Told}
use Rattle.ossl_prepare.specs.Due.{fitting, script_of}
use Rattle.ossl_prepare.specs.View.{PreparedView}

module _ (files : Told) (conf : Option (List ℕ)) (text : List ℕ) (script : ScriptView) (is : Ok script ≡ script_of text) (fits : Ok tt ≡ fitting script []) where
  pub contents_refused : (e : Refused) → ButForMemory {A = List (List ℕ)} (Err e) (AreContents files [] script.files) → ButForMemory {A = PreparedView} (Err e) (IsDue files conf text)
  contents_refused (Error error) h = rw (← is) (rw (← fits) (Err error, h, refl))
  contents_refused NoMemory h = tt

  module _ (held : List (List ℕ)) (are : AreContents files [] script.files (Ok held)) where
    pub limits_refused : (e : Refused) → ButForMemory {A = Unit {0}} (Err e) (λ answer. answer ≡ fitting script (map length held)) → ButForMemory {A = PreparedView} (Err e) (IsDue files conf text)
    limits_refused (Error error) h = rw (← is) (rw (← fits) (Ok held, are, rw (← h) refl))
    limits_refused NoMemory h = tt

    module _ (fit : Ok tt ≡ fitting script (map length held)) where
      pub settings_refused : (e : Refused) → ButForMemory {A = SettingsView} (Err e) (AreSettings files conf) → ButForMemory {A = PreparedView} (Err e) (IsDue files conf text)
      settings_refused (Error error) h = rw (← is) (rw (← fits) (Ok held, are, rw (← fit) (Err error, h, refl)))
      settings_refused NoMemory h = tt

      pub all_done : (settings : SettingsView) → AreSettings files conf (Ok settings) → IsDue files conf text (Ok (record { script = script; contents = held; settings = settings }))
      all_done settings h = rw (← is) (rw (← fits) (Ok held, are, rw (← fit) (Ok settings, h, refl)))
