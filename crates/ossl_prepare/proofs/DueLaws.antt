-- Where files are told, the checks end as what they hold says.
use Rattle.std.proofs.Common.{◌≡◌, ◌⊎◌, ℕ, ◌<◌, ◌≤◌, false, true, nat_lt, List, [], ◌∷◌, ◌++◌, Option, Some, None, Ok, Err, Result, length, map, refl, sym, ap, ◌∙◌, inl, inr, arith}
use Rattle.std.specs.Prelude.{IsSomeAnd}
use Rattle.std.proofs.lemmas.Bool.Decides.{nat_tests}
use Rattle.ossl_base.specs.declared.files.FileRefusal.{FileRefusal}
use Rattle.ossl_base.specs.declared.files.FileRefusal.TheVariants.{Failed, TooLong, NoMemory}
use Rattle.ossl_base.specs.Causes.{Rose}
use Rattle.ossl_base.specs.Files.{Entries, LacksName, content_of}
use Rattle.ossl_conf.specs.Answers.{IsFaulty, answer_within, told}
use Rattle.ossl_conf.specs.declared.refusal.ConfRefused.{ConfRefused}
use Rattle.ossl_conf.specs.declared.refusal.ConfRefused.TheVariants.{File}
use Rattle.ossl_conf.specs.Settings.{settings_of}
use Rattle.ossl_conf.specs.View.{SettingsView}
use Rattle.ossl_commands.specs.declared.limit.Limit.{Limit}
use Rattle.ossl_commands.specs.declared.limit.Limit.TheVariants as limits
use Rattle.ossl_commands.specs.Counts.{line_count}
use Rattle.ossl_commands.specs.Fits.{passed_limit}
use Rattle.ossl_commands.specs.Judging.{Commands, Fault, commands_of}
use Rattle.ossl_commands.specs.Limit.{most_of}
use Rattle.ossl_prepare.specs.declared.error_line.ErrorLine.{ErrorLine}
use Rattle.ossl_prepare.specs.declared.error_line.ErrorLine.TheVariants.{Read}
use Rattle.ossl_prepare.specs.Answered.{AreContents, AreSettings, DueIsTold, IsContent, IsDue, IsDueBehind, IsGiven, IsSettled, ReadIsCounted, Then, Told}
use Rattle.ossl_prepare.specs.Due.{◌>>=◌, content_or, contents_from, due_batch, fitting, no_settings, passing, script_of, script_said, settings_by, settings_or}
use Rattle.ossl_prepare.specs.View.{PreparedView}

-- 1. Where files are told.

-- a content that is there, by its length
within_ok : (limit : ℕ) (content : List ℕ) → length content ≤ limit → Ok content ≡ answer_within limit (Some content)
within_ok limit content short =
    let fits : nat_lt limit (length content) ≡ false = grind (arith, nat_tests) in
    rw fits refl

within_long : (limit : ℕ) (found : Option (List ℕ)) → IsSomeAnd found (λ bs. limit < length bs) → Err TooLong ≡ answer_within limit found
within_long limit None long = absurd long
within_long limit (Some content) long =
    let passes : nat_lt limit (length content) ≡ true = grind (arith, nat_tests) in
    rw passes refl

module _ (files : Told) (entries : Entries) (are : files.entries ≡ Some entries) where
  -- an answer is the one that is said, or a file was not read and counted
  abbrev Exact : {A : Type 0} → Result A ErrorLine → Result A ErrorLine → Type 0
  Exact {A} said result = (result ≡ said) ⊎ (result ≡ Err Read) × Rose files.before files.after

  given_exact : (name : List ℕ) (limit : ℕ) (answer : Result (List ℕ) FileRefusal) → IsGiven files name limit answer → (answer ≡ told entries name limit) ⊎ (answer ≡ Err Failed) × Rose files.before files.after
  given_exact name limit (Ok content) given =
      let may = rw are at given.may in
      let there : content_of entries name ≡ Some content = may.0 in
      inl (within_ok limit content may.1 ∙ ap (answer_within limit) (sym there))
  given_exact name limit (Err Failed) given = of (given.failed refl)
    where
      of : Rose files.before files.after ⊎ LacksName files.entries name → (Err Failed ≡ told entries name limit) ⊎ (◌≡◌ {A = Result (List ℕ) FileRefusal} (Err Failed) (Err Failed)) × Rose files.before files.after
      of (inl rose) = inr (refl, rose)
      of (inr lacks) =
          let none : content_of entries name ≡ None = rw are at lacks in
          inl (ap (answer_within limit) (sym none))
  given_exact name limit (Err TooLong) given = inl (within_long limit (content_of entries name) (rw are at given.may))
  given_exact name limit (Err NoMemory) given = absurd given.may

  content_exact : (name : List ℕ) (most : Limit) (result : Result (List ℕ) ErrorLine) → IsContent files name most result → Exact (content_or most (told entries name (most_of most))) result
  content_exact name most result is = of (given_exact name (most_of most) is.0 is.1)
    where
      of : (is.0 ≡ told entries name (most_of most)) ⊎ (is.0 ≡ Err Failed) × Rose files.before files.after → Exact (content_or most (told entries name (most_of most))) result
      of (inl same) = inl (is.2 ∙ ap (content_or most) same)
      of (inr failed) = inr (is.2 ∙ ap (content_or most) failed.0, failed.1)

  then_exact : {A B : Type 0} (said read : Result A ErrorLine) (P : A → Type 0) (f : A → Result B ErrorLine) (result : Result B ErrorLine) →
      Exact said read → ((x : A) → P x → Exact (f x) result) → Then read P result → Exact (said >>= f) result
  then_exact {A} {B} said (Ok x) P f result (inl same) go then_ = rw (← same) (go x then_)
  then_exact {A} {B} said (Err error) P f result (inl same) go then_ = rw (← same) (inl then_)
  then_exact {A} {B} said (Ok x) P f result (inr rose) go then_ = let never : ◌≡◌ {A = Result A ErrorLine} (Ok x) (Err Read) = rose.0 in cc
  then_exact {A} {B} said (Err error) P f result (inr rose) go then_ =
      let same : ◌≡◌ {A = Result A ErrorLine} (Err error) (Err Read) = rose.0 in
      let read_ : error ≡ Read = cc in
      inr (then_ ∙ ap Err read_, rose.1)

  contents_exact : (done names : List (List ℕ)) (result : Result (List (List ℕ)) ErrorLine) → AreContents files done names result → Exact (contents_from (told entries) done names) result
  contents_exact done [] result is = inl is
  contents_exact done (name ∷ names) result (read, content, then_) =
      then_exact (content_or limits.File (told entries name (most_of limits.File))) read (λ held. AreContents files (done ++ held ∷ []) names result)
      (λ held. contents_from (told entries) (done ++ held ∷ []) names) result (content_exact name limits.File read content)
      (λ held rest. contents_exact (done ++ held ∷ []) names result rest) then_

  settled_exact : (text : List ℕ) (result : Result SettingsView ErrorLine) → (said : Result SettingsView ConfRefused) × IsSettled files text said × (result ≡ settings_or said) →
      Exact (settings_or (settings_of (told entries) text)) result
  settled_exact text result (said, settled, same) = of (settled.exact entries are)
    where
      of : (said ≡ settings_of (told entries) text) ⊎ IsFaulty files.before files.after said → Exact (settings_or (settings_of (told entries) text)) result
      of (inl exact) = inl (same ∙ ap settings_or exact)
      of (inr faulty) = inr (same ∙ ap settings_or faulty.1, faulty.2)

  settings_exact : (conf : Option (List ℕ)) (result : Result SettingsView ErrorLine) → AreSettings files conf result → Exact (settings_by (told entries) conf) result
  settings_exact None result is = inl is
  settings_exact (Some name) result (read, content, then_) =
      then_exact (content_or limits.Configuration (told entries name (most_of limits.Configuration))) read
      (λ text. (said : Result SettingsView ConfRefused) × IsSettled files text said × (result ≡ settings_or said))
      (λ text. settings_or (settings_of (told entries) text)) result (content_exact name limits.Configuration read content)
      (λ text settled. settled_exact text result settled) then_

  behind_exact : (conf : Option (List ℕ)) (ready : SettingsView → PreparedView) (result : Result PreparedView ErrorLine) → IsDueBehind files conf ready result →
      Exact (settings_by (told entries) conf >>= λ settings. Ok (ready settings)) result
  behind_exact conf ready result (settings, are_settings, same) = of (settings_exact conf settings are_settings)
    where
      of : Exact (settings_by (told entries) conf) settings → Exact (settings_by (told entries) conf >>= λ set. Ok (ready set)) result
      of (inl exact) = inl (same ∙ ap (λ s. s >>= λ set. Ok (ready set)) exact)
      of (inr failed) = inr (same ∙ ap (λ s. s >>= λ set. Ok (ready set)) failed.0, failed.1)

  due_exact : (conf : Option (List ℕ)) (text : List ℕ) (result : Result PreparedView ErrorLine) → IsDue files conf text result → Exact (due_batch (told entries) conf text) result
  due_exact conf text result due =
      then_exact (script_of text) (script_of text) _ _ result (inl refl) (λ script fits_first.
      then_exact (fitting script []) (fitting script []) _ _ result (inl refl) (λ fits (contents, are_contents, behind).
      then_exact (contents_from (told entries) [] script.files) contents _ _ result (contents_exact [] script.files contents are_contents) (λ held fits_last.
      then_exact (fitting script (map length held)) (fitting script (map length held)) _ _ result (inl refl) (λ fitting_ last.
      behind_exact conf (λ settings. record { script = script; contents = held; settings = settings }) result last)
      fits_last) behind) fits_first) due

pub due_is_told : DueIsTold
due_is_told files entries conf text result are due = due_exact files entries are conf text result due

-- 2. Where they are not told.

module _ (files : Told) (untold : files.entries ≡ None) where
  abbrev Counted : {A : Type 0} → Result A ErrorLine → Type 0
  Counted {A} result = result ≡ Err Read → Rose files.before files.after

  then_counted : {A B : Type 0} (read : Result A ErrorLine) (P : A → Type 0) (result : Result B ErrorLine) → Counted read → ((x : A) → P x → Counted result) → Then read P result → Counted result
  then_counted {A} {B} (Ok x) P result counted go then_ = go x then_
  then_counted {A} {B} (Err error) P result counted go then_ = λ is.
      let same : ◌≡◌ {A = Result B ErrorLine} (Err error) (Err Read) = sym then_ ∙ is in
      let read_ : error ≡ Read = cc in
      counted (ap Err read_)

  said_counted : (lines : ℕ) (said : Result Commands Fault) → Counted (script_said lines said)
  said_counted lines (Ok said) = λ is. cc
  said_counted lines (Err fault) = λ is. cc

  passing_counted : (passed : Option Limit) → Counted (passing passed)
  passing_counted None = λ is. cc
  passing_counted (Some limit) = λ is. cc

  answer_counted : (name : List ℕ) (most : Limit) (answer : Result (List ℕ) FileRefusal) → IsGiven files name (most_of most) answer → Counted (content_or most answer)
  answer_counted name most (Ok content) given = λ is. cc
  answer_counted name most (Err Failed) given = λ is. of (given.failed refl)
    where
      of : Rose files.before files.after ⊎ LacksName files.entries name → Rose files.before files.after
      of (inl rose) = rose
      of (inr lacks) = absurd (rw untold at lacks)
  answer_counted name most (Err TooLong) given = λ is. cc
  answer_counted name most (Err NoMemory) given = absurd given.may

  content_counted : (name : List ℕ) (most : Limit) (result : Result (List ℕ) ErrorLine) → IsContent files name most result → Counted result
  content_counted name most result (answer, given, same) = λ is. answer_counted name most answer given (sym same ∙ is)

  contents_counted : (done names : List (List ℕ)) (result : Result (List (List ℕ)) ErrorLine) → AreContents files done names result → Counted result
  contents_counted done [] result same = λ is. let never : ◌≡◌ {A = Result (List (List ℕ)) ErrorLine} (Ok done) (Err Read) = sym same ∙ is in cc
  contents_counted done (name ∷ names) result (read, content, then_) =
      then_counted read (λ held. AreContents files (done ++ held ∷ []) names result) result (content_counted name limits.File read content)
      (λ held rest. contents_counted (done ++ held ∷ []) names result rest) then_

  refusal_counted : (text : List ℕ) (refusal : ConfRefused) → IsSettled files text (Err refusal) → Counted (settings_or (Err refusal))
  refusal_counted text (File name Failed) settled = λ is. of (settled.failed name refl)
    where
      of : Rose files.before files.after ⊎ LacksName files.entries name → Rose files.before files.after
      of (inl rose) = rose
      of (inr lacks) = absurd (rw untold at lacks)
  refusal_counted text (File name TooLong) settled = λ is. cc
  refusal_counted text (File name NoMemory) settled = λ is. cc
  refusal_counted text refusal settled = λ is. cc

  settled_counted : (text : List ℕ) (said : Result SettingsView ConfRefused) → IsSettled files text said → Counted (settings_or said)
  settled_counted text (Ok settings) settled = λ is. cc
  settled_counted text (Err refusal) settled = refusal_counted text refusal settled

  settings_counted : (conf : Option (List ℕ)) (result : Result SettingsView ErrorLine) → AreSettings files conf result → Counted result
  settings_counted None result same = λ is. let never : ◌≡◌ {A = Result SettingsView ErrorLine} (Ok no_settings) (Err Read) = sym same ∙ is in cc
  settings_counted (Some name) result (read, content, then_) =
      then_counted read (λ text. (said : Result SettingsView ConfRefused) × IsSettled files text said × (result ≡ settings_or said)) result
      (content_counted name limits.Configuration read content) (λ text (said, settled, same). λ is. settled_counted text said settled (sym same ∙ is)) then_

  behind_counted : (conf : Option (List ℕ)) (ready : SettingsView → PreparedView) (result : Result PreparedView ErrorLine) → IsDueBehind files conf ready result → Counted result
  behind_counted conf ready result (settings, are_settings, same) = of settings (settings_counted conf settings are_settings) same
    where
      of : (settings : Result SettingsView ErrorLine) → Counted settings → (result ≡ settings >>= λ set. Ok (ready set)) → Counted result
      of (Ok set) counted same = λ is. let never : ◌≡◌ {A = Result PreparedView ErrorLine} (Ok (ready set)) (Err Read) = sym same ∙ is in cc
      of (Err error) counted same = λ is.
          let both : ◌≡◌ {A = Result PreparedView ErrorLine} (Err error) (Err Read) = sym same ∙ is in
          let read_ : error ≡ Read = cc in
          counted (ap Err read_)

  due_counted : (conf : Option (List ℕ)) (text : List ℕ) (result : Result PreparedView ErrorLine) → IsDue files conf text result → Counted result
  due_counted conf text result due =
      then_counted (script_of text) _ result (said_counted (line_count text) (commands_of text)) (λ script fits_first.
      then_counted (fitting script []) _ result (passing_counted (passed_limit script.lines script.commands [])) (λ fits (contents, are_contents, behind).
      then_counted contents _ result (contents_counted [] script.files contents are_contents) (λ held fits_last.
      then_counted (fitting script (map length held)) _ result (passing_counted (passed_limit script.lines script.commands (map length held))) (λ fitting_ last.
      behind_counted conf (λ settings. record { script = script; contents = held; settings = settings }) result last)
      fits_last) behind) fits_first) due

pub read_is_counted : ReadIsCounted
read_is_counted files conf text untold due = due_counted files untold conf text (Err Read) due refl
