-- Reading, line by line and file by file.
use Rattle.std.proofs.Common.{◌≡◌, ℕ, zero, suc, ◌+◌, ◌≤◌, ◌⊎◌, inl, inr, Option, Some, Result, Ok, Err, List, [], ◌∷◌, refl, ap, sym, subst, ◌∙◌}
use Rattle.ossl_base.specs.Causes.{Rose}
use Rattle.ossl_base.specs.declared.files.FileRefusal.{FileRefusal}
use Rattle.ossl_base.specs.declared.files.FileRefusal.TheVariants.{Failed}
use Rattle.ossl_base.specs.Files.{Entries, LacksName}
use Rattle.ossl_conf.specs.declared.kind.ConfKind.TheVariants.{Depth}
use Rattle.ossl_conf.specs.declared.refusal.ConfRefused.{ConfRefused}
use Rattle.ossl_conf.specs.declared.refusal.ConfRefused.TheVariants.{Line, File}
use Rattle.ossl_conf.specs.declared.said.Statement.{Statement}
use Rattle.ossl_conf.specs.declared.said.Statement.TheVariants.{Nothing, Opens, Sets, Includes, Faulty}
use Rattle.ossl_conf.specs.View.{SettingsView}
use Rattle.ossl_conf.specs.Lines.{LogicalLine, lines_at, logical_lines}
use Rattle.ossl_conf.specs.Sections.{Sections}
use Rattle.ossl_conf.specs.Said.{Said, said, includes}
use Rattle.ossl_conf.specs.Private.{lines_behind, shown_said, BeginsWith}
use Rattle.ossl_conf.specs.Reading.{Conf, ◌>>=◌, after_file, after_lines, after_plain, content_of, file_of, including, most_depth, nothing_read, sections_of, within_file}
use Rattle.ossl_conf.specs.Answers.{AfterLine, AfterLines, Answers, AreSections, ButForMemory, IsAnswer, IsFaulty, MayAnswer, MayInclude, MayIncludeAt, Then, told}
use Rattle.ossl_conf.specs.Settings.{settings_in, settings_of}
use Rattle.ossl_conf.proofs.AnswerLaws.{refusal_from}
use Rattle.ossl_conf.proofs.ExactLaws.{IsUnread, exact_include, exact_lines, exact_then}

-- a line that includes no file
pub AfterLine-plain : (MayInc : MayInclude) (conf : Conf) (number : ℕ) (line : Statement) (result : Result Conf ConfRefused)
    → ((name : _) → line ≡ Includes name → ⊥) → after_plain conf number (shown_said line) ≡ result → AfterLine MayInc conf number (shown_said line) result
AfterLine-plain MayInc conf number Nothing result other e = sym e
AfterLine-plain MayInc conf number (Opens name) result other e = sym e
AfterLine-plain MayInc conf number (Sets section name value) result other e = sym e
AfterLine-plain MayInc conf number (Includes name) result other e = absurd (other name refl)
AfterLine-plain MayInc conf number (Faulty kind) result other e = sym e

-- lines of the same text
pub lines_same : (was is : Option Entries) (depths : ℕ) (old new : Conf) (before text : List ℕ) (answer : Result Conf ConfRefused) → was ≡ is → old ≡ new → before ≡ text
    → AfterLines (MayIncludeAt was depths) old (logical_lines before) answer → AfterLines (MayIncludeAt is depths) new (logical_lines text) answer
lines_same was is depths old new before text answer e f g h =
    subst (λ text. AfterLines (MayIncludeAt is depths) new (logical_lines text) answer) g
    (subst (λ conf. AfterLines (MayIncludeAt is depths) conf (logical_lines before) answer) f
    (subst (λ entries. AfterLines (MayIncludeAt entries depths) old (logical_lines before) answer) e h))

-- one line, and those that follow it
pub next_line : (entries now : Option Entries) (depths number lines : ℕ) (conf first : Conf) (all : List LogicalLine) (left : Option (List ℕ)) (text line : List ℕ) (rest : Option (List ℕ)) (what : Said) (step answer : Result Conf ConfRefused)
    → ((answer : Result Conf ConfRefused) → AfterLines (MayIncludeAt entries depths) conf (lines_behind number left) answer → AfterLines (MayIncludeAt entries depths) first all answer)
    → left ≡ Some text → BeginsWith number text line lines rest → now ≡ entries → what ≡ said line
    → AfterLine (MayIncludeAt now depths) conf number what step
    → Then step (λ next. AfterLines (MayIncludeAt entries depths) next (lines_behind (number + lines) rest) answer) answer
    → AfterLines (MayIncludeAt entries depths) first all answer
next_line entries now depths number lines conf first all left text line rest what step answer read there begins kept says after follows =
    read answer (subst (λ left. AfterLines (MayIncludeAt entries depths) conf (lines_behind number left) answer) (sym there)
    (subst (λ lines. AfterLines (MayIncludeAt entries depths) conf lines answer) (sym begins)
    (step, subst (λ what. AfterLine (MayIncludeAt entries depths) conf number what step) says (subst (λ entries. AfterLine (MayIncludeAt entries depths) conf number what step) kept after), follows)))

module _ (entries : Option Entries) (conf : Conf) (number : ℕ) (text : List ℕ) where
  -- the name of a file is refused
  pub name_refused : (depths : ℕ) (refusal : ConfRefused) → file_of conf number text ≡ Err refusal → AfterLine (MayIncludeAt entries depths) conf number (includes text) (Err refusal)
  name_refused depths refusal e = rw e refl

  module _ (name : List ℕ) (named : file_of conf number text ≡ Ok name) where
    -- no file may be included so deep
    pub too_deep : AfterLine (MayIncludeAt entries 0) conf number (includes text) (Err (Line number Depth))
    too_deep = rw named refl

    -- the file is refused
    pub not_read : (depths : ℕ) (refusal : ConfRefused) (answer : Result (List ℕ) FileRefusal) → MayAnswer entries name conf.left answer → Err refusal ≡ content_of name answer
        → AfterLine (MayIncludeAt entries (suc depths)) conf number (includes text) (Err refusal)
    not_read depths refusal answer may e = rw named (answer, may, rw (← e) refl)

    -- the file is read, and so are its lines
    pub was_read : (depths : ℕ) (content : List ℕ) (answer : Result (List ℕ) FileRefusal) (inner : Result Conf ConfRefused) → MayAnswer entries name conf.left answer → Ok content ≡ content_of name answer
        → AfterLines (MayIncludeAt entries depths) (within_file conf content) (logical_lines content) inner
        → AfterLine (MayIncludeAt entries (suc depths)) conf number (includes text) (inner >>= λ after. Ok (after_file conf after))
    was_read depths content answer inner may e lines = rw named (answer, may, rw (← e) (inner, lines, refl))

-- the answer to a text whose lines are refused
pub lines_refused : (entries : Option Entries) (text : List ℕ) (refusal : ConfRefused) → AfterLines (MayIncludeAt entries most_depth) (nothing_read text) (logical_lines text) (Err refusal) → IsAnswer entries text (Err refusal)
lines_refused entries text refusal lines = (Err refusal, (Err refusal, lines, refl), refl)

-- the answer to a text whose lines are read
pub lines_read : (entries : Option Entries) (text : List ℕ) (conf : Conf) (answer : Result SettingsView ConfRefused) → AfterLines (MayIncludeAt entries most_depth) (nothing_read text) (logical_lines text) (Ok conf)
    → settings_in conf.sections ≡ answer → IsAnswer entries text answer
lines_read entries text conf answer lines e = (Ok conf.sections, (Ok conf, lines, refl), sym e)

-- where files are told, the answer is the one by their contents, or a file that is there was not read
pub exact_answer : (entries : Entries) (text : List ℕ) (answer : Result SettingsView ConfRefused) → IsAnswer (Some entries) text answer → (answer ≡ settings_of (told entries) text) ⊎ IsUnread entries answer
exact_answer entries text answer h =
    exact_then entries h.0 (sections_of (told entries) text) answer settings_in (λ sections. answer ≡ settings_in sections)
    (exact_then entries h.1.0 (after_lines (including (told entries) most_depth) (nothing_read text) (logical_lines text)) h.0 (λ conf. Ok conf.sections) (λ conf. h.0 ≡ Ok conf.sections)
    (exact_lines entries (including (told entries) most_depth) (MayIncludeAt (Some entries) most_depth) (exact_include entries most_depth) (nothing_read text) (logical_lines text) h.1.0 h.1.1)
    (conf_then h.1.0 h.0 h.1.2) (λ conf e. inl e))
    (sections_then h.0 answer h.2) (λ sections e. inl e)
  where
    conf_then : (conf : Result Conf ConfRefused) (sections : Result Sections ConfRefused) → sections ≡ (conf >>= λ after. Ok after.sections) → Then conf (λ conf. sections ≡ Ok conf.sections) sections
    conf_then (Ok conf) sections e = e
    conf_then (Err refusal) sections e = e

    sections_then : (sections : Result Sections ConfRefused) (answer : Result SettingsView ConfRefused) → answer ≡ (sections >>= settings_in) → Then sections (λ sections. answer ≡ settings_in sections) answer
    sections_then (Ok sections) answer e = e
    sections_then (Err refusal) answer e = e

-- the same, by the count of faults
pub told_answer : (files : Option Entries) (entries : Entries) (before after : ℕ) (text : List ℕ) (answer : Result SettingsView ConfRefused) → files ≡ Some entries
    → ((name : List ℕ) → answer ≡ Err (File name Failed) → Rose before after ⊎ LacksName files name)
    → ButForMemory answer (IsAnswer files text) → ButForMemory answer (λ answer. (answer ≡ settings_of (told entries) text) ⊎ IsFaulty before after answer)
told_answer files entries before after text answer e failed h = by answer (λ name f. rw e at (failed name f)) (rw e at h)
  where
    one : (answer : Result SettingsView ConfRefused) → ((name : List ℕ) → answer ≡ Err (File name Failed) → Rose before after ⊎ LacksName (Some entries) name) → IsAnswer (Some entries) text answer
        → (answer ≡ settings_of (told entries) text) ⊎ IsFaulty before after answer
    one answer failed h = elim (exact_answer entries text answer h) [
      | inl same ↦ inl same
      | inr unread ↦ elim (failed unread.0 unread.1) [ inl rose ↦ inr (unread.0, unread.1, rose) | inr lacks ↦ absurd (unread.2 lacks) ]
    ]

    by : (answer : Result SettingsView ConfRefused) → ((name : List ℕ) → answer ≡ Err (File name Failed) → Rose before after ⊎ LacksName (Some entries) name) → ButForMemory answer (IsAnswer (Some entries) text)
        → ButForMemory answer (λ answer. (answer ≡ settings_of (told entries) text) ⊎ IsFaulty before after answer)
    by (Ok settings) failed h = one (Ok settings) failed h
    by (Err refusal) failed h = refusal_from refusal (IsAnswer (Some entries) text) (λ answer. (answer ≡ settings_of (told entries) text) ⊎ IsFaulty before after answer) (one (Err refusal) failed) h
