-- Where files are told, the answer that they may give is the one by their contents, unless one that is there was not read.
use Rattle.std.proofs.Common.{◌≡◌, ℕ, zero, suc, ◌≤◌, nat_lt, Bool, true, false, ◌⊎◌, inl, inr, Option, None, Some, Result, Ok, Err, List, [], ◌∷◌, length, if◌then◌else◌, refl, ap, sym, ◌∙◌}
use Rattle.std.proofs.lemmas.Bool.{lt-ltb, le-ltb}
use Rattle.ossl_base.specs.declared.files.FileRefusal.{FileRefusal}
use Rattle.ossl_base.specs.declared.files.FileRefusal.TheVariants.{Failed, TooLong, NoMemory}
use Rattle.ossl_base.specs.Files.{Entries, HasContent, LacksName, IsLonger, content_of as told_content}
use Rattle.ossl_conf.specs.declared.refusal.ConfRefused.{ConfRefused}
use Rattle.ossl_conf.specs.declared.refusal.ConfRefused.TheVariants.{File}
use Rattle.ossl_conf.specs.Lines.{LogicalLine, logical_lines}
use Rattle.ossl_conf.specs.Said.{Said, said, nothing, opens, sets, includes, faulty}
use Rattle.ossl_conf.specs.Reading.{Conf, Including, ◌>>=◌, after_file, after_line, after_lines, after_plain, content_of, file_of, including, within_file}
use Rattle.ossl_conf.specs.Answers.{AfterLine, AfterLines, MayAnswer, MayInclude, MayIncludeAt, Then, answer_within, told}

module _ (entries : Entries) where
  -- a file that is there was not read
  abbrev pub IsUnread : {A : Type 0} → Result A ConfRefused → Type 0
  IsUnread answer = (name : List ℕ) × (answer ≡ Err (File name Failed)) × (LacksName (Some entries) name → ⊥)

  abbrev pub IsExact : {A : Type 0} → Result A ConfRefused → Result A ConfRefused → Type 0
  IsExact answer said = (answer ≡ said) ⊎ IsUnread answer

  -- a step that is exact, and what follows it
  pub exact_then : {A B : Type 0} (step said : Result A ConfRefused) (answer : Result B ConfRefused) (next : A → Result B ConfRefused) (P : A → Type 0)
      → IsExact step said → Then step P answer → ((x : A) → P x → IsExact answer (next x)) → IsExact answer (said >>= next)
  exact_then (Ok x) said answer next P (inl e) follows rest = elim (rest x follows) [ inl same ↦ inl (same ∙ ap (λ s. s >>= next) e) | inr unread ↦ inr unread ]
  exact_then (Err refusal) said answer next P (inl e) follows rest = inl (follows ∙ ap (λ s. s >>= next) e)
  exact_then (Ok x) said answer next P (inr unread) follows rest = absurd (let e = unread.1 in cc)
  exact_then {A} {B} (Err refusal) said answer next P (inr unread) follows rest = inr (unread.0, follows ∙ (let e : ◌≡◌ {A = Result A ConfRefused} (Err refusal) (Err (File unread.0 Failed)) = unread.1 in let same : refusal ≡ File unread.0 Failed = cc in ap Err same), unread.2)

  module _ (inc : Including) (MayInc : MayInclude) (exact : (conf : Conf) (number : ℕ) (name : List ℕ) (answer : Result Conf ConfRefused) → MayInc conf number name answer → IsExact answer (inc conf number name)) where
    pub exact_line : (conf : Conf) (number : ℕ) (line : Said) (answer : Result Conf ConfRefused) → AfterLine MayInc conf number line answer → IsExact answer (after_line inc conf number line)
    exact_line conf number nothing answer h = inl h
    exact_line conf number (opens name) answer h = inl h
    exact_line conf number (sets section name text) answer h = inl h
    exact_line conf number (faulty kind) answer h = inl h
    exact_line conf number (includes text) answer h =
        exact_then (file_of conf number text) (file_of conf number text) answer (λ name. inc conf number name) (λ name. MayInc conf number name answer) (inl refl) h (λ name may. exact conf number name answer may)

    pub exact_lines : (conf : Conf) (lines : List LogicalLine) (answer : Result Conf ConfRefused) → AfterLines MayInc conf lines answer → IsExact answer (after_lines inc conf lines)
    exact_lines conf [] answer h = inl h
    exact_lines conf (line ∷ lines) answer h =
        exact_then h.0 (after_line inc conf line.number (said line.text)) answer (λ next. after_lines inc next lines) (λ next. AfterLines MayInc next lines answer)
        (exact_line conf line.number (said line.text) h.0 h.1) h.2 (λ next follows. exact_lines next lines answer follows)

  -- what files may answer
  exact_answer : (name : List ℕ) (limit : ℕ) (answer : Result (List ℕ) FileRefusal) → MayAnswer (Some entries) name limit answer → IsExact (content_of name answer) (content_of name (told entries name limit))
  exact_answer name limit (Ok content) h = inl (rw (h.0, le-ltb limit (length content) h.1) refl)
  exact_answer name limit (Err Failed) h = by (told_content entries name) refl
    where
      by : (o : Option (List ℕ)) → told_content entries name ≡ o → IsExact (content_of name (Err Failed)) (content_of name (told entries name limit))
      by None e = inl (rw e refl)
      by (Some content) e = inr (name, refl, λ lacks. absurd (let f : Some content ≡ None = sym e ∙ lacks in cc))
  exact_answer name limit (Err TooLong) h = by (told_content entries name) refl h
    where
      by : (o : Option (List ℕ)) → told_content entries name ≡ o → IsLonger (Some entries) name limit → IsExact (content_of name (Err TooLong)) (content_of name (told entries name limit))
      by None e longer = absurd (rw e at longer)
      by (Some content) e longer = inl (rw (e, lt-ltb limit (length content) (rw e at longer)) refl)
  exact_answer name limit (Err NoMemory) h = absurd h

  pub exact_include : (depths : ℕ) (conf : Conf) (number : ℕ) (name : List ℕ) (answer : Result Conf ConfRefused) → MayIncludeAt (Some entries) depths conf number name answer → IsExact answer (including (told entries) depths conf number name)
  exact_include zero conf number name answer h = inl h
  exact_include (suc depths) conf number name answer h =
      exact_then (content_of name h.0) (content_of name (told entries name conf.left)) answer
      (λ content. after_lines (including (told entries) depths) (within_file conf content) (logical_lines content) >>= λ inner. Ok (after_file conf inner)) _
      (exact_answer name conf.left h.0 h.1) h.2
      (λ content follows. exact_then follows.0 (after_lines (including (told entries) depths) (within_file conf content) (logical_lines content)) answer (λ inner. Ok (after_file conf inner)) (λ inner. answer ≡ Ok (after_file conf inner))
      (exact_lines (including (told entries) depths) (MayIncludeAt (Some entries) depths) (exact_include depths) (within_file conf content) (logical_lines content) follows.0 follows.1)
      (bound follows.0 follows.2) (λ inner e. inl e))
    where
      bound : (inner : Result Conf ConfRefused) → answer ≡ (inner >>= λ after. Ok (after_file conf after)) → Then inner (λ after. answer ≡ Ok (after_file conf after)) answer
      bound (Ok after) e = e
      bound (Err refusal) e = e
