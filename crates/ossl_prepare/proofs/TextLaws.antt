-- The text of a batch, and the checks of a whole top call where all is told.
use Rattle.std.proofs.Common.{◌≡◌, ◌⊎◌, ℕ, ◌<◌, ◌≤◌, true, false, nat_lt, List, ◌++◌, length, refl, sym, ap, subst, ◌∙◌, arith, append-nil, inl, inr, Result, Ok, Err}
use Rattle.std.specs.Prelude.{Option, Some, None, IfSome}
use Rattle.std.specs.Io.KnownBytes.{Consumes, IsAtEnd}
use Rattle.std.proofs.lemmas.Bool.Decides.{nat_tests}
use Rattle.ossl_base.specs.Causes.{Rose}
use Rattle.ossl_base.specs.Files.{Entries}
use Rattle.ossl_commands.specs.declared.limit.Limit.TheVariants as limits
use Rattle.ossl_commands.specs.Limit.{most_of}
use Rattle.ossl_conf.specs.Answers.{told}
use Rattle.ossl_prepare.specs.declared.error_line.ErrorLine.{ErrorLine}
use Rattle.ossl_prepare.specs.declared.error_line.ErrorLine.TheVariants.{Read, Limit}
use Rattle.ossl_prepare.specs.Answered.{IsDue, Then}
use Rattle.ossl_prepare.specs.Due.{◌>>=◌, due_batch}
use Rattle.ossl_prepare.specs.View.{PreparedView}
use Rattle.ossl_prepare.proofs.DueLaws.{due_is_told}
use Rattle.ossl_words.specs.Commands.{job_of}
use Rattle.ossl_words.specs.declared.job.Job.{Job}
use Rattle.ossl_words.specs.declared.job.Job.TheVariants.{Run, Gen}
use Rattle.ossl_prepare.specs.declared.reading.Task.{Task}
use Rattle.ossl_prepare.specs.Task.{DueRunIsTold, Inputs, IsDueOf, IsText, conf_of, due_job, task_with, text_of}

-- all that was left was taken
pub whole_text : (old new : Option (List ℕ)) (text : List ℕ) → Consumes old new text → IsAtEnd new → IfSome old (λ bytes. bytes ≡ text)
whole_text None new text taken ended = tt
whole_text (Some bs) None text taken ended = absurd taken
whole_text (Some bs) (Some rest) text taken ended = taken ∙ ap (λ l. text ++ l) ended ∙ append-nil text

module _ (inputs : Inputs) (bytes : List ℕ) (entries : Entries) (left : inputs.left ≡ Some bytes) (are : inputs.files.entries ≡ Some entries) where
  abbrev Failed : Type 0
  Failed = Rose inputs.before inputs.after ⊎ Rose inputs.files.before inputs.files.after

  abbrev Exact : {A : Type 0} → Result A ErrorLine → Result A ErrorLine → Type 0
  Exact {A} said result = (result ≡ said) ⊎ ((result ≡ Err Read) × Failed)

  text_exact : (job : Job) (text : Result (List ℕ) ErrorLine) → IsText inputs.left inputs.before inputs.after job text → Exact (text_of job bytes) text
  text_exact (Gen lines seed callers) text is = inl is
  text_exact (Run conf order hits) (Ok text) is =
      let same : bytes ≡ text = rw left at is.0 in
      let fits : nat_lt (most_of limits.Bytes) (length bytes) ≡ false = let short : length bytes ≤ 16777216 = subst (λ t. length t ≤ 16777216) (sym same) is.1 in grind (arith, nat_tests) in
      inl (rw fits (ap Ok (sym same)))
  text_exact (Run conf order hits) (Err Read) is = inr (refl, inl is)
  text_exact (Run conf order hits) (Err (Limit limits.Bytes)) is =
      let long : 16777216 < length bytes = rw left at is in
      let passes : nat_lt (most_of limits.Bytes) (length bytes) ≡ true = grind (arith, nat_tests) in
      inl (rw passes refl)
  text_exact (Run conf order hits) (Err error) is = absurd is

  task_exact : (job : Job) (text : List ℕ) (result : Result Task ErrorLine) → (prepared : Result PreparedView ErrorLine) × IsDue inputs.files (conf_of job) text prepared × (result ≡ prepared >>= λ p. Ok (task_with job p)) →
      Exact (due_batch (told entries) (conf_of job) text >>= λ p. Ok (task_with job p)) result
  task_exact job text result (prepared, due, same) = of (due_is_told inputs.files entries (conf_of job) text prepared are due)
    where
      of : (prepared ≡ due_batch (told entries) (conf_of job) text) ⊎ (prepared ≡ Err Read) × Rose inputs.files.before inputs.files.after → Exact (due_batch (told entries) (conf_of job) text >>= λ p. Ok (task_with job p)) result
      of (inl exact) = inl (same ∙ ap (λ s. s >>= λ p. Ok (task_with job p)) exact)
      of (inr failed) = inr (same ∙ ap (λ s. s >>= λ p. Ok (task_with job p)) failed.0, inr failed.1)

  job_exact : (o : Option Job) (result : Result Task ErrorLine) → IsDueOf inputs o result → Exact (due_job (told entries) bytes o) result
  job_exact None result is = inl is
  job_exact (Some job) result (text, is, then_) = of text (text_exact job text is) then_
    where
      of : (text : Result (List ℕ) ErrorLine) → Exact (text_of job bytes) text →
          Then text (λ t. (prepared : Result PreparedView ErrorLine) × IsDue inputs.files (conf_of job) t prepared × (result ≡ prepared >>= λ p. Ok (task_with job p))) result →
          Exact (text_of job bytes >>= λ text. due_batch (told entries) (conf_of job) text >>= λ prepared. Ok (task_with job prepared)) result
      of (Ok t) (inl same) then_ = rw (← same) (task_exact job t result then_)
      of (Err error) (inl same) then_ = rw (← same) (inl then_)
      of (Ok t) (inr failed) then_ = let never : ◌≡◌ {A = Result (List ℕ) ErrorLine} (Ok t) (Err Read) = failed.0 in cc
      of (Err error) (inr failed) then_ =
          let same : ◌≡◌ {A = Result (List ℕ) ErrorLine} (Err error) (Err Read) = failed.0 in
          let read_ : error ≡ Read = cc in
          inr (then_ ∙ ap Err read_, failed.1)

pub due_run_is_told : DueRunIsTold
due_run_is_told inputs bytes entries result left are due = job_exact inputs bytes entries left are (job_of inputs.threads inputs.words) result due
