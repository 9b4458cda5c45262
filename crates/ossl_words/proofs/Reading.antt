-- What the functions that read the words cite.
use Rattle.std.proofs.Common.{◌≡◌, ◌∙◌, ℕ, refl, sym, ap, ap₂, subst, Bool, true, false, List, [], ◌∷◌, Option, Some, None, Result, Ok, Err, String, Global}
use Rattle.std.specs.Prelude.{IfOk, codes, option_and_then}
use Rattle.std.specs.List.{list_any}
use Rattle.std.specs.String.{string_bytes}
use Rattle.std.proofs.lemmas.Str.{IsUtf8-string_bytes}
use Rattle.clap.specs.Walk.{Row, Text, first_of}
use Rattle.clap.specs.Simple.{subcommand_rows_of}
use Rattle.clap.specs.declared.parser.matches.ArgMatches.{ArgMatches}
use Rattle.clap.proofs.WalkLemmas.{list_any-map}
use Rattle.ossl_words.specs.Answers.{Answers, ParsesTo}
use Rattle.ossl_words.specs.Apps.{words_app}
use Rattle.ossl_words.specs.Commands.{bytes_of, gen_from, is_bare, job_of, lines_of, name_of, named_job, read_if_given, read_or, run_from, seed_of}
use Rattle.ossl_words.specs.Numbers.{caller_of, order_of}
use Rattle.ossl_words.specs.Rows.{gen_rows, rows_job, run_rows}
use Rattle.ossl_words.specs.declared.job.Job.{Job}
use Rattle.ossl_words.specs.declared.job.Job.TheVariants.{Run, Gen}
use Rattle.ossl_words.specs.declared.job.WordsRefused.{WordsRefused}
use Rattle.ossl_words.specs.declared.job.WordsRefused.TheVariants.{Usage, NoMemory}
use Rattle.ossl_words.proofs.Fit.{AreUtf8, all_fit}
use Rattle.ossl_words.proofs.Subcommands.{Settles, settles}

abbrev Words : Type 0
Words = List (String Global)

all_utf8 : (words : Words) → AreUtf8 (bytes_of words)
all_utf8 [] = tt
all_utf8 (w ∷ ws) = (IsUtf8-string_bytes w, all_utf8 ws)

abbrev pub NoneBare : Words → Type 0
NoneBare words = false ≡ list_any (λ w. is_bare (string_bytes w)) words

none_bare : (words : Words) → NoneBare words → false ≡ list_any is_bare (bytes_of words)
none_bare words none = none ∙ list_any-map is_bare (λ (w : String Global). string_bytes w) words

-- a bare word is refused
pub bare_refused : (threads : Bool) (words : Words) → true ≡ list_any (λ w. is_bare (string_bytes w)) words → job_of threads (bytes_of words) ≡ None
bare_refused threads words some = rw (← (some ∙ list_any-map is_bare (λ (w : String Global). string_bytes w) words)) refl

job_is : (threads : Bool) (words : Words) → NoneBare words → job_of threads (bytes_of words) ≡ named_job threads (bytes_of words)
job_is threads words none = rw (← none_bare words none) refl

settled : (threads : Bool) (words : Words) → NoneBare words → Settles threads (bytes_of words)
settled threads words none = settles threads (bytes_of words) (all_fit (bytes_of words) (all_utf8 words) (sym (none_bare words none)))

-- what was found in the words answers as they do
pub found_answers : (threads : Bool) (words : Words) (r : Result Job WordsRefused) (m : ArgMatches) → NoneBare words
    → ParsesTo (words_app threads) (bytes_of words) (Ok m) → Answers r (rows_job (subcommand_rows_of m)) → Answers r (job_of threads (bytes_of words))
found_answers threads words r m none parse answers =
    subst (Answers r) (ap rows_job parse.1 ∙ (settled threads words none).0 parse.0 ∙ sym (job_is threads words none)) answers

pub refusal_answers : (threads : Bool) (words : Words) (e : WordsRefused) → NoneBare words
    → ParsesTo (words_app threads) (bytes_of words) (Err e) → Answers (Err e) (job_of threads (bytes_of words))
refusal_answers threads words Usage none parse = job_is threads words none ∙ (settled threads words none).1 parse
refusal_answers threads words NoMemory none parse = tt

-- an answer, clause by clause
pub answered_job : (r : Result Job WordsRefused) (said : Option Job) → Answers r said → IfOk r (λ job. said ≡ Some job)
answered_job (Ok job) said answers = answers
answered_job (Err e) said answers = tt

pub answered_usage : (r : Result Job WordsRefused) (said : Option Job) → Answers r said → r ≡ Err Usage → said ≡ None
answered_usage r said answers is = let here : Answers (Err Usage) said = subst (λ x. Answers x said) is answers in here

-- ---- the parts of a job

abbrev Conf : Type 0
Conf = Option (Option Text)

no_order : (conf : Conf) → run_from conf None ≡ None
no_order None = refl
no_order (Some name) = refl

no_seed : (lines callers : Option ℕ) → gen_from lines None callers ≡ None
no_seed None callers = refl
no_seed (Some n) callers = refl

no_callers : (lines seed : Option ℕ) → gen_from lines seed None ≡ None
no_callers None seed = refl
no_callers (Some n) None = refl
no_callers (Some n) (Some s) = refl

module _ (rows : List Row) where
  abbrev conf_said : Conf
  conf_said = read_if_given name_of (first_of (codes "conf") rows)

  abbrev order_said : Option (List ℕ)
  order_said = read_or [] order_of (first_of (codes "order") rows)

  abbrev lines_said : Option ℕ
  lines_said = option_and_then lines_of (first_of (codes "lines") rows)

  abbrev seed_said : Option ℕ
  seed_said = option_and_then seed_of (first_of (codes "seed") rows)

  abbrev callers_said : Option ℕ
  callers_said = read_or 1 caller_of (first_of (codes "callers") rows)

  pub conf_refused : (e : WordsRefused) → Answers (Err e) conf_said → Answers (Err e) (run_rows rows)
  conf_refused Usage is = ap (λ conf. run_from conf order_said) is
  conf_refused NoMemory is = tt

  pub order_refused : (e : WordsRefused) → Answers (Err e) order_said → Answers (Err e) (run_rows rows)
  order_refused Usage is = ap (run_from conf_said) is ∙ no_order conf_said
  order_refused NoMemory is = tt

  pub run_read : (conf : Option Text) (order : List ℕ) → conf_said ≡ Some conf → order_said ≡ Some order → run_rows rows ≡ Some (Run conf order false)
  run_read conf order a b = ap₂ run_from a b

  pub lines_refused : None ≡ lines_said → None ≡ gen_rows rows
  lines_refused is = ap (λ lines. gen_from lines seed_said callers_said) is

  pub seed_refused : None ≡ seed_said → None ≡ gen_rows rows
  seed_refused is = sym (no_seed lines_said callers_said) ∙ ap (λ seed. gen_from lines_said seed callers_said) is

  pub callers_refused : None ≡ callers_said → None ≡ gen_rows rows
  callers_refused is = sym (no_callers lines_said seed_said) ∙ ap (gen_from lines_said seed_said) is

  pub gen_read : (n s k : ℕ) → Some n ≡ lines_said → Some s ≡ seed_said → Some k ≡ callers_said → Some (Gen n s k) ≡ gen_rows rows
  gen_read n s k a b d = ap (λ lines. gen_from lines (Some s) (Some k)) a ∙ ap₂ (gen_from lines_said) b d
