-- A generated batch has callers.
use Rattle.std.proofs.Common.{◌≡◌, ℕ, ◌≤◌, Bool, true, false, nat_lt, List, [], ◌∷◌, refl, sym, ap, subst, arith, inl, inr, if◌then◌else◌, Ok, Err}
use Rattle.std.specs.Prelude.{Option, Some, None, option_and_then}
use Rattle.std.specs.Str.{bytes_eq}
use Rattle.std.specs.Str.Parse.{digits_value}
use Rattle.std.specs.List.{list_any}
use Rattle.std.specs.Prelude.{codes}
use Rattle.std.proofs.lemmas.Bool.{cases_Bool}
use Rattle.std.proofs.lemmas.Bool.Decides.{nat_tests}
use Rattle.ossl_prepare.specs.declared.error_line.ErrorLine.TheVariants.{Usage}
use Rattle.ossl_prepare.specs.declared.reading.Task.{Task}
use Rattle.ossl_prepare.specs.declared.refused.Refused.{Refused}
use Rattle.ossl_prepare.specs.declared.refused.Refused.TheVariants.{Error, NoMemory}
use Rattle.ossl_prepare.specs.Answered.{ButForMemory, IsDue}
use Rattle.ossl_prepare.specs.Task.{HasCallers, Inputs, IsDueOf, IsText, conf_of, job_or}
use Rattle.ossl_prepare.specs.View.{PreparedView}
use Rattle.ossl_words.specs.Commands.{gen_from, lines_of, run_from, seed_of, gen_job, gen_takes, gen_with, is_bare, job_of, name_of, named_job, read_if_given, read_or, run_job, run_takes, run_with}
use Rattle.ossl_words.specs.Numbers.{caller_of, is_decimal, kept_within, order_of}
use Rattle.ossl_words.specs.Options.{Word, given_by, value_at}
use Rattle.ossl_words.specs.declared.job.Job.{Job}

abbrev IfJob : Option Job → Type 0
IfJob None = Unit {0}
IfJob (Some job) = HasCallers job

if_job : (b : Bool) (x y : Option Job) → IfJob x → IfJob y → IfJob (if b then x else y)
if_job true x y hx hy = hx
if_job false x y hx hy = hy

then_job : {A : Type 0} (f : A → Option Job) (o : Option A) → ((a : A) → IfJob (f a)) → IfJob (option_and_then f o)
then_job {A} f None all = tt
then_job {A} f (Some a) all = all a

kept_some : (n k : ℕ) → kept_within 1 16 n ≡ Some k → 1 ≤ k
kept_some n k is = elim (cases_Bool (nat_lt n 1)) [
  | inl less ↦ let never : None ≡ Some k = rw less at is in cc
  | inr more ↦ elim (cases_Bool (nat_lt 16 n)) [
    | inl above ↦ let never : None ≡ Some k = rw (more, above) at is in cc
    | inr within ↦
        let some : Some n ≡ Some k = rw (more, within) at is in
        let same : n ≡ k = cc in
        let least : 1 ≤ n = grind (arith, nat_tests) in
        omega (arith, same, least)
  ]
]

number_some : (b : Bool) (n k : ℕ) → (if b then kept_within 1 16 n else None) ≡ Some k → 1 ≤ k
number_some true n k is = kept_some n k is
number_some false n k is = cc

callers_some : (callers : Option Word) (k : ℕ) → read_or 1 caller_of callers ≡ Some k → 1 ≤ k
callers_some None k is = let same : 1 ≡ k = cc in omega (arith, same)
callers_some (Some value) k is = number_some (is_decimal value) (digits_value 10 value) k is

from_parts : (lines seed callers : Option ℕ) → ((k : ℕ) → callers ≡ Some k → 1 ≤ k) → IfJob (gen_from lines seed callers)
from_parts (Some lines) (Some seed) (Some callers) some = some callers refl
from_parts (Some lines) (Some seed) None some = tt
from_parts (Some lines) None callers some = tt
from_parts None seed callers some = tt

gen_callers : (lines seed callers : Option Word) → IfJob (gen_with lines seed callers)
gen_callers lines seed callers = from_parts (option_and_then lines_of lines) (option_and_then seed_of seed) (read_or 1 caller_of callers) (λ k is. callers_some callers k is)

from_both : (conf : Option (Option Word)) (order : Option (List ℕ)) → IfJob (run_from conf order)
from_both (Some conf) (Some order) = tt
from_both (Some conf) None = tt
from_both None order = tt

run_callers : (conf order : Option Word) → IfJob (run_with conf order)
run_callers conf order = from_both (read_if_given name_of conf) (read_or [] order_of order)

named_callers : (threads : Bool) (words : List Word) → IfJob (named_job threads words)
named_callers threads [] = tt
named_callers threads (name ∷ rest) =
    if_job (bytes_eq (codes "run") name) (option_and_then run_job (given_by (run_takes threads) rest)) (if bytes_eq (codes "gen") name then option_and_then gen_job (given_by gen_takes rest) else None)
    (then_job run_job (given_by (run_takes threads) rest) (λ given. run_callers (value_at (codes "conf") given) (value_at (codes "order") given)))
    (if_job (bytes_eq (codes "gen") name) (option_and_then gen_job (given_by gen_takes rest)) None
    (then_job gen_job (given_by gen_takes rest) (λ given. gen_callers (value_at (codes "lines") given) (value_at (codes "seed") given) (value_at (codes "callers") given))) tt)

job_callers : (threads : Bool) (words : List Word) → IfJob (job_of threads words)
job_callers threads words = if_job (list_any is_bare words) None (named_job threads words) tt (named_callers threads words)

pub has_callers : (threads : Bool) (words : List Word) (job : Job) → job_of threads words ≡ Some job → HasCallers job
has_callers threads words job is = let all : IfJob (job_of threads words) = job_callers threads words in subst IfJob is all

-- the job of words that are in the command set
pub job_is : (o : Option Job) (job : Job) → Ok job ≡ job_or o → o ≡ Some job
job_is None job is = cc
job_is (Some other) job is = let same : job ≡ other = cc in ap Some (sym same)

-- words that are not end in usage
pub job_refused : (inputs : Inputs) (o : Option Job) (e : Refused) → ButForMemory {A = Job} (Err e) (λ answer. answer ≡ job_or o) → ButForMemory {A = Task} (Err e) (IsDueOf inputs o)
job_refused inputs None (Error error) h = let usage : error ≡ Usage = cc in ap Err usage
job_refused inputs (Some job) (Error error) h = cc
job_refused inputs o NoMemory h = tt

-- an error of the batch, its files or its configuration
pub prepared_refused : (inputs : Inputs) (o : Option Job) (job : Job) (text : List ℕ) (e : Refused) → o ≡ Some job → IsText inputs.left inputs.before inputs.after job (Ok text) →
    ButForMemory {A = PreparedView} (Err e) (IsDue inputs.files (conf_of job) text) → ButForMemory {A = Task} (Err e) (IsDueOf inputs o)
prepared_refused inputs o job text (Error error) is read h = rw is (Ok text, read, (Err error, h, refl))
prepared_refused inputs o job text NoMemory is read h = tt
