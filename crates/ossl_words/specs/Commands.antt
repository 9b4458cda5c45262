-- The command set: the words that a program takes after its name, and the job that they ask for.
use Rattle.std.specs.Prelude.{ℕ, ◌-◌, ◌^◌, ◌==◌, Bool, true, false, ◌||◌, List, [], ◌∷◌, length, map, codes}
use Rattle.std.specs.Prelude.{Option, Some, None, option_and_then, option_map, if◌then◌else◌}
use Rattle.std.specs.List.{list_any}
use Rattle.std.specs.Str.{bytes_eq}
use Rattle.std.specs.String.{string_bytes}
use Rattle.std.specs.declared.string.String.{String}
use Rattle.ossl_words.specs.Numbers.{caller_of, number_of, order_of}
use Rattle.ossl_words.specs.Options.{Word, Given, Takes, given_by, value_at}
use Rattle.ossl_words.specs.declared.job.Job.{Job}
use Rattle.ossl_words.specs.declared.job.Job.TheVariants.{Run, Gen}

-- `run [--conf NAME] [--order LIST]`; a program with threads takes no order
abbrev pub run_takes : Bool → Takes
run_takes threads = record {
  options = (codes "conf", true) ∷ (if threads then [] else ((codes "order", true) ∷ []));
  places = [];
}

-- `gen N SEED [--callers K]`
abbrev pub gen_takes : Takes
gen_takes = record { options = (codes "callers", true) ∷ []; places = codes "lines" ∷ codes "seed" ∷ [] }

-- a name is not empty
abbrev pub name_of : Word → Option Word
name_of [] = None
name_of (byte ∷ text) = Some (byte ∷ text)

-- a value that may be absent is read where it is there
abbrev pub read_if_given : {A : Type 0} → (Word → Option A) → Option Word → Option (Option A)
read_if_given read None = Some None
read_if_given read (Some value) = option_map Some (read value)

-- a value that may be absent, with what stands for it then
abbrev pub read_or : {A : Type 0} → A → (Word → Option A) → Option Word → Option A
read_or absent read None = Some absent
read_or absent read (Some value) = read value

-- a run, where its parts were read
abbrev pub run_from : Option (Option Word) → Option (List ℕ) → Option Job
run_from (Some conf) (Some order) = Some (Run conf order false)
run_from _ _ = None

-- a run by the values of `--conf` and `--order`; without an order the list is empty
abbrev pub run_with : Option Word → Option Word → Option Job
run_with conf order = run_from (read_if_given name_of conf) (read_or [] order_of order)

-- a generated batch, where its parts were read
abbrev pub gen_from : Option ℕ → Option ℕ → Option ℕ → Option Job
gen_from (Some lines) (Some seed) (Some callers) = Some (Gen lines seed callers)
gen_from _ _ _ = None

-- N is from 1 to 65,536, and SEED below 2^64
abbrev pub lines_of : Word → Option ℕ
lines_of = number_of 1 65536

abbrev pub seed_of : Word → Option ℕ
seed_of = number_of 0 (2 ^ 64 - 1)

-- a generated batch by N, SEED and the value of `--callers`, of which there is one where none is given
abbrev pub gen_with : Option Word → Option Word → Option Word → Option Job
gen_with lines seed callers =
    gen_from (option_and_then lines_of lines) (option_and_then seed_of seed) (read_or 1 caller_of callers)

abbrev pub run_job : List Given → Option Job
run_job given = run_with (value_at (codes "conf") given) (value_at (codes "order") given)

abbrev pub gen_job : List Given → Option Job
gen_job given =
    gen_with (value_at (codes "lines") given) (value_at (codes "seed") given) (value_at (codes "callers") given)

-- the job of a command that is named by its first word
abbrev pub named_job : Bool → List Word → Option Job
named_job threads [] = None
named_job threads (name ∷ rest) =
    if bytes_eq (codes "run") name then option_and_then run_job (given_by (run_takes threads) rest)
    else (if bytes_eq (codes "gen") name then option_and_then gen_job (given_by gen_takes rest) else None)

-- an empty word, `-` or `--`, which stand nowhere
abbrev pub is_bare : Word → Bool
is_bare word = length word == 0 || (bytes_eq word (codes "-") || bytes_eq word (codes "--"))

-- the job that the words ask for, of a program with threads or one without
abbrev pub job_of : Bool → List Word → Option Job
job_of threads words = if list_any is_bare words then None else named_job threads words

-- words as lists of bytes
abbrev pub bytes_of : {A : Type 0} → List (String A) → List Word
bytes_of = map (λ word. string_bytes word)
