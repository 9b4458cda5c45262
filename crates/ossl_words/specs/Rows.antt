-- The job, by the values that `clap` found under each name.
use Rattle.std.specs.Prelude.{List, Option, Some, None, if◌then◌else◌, codes}
use Rattle.std.specs.Str.{bytes_eq}
use Rattle.clap.specs.Walk.{Row, Text, first_of}
use Rattle.ossl_words.specs.Commands.{run_with, gen_with}
use Rattle.ossl_words.specs.declared.job.Job.{Job}

abbrev pub run_rows : List Row → Option Job
run_rows rows = run_with (first_of (codes "conf") rows) (first_of (codes "order") rows)

abbrev pub gen_rows : List Row → Option Job
gen_rows rows =
    gen_with (first_of (codes "lines") rows) (first_of (codes "seed") rows) (first_of (codes "callers") rows)

-- the job of the subcommand that was met
abbrev pub rows_job : Option (Text × List Row) → Option Job
rows_job None = None
rows_job (Some met) =
    if bytes_eq (codes "run") met.0 then run_rows met.1
    else (if bytes_eq (codes "gen") met.0 then gen_rows met.1 else None)
