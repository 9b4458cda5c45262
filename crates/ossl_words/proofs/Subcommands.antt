-- The parse of the program's words, and the job.
use Rattle.std.proofs.Common.{◌≡◌, ◌∙◌, refl, sym, ap, ap₂, Bool, true, false, inl, inr, List, [], ◌∷◌, Option, Some, None, is_some}
use Rattle.std.specs.Prelude.{slice_get, codes, fold, find, option_map, option_and_then, if◌then◌else◌}
use Rattle.std.specs.List.{list_all}
use Rattle.std.specs.Str.{bytes_eq}
use Rattle.std.proofs.lemmas.Bool.{and_parts, or_right}
use Rattle.clap.specs.Kinds.{Kinds, or_else}
use Rattle.clap.specs.Faults.{turn_fault, defaults_fault, walk_fault, level_fault, fault_of, settle_fault, check_fault, entered_fault, flags_fault}
use Rattle.clap.specs.Walk.{Names, Row, Rule, Text, Walk, has_row, is_empty, finished, settled, nothing_held, rows_after, walk_from, with_default, walk, walked, first_of}
use Rattle.clap.specs.Simple.{Shape, built, subcommand_of, names_of, entered}
use Rattle.clap.specs.declared.error.kind.ErrorKind.TheVariants.{UnknownArgument, InvalidSubcommand}
use Rattle.clap.proofs.WalkLemmas.{walk_stopped, find-map}
use Rattle.clap.proofs.FaultLemmas.{stopped_fault}
use Rattle.clap.proofs.SimpleLemmas.{is_nil}
use Rattle.ossl_words.specs.declared.job.Job.{Job}
use Rattle.ossl_words.specs.Options.{Given, Takes, given_at, given_by, value_at}
use Rattle.ossl_words.specs.Commands.{run_takes, gen_takes, run_job, gen_job, run_with, gen_with, named_job}
use Rattle.ossl_words.specs.Rows.{run_rows, gen_rows, rows_job}
use Rattle.ossl_words.specs.Apps.{words_app}
use Rattle.ossl_words.proofs.Walks.{Agrees, AreFit, Fails, IsFit, first_fails, some_kind, values_of, or_else_nil, outcome, row, rows}
use Rattle.ossl_words.proofs.Tables.{run_shape, gen_shape, run_level, gen_level}

-- ---- defaults, of which there are none

abbrev no_defaults : List Rule → Bool
no_defaults = list_all (λ a. is_empty a.defaults)

default_stays : (rs : List Row) (a : Rule) → is_empty a.defaults ≡ true → with_default rs a ≡ rs
default_stays rs a e = rw (is_nil a.defaults e) (go (has_row a.id rs))
  where
    go : (b : Bool) → (if b then rs else rs) ≡ rs
    go true = refl
    go false = refl

defaults_stay : (rs : List Row) (c : List Rule) → no_defaults c ≡ true → fold with_default rs c ≡ rs
defaults_stay rs [] e = refl
defaults_stay rs (a ∷ c) e =
    let parts = and_parts (is_empty a.defaults) (no_defaults c) e in
    ap (λ x. fold with_default x c) (default_stays rs a parts.0) ∙ defaults_stay rs c parts.1

defaults_pass : (rs : List Row) (c : List Rule) → no_defaults c ≡ true → defaults_fault rs c ≡ []
unfolding defaults_fault
defaults_pass rs [] e = refl
defaults_pass rs (a ∷ c) e =
    let parts = and_parts (is_empty a.defaults) (no_defaults c) e in
    rw (or_right (has_row a.id rs) (is_empty a.defaults) parts.0) (defaults_pass (with_default rs a) c parts.1)

-- ---- one level

-- a level with no default and nothing to check behind the walk
pub record IsBare (s : Shape) : Type 0 where
  pub none : no_defaults s.rules ≡ true
  pub checks : (rs : List Row) → check_fault s rs false ≡ []

level_is : (s : Shape) (words : List Text) → IsBare s → level_fault s [] nothing_held words false [] ≡ (outcome s (walk_from nothing_held) words).0
level_is s words bare =
    let end = (walk s.rules [] nothing_held words).held in
    let settle = settle_fault s.rules s.args_override_self end in
    ap₂ (λ d k. or_else (walk_fault s [] (walk_from nothing_held) words) (or_else settle (or_else d k)))
    (defaults_pass (settled s.rules end).rows s.rules bare.none) (bare.checks (finished s.rules end))
    ∙ ap (or_else (walk_fault s [] (walk_from nothing_held) words)) (or_else_nil settle)

rows_are : (s : Shape) (words : List Text) → IsBare s → rows_after s.rules [] words ≡ (outcome s (walk_from nothing_held) words).1
rows_are s words bare = defaults_stay (settled s.rules (walk s.rules [] nothing_held words).held).rows s.rules bare.none

-- ---- the name of the subcommand

abbrev top : Bool → Shape
top threads = (built (words_app threads)).top

abbrev names : Bool → Names
names threads = names_of (built (words_app threads))

abbrev start : Walk
start = walk_from nothing_held

abbrev stop_at : Text → List Text → Walk
stop_at name rest = record start { stopped = Some (name, rest) }

-- what a parse fails by, once the walk at the top is known
abbrev top_fault : Bool → Kinds → Walk → Kinds
top_fault threads found w = or_else found (or_else (entered_fault (built (words_app threads)) w.stopped)
    (or_else (settle_fault (top threads).rules (top threads).args_override_self w.held)
    (or_else (defaults_fault (settled (top threads).rules w.held).rows (top threads).rules)
    (check_fault (top threads) (finished (top threads).rules w.held) (is_some (entered (built (words_app threads)) w.stopped))))))

top_is : (threads : Bool) (words : List Text)
    → fault_of (words_app threads) words ≡ top_fault threads (walk_fault (top threads) (names threads) start words) (walk (top threads).rules (names threads) nothing_held words)
top_is threads words = refl

abbrev pub Settles : Bool → List Text → Type 0
Settles threads words = (fault_of (words_app threads) words ≡ [] → rows_job (subcommand_of (words_app threads) words) ≡ named_job threads words)
    × (Fails (fault_of (words_app threads) words) → named_job threads words ≡ None)

-- a first word that names a subcommand: what the walk makes of it, what the subcommand takes, and its job
record NamesCommand (threads : Bool) (w : Text) : Type 0 where
  name : Text
  takes : Takes
  shape : Shape
  job : List Given → Option Job
  from_rows : List Row → Option Job
  stops : walked (top threads).rules (names threads) start w ≡ stop_at name []
  passes : turn_fault (top threads) (names threads) start w ≡ []
  enters : (rest : List Text) → top_fault threads [] (stop_at name rest) ≡ or_else (level_fault shape [] nothing_held rest false []) []
  finds : (rest : List Text) → rows_job (entered (built (words_app threads)) (Some (name, rest))) ≡ from_rows (rows_after shape.rules [] rest)
  reads : (rest : List Text) → named_job threads (w ∷ rest) ≡ option_and_then job (given_by takes rest)
  same : (gs : List Given) → from_rows (rows gs) ≡ job gs
  bare : IsBare shape
  level : (words : List Text) → AreFit words → Agrees (outcome shape start words) (given_by takes words)

module _ (threads : Bool) (w : Text) (n : NamesCommand threads w) (rest : List Text) (fit : AreFit rest) where
  walk_is : walk (top threads).rules (names threads) nothing_held (w ∷ rest) ≡ stop_at n.name rest
  walk_is = ap (λ x. fold (walked (top threads).rules (names threads)) x rest) n.stops
      ∙ sym (walk_stopped (top threads).rules (names threads) start n.name [] rest)

  found : walk_fault (top threads) (names threads) start (w ∷ rest) ≡ []
  unfolding walk_fault
  found = ap₂ (λ k x. or_else k (walk_fault (top threads) (names threads) x rest)) n.passes n.stops
      ∙ stopped_fault (top threads) (names threads) start (n.name, []) rest

  fault_is : fault_of (words_app threads) (w ∷ rest) ≡ (outcome n.shape start rest).0
  fault_is = top_is threads (w ∷ rest) ∙ ap₂ (top_fault threads) found walk_is ∙ n.enters rest
      ∙ or_else_nil (level_fault n.shape [] nothing_held rest false []) ∙ level_is n.shape rest n.bare

  rows_job_is : rows_job (subcommand_of (words_app threads) (w ∷ rest)) ≡ n.from_rows (rows_after n.shape.rules [] rest)
  rows_job_is = ap (λ x. rows_job (entered (built (words_app threads)) x.stopped)) walk_is ∙ n.finds rest

  command_settles : Settles threads (w ∷ rest)
  command_settles = go (given_by n.takes rest) refl (n.level rest fit)
    where
      job_is : (o : Option (List Given)) → given_by n.takes rest ≡ o → named_job threads (w ∷ rest) ≡ option_and_then n.job o
      job_is o r = n.reads rest ∙ ap (option_and_then n.job) r

      go : (o : Option (List Given)) → given_by n.takes rest ≡ o → Agrees (outcome n.shape start rest) o → Settles threads (w ∷ rest)
      go None r a = (λ none. absurd (a (sym fault_is ∙ none)), λ f. job_is None r)
      go (Some gs) r a = (
        λ none. rows_job_is ∙ ap n.from_rows (rows_are n.shape rest n.bare ∙ a.1) ∙ n.same gs ∙ sym (job_is (Some gs) r),
        λ f. absurd (f (fault_is ∙ a.0)),
      )

-- ---- the job, by rows

find_rows : (name : Text) (gs : List Given) → find (λ r. bytes_eq r.id name) (rows gs) ≡ option_map row (given_at name gs)
find_rows name gs = sym (find-map (λ r. bytes_eq r.id name) row gs)

first_rows : (name : Text) (gs : List Given) → first_of name (rows gs) ≡ value_at name gs
first_rows name gs = ap (option_and_then (λ r. slice_get r.values 0)) (find_rows name gs) ∙ go (given_at name gs)
  where
    here : (v : Option Text) → slice_get (values_of v) 0 ≡ v
    here None = refl
    here (Some v) = refl

    go : (o : Option Given) → option_and_then (λ r. slice_get r.values 0) (option_map row o) ≡ option_and_then (λ g. g.value) o
    go None = refl
    go (Some g) = here g.value

run_is : (gs : List Given) → run_rows (rows gs) ≡ run_job gs
run_is gs = ap₂ run_with (first_rows (codes "conf") gs) (first_rows (codes "order") gs)

gen_is : (gs : List Given) → gen_rows (rows gs) ≡ gen_job gs
gen_is gs = ap₂ (λ f c. f c) (ap₂ gen_with (first_rows (codes "lines") gs) (first_rows (codes "seed") gs)) (first_rows (codes "callers") gs)

-- ---- the two commands

run_bare : (threads : Bool) → IsBare (run_shape threads)
run_bare true = record { none = refl; checks = λ rs. refl }
run_bare false = record { none = refl; checks = λ rs. refl }

run_stops : (threads : Bool) (w : Text) → bytes_eq (codes "run") w ≡ true → walked (top threads).rules (names threads) start w ≡ stop_at (codes "run") []
unfolding walked
run_stops threads w e = rw (e) refl

run_enters : (threads : Bool) (rest : List Text) → top_fault threads [] (stop_at (codes "run") rest) ≡ or_else (level_fault (run_shape threads) [] nothing_held rest false []) []
unfolding defaults_fault
run_enters threads rest = refl

names_run : (threads : Bool) (w : Text) → bytes_eq (codes "run") w ≡ true → NamesCommand threads w
names_run threads w e = record {
  name = codes "run";
  takes = run_takes threads;
  shape = run_shape threads;
  job = run_job;
  from_rows = run_rows;
  stops = run_stops threads w e;
  passes = rw (e) refl;
  enters = run_enters threads;
  finds = λ rest. refl;
  reads = λ rest. rw (e) refl;
  same = run_is;
  bare = run_bare threads;
  level = run_level threads;
}

gen_stops : (threads : Bool) (w : Text) → bytes_eq (codes "run") w ≡ false → bytes_eq (codes "gen") w ≡ true
    → walked (top threads).rules (names threads) start w ≡ stop_at (codes "gen") []
unfolding walked
gen_stops threads w n e = rw (n, e) refl

gen_enters : (threads : Bool) (rest : List Text) → top_fault threads [] (stop_at (codes "gen") rest) ≡ or_else (level_fault (gen_shape threads) [] nothing_held rest false []) []
unfolding defaults_fault
gen_enters threads rest = refl

names_gen : (threads : Bool) (w : Text) → bytes_eq (codes "run") w ≡ false → bytes_eq (codes "gen") w ≡ true → NamesCommand threads w
names_gen threads w n e = record {
  name = codes "gen";
  takes = gen_takes;
  shape = gen_shape threads;
  job = gen_job;
  from_rows = gen_rows;
  stops = gen_stops threads w n e;
  passes = rw (n, e) refl;
  enters = gen_enters threads;
  finds = λ rest. refl;
  reads = λ rest. rw (n, e) refl;
  same = gen_is;
  bare = record { none = refl; checks = λ rs. refl };
  level = gen_level threads;
}

-- ---- no other name

turn_other : (threads : Bool) (w : Text) → bytes_eq (codes "run") w ≡ false → bytes_eq (codes "gen") w ≡ false → IsFit w
    → Fails (turn_fault (top threads) (names threads) start w)
unfolding flags_fault
turn_other threads w n m fit = elim fit [
  | inl p ↦ rw (n, m, p.not_end, p.no_long, p.no_short) (some_kind UnknownArgument (InvalidSubcommand ∷ []))
  | inr other ↦ elim other [
    | inl l ↦ rw (n, m, l.not_end, l.is_long) (some_kind UnknownArgument [])
    | inr p ↦ rw (n, m, p.not_end, p.no_long, p.is_short, p.starts) (some_kind UnknownArgument [])
  ]
]

fault_other : (threads : Bool) (w : Text) (rest : List Text) → bytes_eq (codes "run") w ≡ false → bytes_eq (codes "gen") w ≡ false → IsFit w
    → Fails (fault_of (words_app threads) (w ∷ rest))
unfolding walk_fault
fault_other threads w rest n m fit = first_fails _ _ (first_fails _ _ (turn_other threads w n m fit))

-- the parse fails exactly where the words name no job's command or give it what it does not take, and else it finds what they give
pub settles : (threads : Bool) (words : List Text) → AreFit words → Settles threads words
settles threads [] fit = (λ none. refl, λ f. refl)
settles threads (w ∷ rest) fit = (elim (bytes_eq (codes "run") w) as (λ b. bytes_eq (codes "run") w ≡ b → Settles threads (w ∷ rest)) [
  | true ↦ λ e. command_settles threads w (names_run threads w e) rest fit.1
  | false ↦ λ n. (elim (bytes_eq (codes "gen") w) as (λ b. bytes_eq (codes "gen") w ≡ b → Settles threads (w ∷ rest)) [
    | true ↦ λ e. command_settles threads w (names_gen threads w n e) rest fit.1
    | false ↦ λ m. (λ none. absurd (fault_other threads w rest n m fit.0 none), λ f. rw (n, m) refl)
  ]) refl
]) refl
