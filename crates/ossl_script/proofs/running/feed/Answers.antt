use Rattle.std.proofs.Common.{ℕ, List, ◌++◌, Some, Result, Err, sym, ap, subst}
use Rattle.ossl_script.specs.declared.bound.Bound.TheVariants as kept
use Rattle.ossl_script.specs.declared.checks.Halt.{Halt}
use Rattle.ossl_script.specs.declared.checks.Halt.TheVariants as halts
use Rattle.ossl_script.specs.declared.outcome.Outcome.{Outcome}
use Rattle.ossl_script.specs.declared.outcome.Outcome.TheVariants.{Done}
use Rattle.ossl_script.specs.Bindings.{Bindings, Operating, bind}
use Rattle.ossl_script.specs.Bindings.Binding.{running}
use Rattle.ossl_script.specs.Course.{Course, by_running, uses_running}
use Rattle.ossl_script.specs.Course.Course.{said}
use Rattle.ossl_script.specs.Given.{content_by, fed_by}
use Rattle.ossl_op.specs.Running.{Runs}
use Rattle.ossl_script.specs.declared.bound.Running.{Running}
use Rattle.ossl_script.specs.Names.{Names, Rebinds, work_of}
use Rattle.ossl_script.specs.Stages.{TakesRunning, Tells}
use Rattle.ossl_script.proofs.CheckLaws.{handed}
use Rattle.ossl_script.proofs.NameLaws.{agree_bound, rebinds_twice, stood_at}
use Rattle.ossl_script.proofs.running.feed.Goals as goal

-- where no operation runs, the command halts
halted : (old new : Names) (name : List ℕ) (halt : Halt) (rest : Bindings → Operating → Course) → TakesRunning old new name (Err halt)
    → Tells old new (Err halt) (λ bindings. uses_running name bindings (rest bindings))
halted old new name (halts.Said outcome) rest took = λ bindings agree.
    let so = took bindings (rest bindings) agree in (bindings, so.0, so.1)
halted old new name halts.NoMemory rest took = tt

pub returns-in_err-running : goal.returns-in_err-running
returns-in_err-running c =
    let content = content_by c.args.contents.now in
    let name = c.args.name.now in
    let rest = λ (bindings : Bindings) (operating : Operating).
    said Done (bind name (running (record operating { fed = operating.fed ++ fed_by content c.args.arguments.now })) bindings) in
    let halt = c.in_err-running.field-0.0 in
    subst (λ (r : Result Outcome Halt). Tells c.args.names.now c.take_running.new.names r (λ bindings. uses_running name bindings (rest bindings)))
    (sym (handed c.from_residual.result halt c.from_residual.ensures))
    (halted c.args.names.now c.take_running.new.names name halt rest c.in_err-running.ensures)

pub returns : goal.returns
returns c = λ bindings agree.
    let name = c.args.name.now in
    let bytes = fed_by (content_by c.args.contents.now) c.args.arguments.now in
    let taken = c.in_ok-running.ensures in
    let fed = c.in_ok-feed_all.ensures in
    let stood = stood_at c.args.names.now name c.in_ok-running.running taken.0 bindings agree in
    let one : Running = record { token = c.in_ok-running.running.token; context = c.feed_all.new.context; given = c.feed_all.new.given } in
    let later : Operating = record stood.0 { fed = stood.0.fed ++ bytes } in
    let runs = subst (λ (given : List ℕ). Runs c.feed_all.new.context (work_of later given)) (sym fed.appended)
    (fed.runs (work_of stood.0 c.in_ok-running.running.given.items) stood.3) in
    let rebinds = subst (λ (key : List ℕ). Rebinds c.take_running.new.names c.bind.new.names key (Some (kept.Running one))) c.as_slice.ensures.bytes c.in_ok-bind.ensures in
    let go = λ (operating : Operating). said Done (bind name (running (record operating { fed = operating.fed ++ bytes })) bindings) in (
      bind name (running later) bindings,
      agree_bound c.args.names.now c.bind.new.names name (kept.Running one) (running later)
          (rebinds_twice c.args.names.now c.take_running.new.names c.bind.new.names name (Some (kept.Running one)) taken.1 rebinds) (stood.2, runs) bindings agree,
      ap (by_running name bindings go) stood.1,
    )
