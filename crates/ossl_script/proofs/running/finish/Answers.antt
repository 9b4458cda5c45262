use Rattle.std.proofs.Common.{ℕ, List, Some, Result, Err, refl, sym, ap, ◌∙◌, subst}
use Rattle.ossl_script.specs.declared.bound.Bound.TheVariants as kept
use Rattle.ossl_script.specs.declared.checks.Halt.{Halt}
use Rattle.ossl_script.specs.declared.checks.Halt.TheVariants as halts
use Rattle.ossl_script.specs.declared.outcome.Outcome.{Outcome}
use Rattle.ossl_script.specs.Bindings.{Bindings, Operating, bind}
use Rattle.ossl_script.specs.Bindings.Binding.{finished}
use Rattle.ossl_script.specs.Course.{Course, by_running, uses_running}
use Rattle.ossl_script.specs.Course.Course.{said}
use Rattle.ossl_op.specs.Standard.{standard_result}
use Rattle.ossl_script.specs.Outcome.{finished_outcome}
use Rattle.ossl_script.specs.Names.{Names, Rebinds, work_of}
use Rattle.ossl_script.specs.Stages.{TakesRunning, Tells}
use Rattle.ossl_script.proofs.CheckLaws.{handed}
use Rattle.ossl_script.proofs.NameLaws.{agree_bound, rebinds_twice, stood_at}
use Rattle.ossl_script.proofs.running.finish.Goals as goal

-- where no operation runs, the command halts
halted : (old new : Names) (name : List ℕ) (halt : Halt) (rest : Bindings → Operating → Course) → TakesRunning old new name (Err halt)
    → Tells old new (Err halt) (λ bindings. uses_running name bindings (rest bindings))
halted old new name (halts.Said outcome) rest took = λ bindings agree.
    let so = took bindings (rest bindings) agree in (bindings, so.0, so.1)
halted old new name halts.NoMemory rest took = tt

pub returns-in_err-running : goal.returns-in_err-running
returns-in_err-running c =
    let name = c.args.name.now in
    let rest = λ (bindings : Bindings) (operating : Operating).
    said (finished_outcome (standard_result operating.code operating.inner operating.params operating.fed)) (bind name (finished operating.token) bindings) in
    let halt = c.in_err-running.field-0.0 in
    subst (λ (r : Result Outcome Halt). Tells c.args.names.now c.take_running.new.names r (λ bindings. uses_running name bindings (rest bindings)))
    (sym (handed c.from_residual.result halt c.from_residual.ensures))
    (halted c.args.names.now c.take_running.new.names name halt rest c.in_err-running.ensures)

pub returns : goal.returns
returns c = λ bindings agree.
    let name = c.args.name.now in
    let taken = c.in_ok-running.ensures in
    let stood = stood_at c.args.names.now name c.in_ok-running.running taken.0 bindings agree in
    let token = c.in_ok-running.running.token in
    let rebinds = subst (λ (key : List ℕ). Rebinds c.take_running.new.names c.bind.new.names key (Some (kept.Finished token))) c.as_slice.ensures.bytes c.in_ok-bind.ensures in
    let go = λ (operating : Operating).
    said (finished_outcome (standard_result operating.code operating.inner operating.params operating.fed)) (bind name (finished operating.token) bindings) in
    let result = c.in_ok-ended.ensures (work_of stood.0 c.in_ok-running.running.given.items) refl stood.3 in (
      bind name (finished stood.0.token) bindings,
      agree_bound c.args.names.now c.bind.new.names name (kept.Finished token) (finished stood.0.token)
          (rebinds_twice c.args.names.now c.take_running.new.names c.bind.new.names name (Some (kept.Finished token)) taken.1 rebinds) stood.2 bindings agree,
      ap (by_running name bindings go) stood.1
          ∙ ap (λ (outcome : Outcome). said outcome (bind name (finished stood.0.token) bindings)) (ap finished_outcome result ∙ sym c.finished_outcome.ensures),
    )
