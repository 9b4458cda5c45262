use Rattle.std.proofs.Common.{ℕ, List, Some, refl, sym, ap, subst}
use Rattle.ossl_op.specs.Running.{Runs}
use Rattle.ossl_op.specs.Work.{begun}
use Rattle.ossl_script.specs.declared.bound.Bound.TheVariants as kept
use Rattle.ossl_script.specs.declared.bound.Running.{Running}
use Rattle.ossl_script.specs.Bindings.{Operating, bind}
use Rattle.ossl_script.specs.Bindings.Binding.{running}
use Rattle.ossl_script.specs.Commands.{after_open}
use Rattle.ossl_script.specs.Names.{Rebinds}
use Rattle.ossl_script.specs.Stages.{opening_with}
use Rattle.ossl_script.proofs.NameLaws.{agree_bound}
use Rattle.ossl_script.proofs.resume.opened.Goals as goal

pub returns-in_ok-bind-in-Made : goal.returns-in_ok-bind-in-Made
returns-in_ok-bind-in-Made c = λ bindings agree.
    let name = c.args.name.now in
    let opens : ℕ → Operating = opening_with c.args.code c.args.inner c.args.params.now in
    let n = c.in-Made.number in
    let one : Running = record { token = n; context = c.in-Ok.context; given = c.new.result } in
    let runs = subst (λ (given : List ℕ). Runs c.in-Ok.context (record (begun c.args.code c.args.inner c.args.params.now) { given = given })) (sym c.new.ensures.items) c.in-Ok.ensures.begun in
    let rebinds = subst (λ (key : List ℕ). Rebinds c.args.names.now c.bind.new.names key (Some (kept.Running one))) c.as_slice.ensures.bytes c.in_ok-bind-in-Made.ensures in (
      bind name (running (opens n)) bindings,
      agree_bound c.args.names.now c.bind.new.names name (kept.Running one) (running (opens n)) rebinds (refl, runs) bindings agree,
      ap (after_open name opens bindings) c.in-Made.is,
    )
