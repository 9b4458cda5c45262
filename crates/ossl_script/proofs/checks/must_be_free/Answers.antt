use Rattle.std.proofs.Common.{◌≡◌, None, Option, sym, ap, ◌∙◌}
use Rattle.std.specs.Prelude.{if◌then◌else◌, is_some}
use Rattle.ossl_script.specs.declared.outcome.Outcome.TheVariants as outcomes
use Rattle.ossl_script.specs.Bindings.{Binding}
use Rattle.ossl_script.specs.Course.Course.{said}
use Rattle.ossl_script.specs.Names.{bound_at}
use Rattle.ossl_script.proofs.CheckLaws.{nothing_there, stands_at}
use Rattle.ossl_script.proofs.checks.must_be_free.Goals as goal

pub returns-in-None : goal.returns-in-None
returns-in-None c = λ bindings go agree.
    let here : bound_at c.args.names.now c.args.name.now ≡ None =
    ap (bound_at c.args.names.now) (sym c.as_slice.ensures.bytes) ∙ sym c.in-None.ensures.value in
    ap (λ (binding : Option Binding). if is_some binding then said (outcomes.Bound c.args.name.now) bindings else go tt)
    (nothing_there (bindings c.args.name.now) (stands_at c.args.names.now bindings c.args.name.now None here agree))
