use Rattle.std.proofs.Common.{ℕ, List, Some, refl, ap, subst}
use Rattle.ossl_script.specs.declared.bound.Bound.TheVariants as kept
use Rattle.ossl_script.specs.Bindings.{Method, bind}
use Rattle.ossl_script.specs.Bindings.Binding.{method}
use Rattle.ossl_script.specs.Commands.{after_up_ref}
use Rattle.ossl_script.specs.Names.{Rebinds}
use Rattle.ossl_script.proofs.NameLaws.{agree_bound}
use Rattle.ossl_script.proofs.resume.doubled.Goals as goal

pub returns-in_ok-bind-in-Made : goal.returns-in_ok-bind-in-Made
returns-in_ok-bind-in-Made c = λ bindings agree.
    let name = c.args.name.now in
    let one : Method = record { token = c.in-Made.number; code = c.args.code } in
    let rebinds = subst (λ (key : List ℕ). Rebinds c.args.names.now c.bind.new.names key (Some (kept.Method one))) c.as_slice.ensures.bytes c.in_ok-bind-in-Made.ensures in (
      bind name (method one) bindings,
      agree_bound c.args.names.now c.bind.new.names name (kept.Method one) (method one) rebinds refl bindings agree,
      ap (after_up_ref name c.args.code bindings) c.in-Made.is,
    )
