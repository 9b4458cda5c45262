use Rattle.std.proofs.Common.{ℕ, List, Some, refl, ap, subst}
use Rattle.ossl_script.specs.declared.bound.Bound.TheVariants as kept
use Rattle.ossl_script.specs.Bindings.{bind}
use Rattle.ossl_script.specs.Bindings.Binding.{activation}
use Rattle.ossl_script.specs.Commands.{after_load}
use Rattle.ossl_script.specs.Names.{Rebinds}
use Rattle.ossl_script.proofs.NameLaws.{agree_bound}
use Rattle.ossl_script.proofs.resume.loaded.Goals as goal

pub returns-in_ok-bind-in-Loaded : goal.returns-in_ok-bind-in-Loaded
returns-in_ok-bind-in-Loaded c = λ bindings agree.
    let name = c.args.name.now in
    let n = c.in-Loaded.number in
    let rebinds = subst (λ (key : List ℕ). Rebinds c.args.names.now c.bind.new.names key (Some (kept.Activation n))) c.as_slice.ensures.bytes c.in_ok-bind-in-Loaded.ensures in (
      bind name (activation n) bindings,
      agree_bound c.args.names.now c.bind.new.names name (kept.Activation n) (activation n) rebinds refl bindings agree,
      ap (after_load name bindings) c.in-Loaded.is,
    )
