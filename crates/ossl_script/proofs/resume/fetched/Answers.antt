use Rattle.std.proofs.Common.{ℕ, List, Some, refl, sym, ap, ◌∙◌, subst}
use Rattle.ossl_script.specs.declared.bound.Bound.TheVariants as kept
use Rattle.ossl_script.specs.declared.outcome.Outcome.TheVariants as outcomes
use Rattle.ossl_script.specs.Bindings.{Method, bind}
use Rattle.ossl_script.specs.Bindings.Binding.{method}
use Rattle.ossl_script.specs.Commands.{after_fetch}
use Rattle.ossl_script.specs.Course.Course.{said}
use Rattle.ossl_script.specs.Names.{Rebinds}
use Rattle.ossl_script.proofs.NameLaws.{agree_bound}
use Rattle.ossl_script.proofs.resume.fetched.Goals as goal

pub returns-in_ok-provider-in-Fetched : goal.returns-in_ok-provider-in-Fetched
returns-in_ok-provider-in-Fetched c = λ bindings agree.
    let name = c.args.name.now in
    let one : Method = record { token = c.in-Fetched.number; code = c.in-Fetched.code } in
    let rebinds = subst (λ (key : List ℕ). Rebinds c.args.names.now c.bind.new.names key (Some (kept.Method one))) c.as_slice.ensures.bytes c.in_ok-bind-in-Fetched.ensures in (
      bind name (method one) bindings,
      agree_bound c.args.names.now c.bind.new.names name (kept.Method one) (method one) rebinds refl bindings agree,
      ap (after_fetch name bindings) c.in-Fetched.is
          ∙ ap (λ (provider : List ℕ). said (outcomes.Fetched provider) (bind name (method one) bindings)) (sym c.in_ok-provider-in-Fetched.ensures.equal),
    )
