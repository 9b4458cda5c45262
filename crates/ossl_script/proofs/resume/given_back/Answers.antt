use Rattle.std.proofs.Common.{ℕ, List, None, sym, ap, ◌∙◌, subst}
use Rattle.ossl_script.specs.declared.outcome.Outcome.{Outcome}
use Rattle.ossl_script.specs.Bindings.{unbind}
use Rattle.ossl_script.specs.Course.Course.{said}
use Rattle.ossl_script.specs.Names.{Rebinds}
use Rattle.ossl_script.specs.Outcome.{outcome_of}
use Rattle.ossl_script.proofs.NameLaws.{agree_freed}
use Rattle.ossl_script.proofs.resume.given_back.Goals as goal

pub returns : goal.returns
returns c = λ bindings agree.
    let name = c.args.name.now in
    let rebinds = subst (λ (key : List ℕ). Rebinds c.args.names.now c.unbind.new.names key None) c.as_slice.ensures.bytes c.unbind.ensures.free in (
      unbind name bindings,
      agree_freed c.args.names.now c.unbind.new.names name rebinds bindings agree,
      ap (λ (outcome : Outcome). said outcome (unbind name bindings)) (sym (c.of.ensures.outcome ∙ ap outcome_of c.in_ok-copy.ensures)),
    )
