use Rattle.std.proofs.Common.{◌≡◌, List, ℕ, codes, IfOk, ap, subst, sym, ◌∙◌}
use Rattle.std.specs.Option.{option_copied}
use Rattle.ossl_conf.specs.Kept.{all_sections}
use Rattle.ossl_conf.specs.Places.{value_at}
use Rattle.ossl_conf.specs.Sections.{default_section}
use Rattle.ossl_conf.proofs.PlaceLaws.{value_in-place}
use Rattle.ossl_conf.proofs.settling.init_section.Goals as goal

pub returns-in-Some : goal.returns-in-Some
returns-in-Some c =
    let all = all_sections c.args.sections.now in
    let key : List ℕ = codes "openssl_conf" in
    let e = value_in-place all default_section key ∙ ap (λ place. value_at all place key) (sym c.in-Some.ensures) in
    subst (λ said. IfOk c.value.result (λ value. option_copied value ≡ said)) (sym e) c.value.ensures

pub returns-in-None : goal.returns-in-None
returns-in-None c =
    let all = all_sections c.args.sections.now in
    let key : List ℕ = codes "openssl_conf" in
    sym (value_in-place all default_section key ∙ ap (λ place. value_at all place key) (sym c.in-None.ensures))
