use Rattle.std.proofs.Common.{◌≡◌, IfOk, ap, sym, subst, ◌∙◌}
use Rattle.std.specs.Option.{option_copied}
use Rattle.ossl_conf.specs.Places.{value_at_or_default}
use Rattle.ossl_conf.specs.Progress.{conf_of}
use Rattle.ossl_conf.specs.Reading.{value_by_cut, value_by_name}
use Rattle.ossl_conf.proofs.ConfLaws.{variable_value-place}
use Rattle.ossl_conf.proofs.progress.Progress.variable.Goals as goal

pub returns-in-None : goal.returns-in-None
returns-in-None c =
    let conf = conf_of c.args.self.now in
    let e : value_at_or_default conf.sections c.place.result c.args.written.now ≡ value_by_name conf c.args.written.now =
    ap (λ place. value_at_or_default conf.sections place c.args.written.now) c.place.ensures
    ∙ sym (variable_value-place conf.sections conf.current c.args.written.now) ∙ ap (value_by_cut conf c.args.written.now) c.in-None.ensures in
    subst (λ said. IfOk c.look_up.result (λ value. option_copied value ≡ said)) e c.look_up.ensures

pub returns-in-Some : goal.returns-in-Some
returns-in-Some c =
    let conf = conf_of c.args.self.now in
    let e : value_at_or_default conf.sections c.place_of.result c.in-Some.name.now ≡ value_by_name conf c.args.written.now =
    ap (λ place. value_at_or_default conf.sections place c.in-Some.name.now) c.place_of.ensures
    ∙ sym (variable_value-place conf.sections c.in-Some.section.now c.in-Some.name.now) ∙ ap (value_by_cut conf c.args.written.now) c.in-Some.ensures in
    subst (λ said. IfOk c.look_up-in-Some.result (λ value. option_copied value ≡ said)) e c.look_up-in-Some.ensures
