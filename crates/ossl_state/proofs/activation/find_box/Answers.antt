use Rattle.std.proofs.Common.{sym, ◌∙◌}
use Rattle.std.specs.Str.{bytes_eq}
use Rattle.ossl_provider.specs.Sheet.{Facts}
use Rattle.ossl_state.proofs.ListLaws.{position-map}
use Rattle.ossl_state.proofs.activation.find_box.Goals as goal

pub returns : goal.returns
returns g c = c.first_named.ensures ∙ sym (position-map (λ (f : Facts). bytes_eq f.name c.args.name.now) g.P.Provider.facts c.args.boxes.now)
