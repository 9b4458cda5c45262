use Rattle.std.proofs.Common.{◌≡◌, Ok, Some, ap, subst, refl, ◌∙◌}
use Rattle.ossl_conf.specs.Kept.{all_sections}
use Rattle.ossl_conf.specs.Places.{name_at, place_of}
use Rattle.ossl_conf.specs.Private.{shown_said}
use Rattle.ossl_conf.specs.Progress.{conf_of}
use Rattle.ossl_conf.specs.Reading.{Conf, after_plain}
use Rattle.ossl_conf.proofs.ConfLaws.{IsPlace-Stays, IsPlace-place_of, opened_done}
use Rattle.ossl_conf.proofs.PlaceLaws.{name_at-place_of}
use Rattle.ossl_conf.proofs.progress.Progress.obey.Goals as goal

pub invariant_of-self : goal.invariant_of-self
invariant_of-self c = record {
  placed = IsPlace-Stays (all_sections c.args.self.now.sections) (all_sections c.open.new.self) c.args.self.now.current c.open.ensures.others c.args.self.now.placed;
  few = c.args.self.now.few;
  bounded = c.args.self.now.bounded;
}

pub invariant_of-self-in-Opens : goal.invariant_of-self-in-Opens
invariant_of-self-in-Opens c = record {
  placed = λ x e.
      let all = all_sections c.open.new.self in
      let same : c.in_ok-open-in-Opens.field-0 ≡ x = cc in
      subst (λ at. place_of all (name_at all at) ≡ Some at) same (IsPlace-place_of all c.in-Opens.name.now c.in_ok-open-in-Opens.field-0 c.in_ok-open-in-Opens.ensures.place);
  few = c.args.self.now.few;
  bounded = c.args.self.now.bounded;
}

pub returns-in_ok-open-in-Opens-clause-read : goal.returns-in_ok-open-in-Opens-clause-read
returns-in_ok-open-in-Opens-clause-read c =
    let self = c.args.self.now in
    let old = conf_of self in
    let all = all_sections c.open.new.self in
    let at = c.in_ok-open-in-Opens.field-0 in
    let name = c.in-Opens.name.now in
    let new : Conf = record { current = name_at all at; sections = all; total = self.total; left = self.left } in
    ap (λ line. after_plain old c.args.number (shown_said line)) c.in-Opens.is
    ∙ ap Ok (opened_done old new name (name_at-place_of all name at c.in_ok-open-in-Opens.ensures.place) c.in_ok-open-in-Opens.ensures.sections refl refl)
