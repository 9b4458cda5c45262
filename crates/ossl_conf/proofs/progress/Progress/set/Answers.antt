use Rattle.std.proofs.Common.{◌≡◌, ◌+◌, length, ap, refl, ◌∙◌, unwrap_or, arith}
use Rattle.std.specs.Option.{option_copied}
use Rattle.ossl_conf.specs.Kept.{all_sections}
use Rattle.ossl_conf.specs.Places.{current_name, name_at, Stays}
use Rattle.ossl_conf.specs.Progress.{conf_of}
use Rattle.ossl_conf.specs.Reading.{Conf}
use Rattle.ossl_conf.specs.Sections.{with_value}
use Rattle.ossl_conf.proofs.ConfLaws.{current_name-Stays, IsPlace-Stays, IsPlace-place_of, set_done, with_value-place}
use Rattle.ossl_conf.proofs.progress.Progress.set.Goals as goal

pub invariant_of-self : goal.invariant_of-self
invariant_of-self c = record {
  placed = IsPlace-Stays (all_sections c.args.self.now.sections) (all_sections c.open_section.new.sections) c.args.self.now.current c.open_section.ensures.others c.args.self.now.placed;
  few = c.args.self.now.few;
  bounded = c.args.self.now.bounded;
}

pub set-requires : goal.set-requires
set-requires c =
    let conf = conf_of c.args.self.now in
    IsPlace-place_of (all_sections c.open_section.new.sections) (unwrap_or (option_copied c.args.section) conf.current) c.in_ok-place.place c.in_ok-place.ensures.place

pub invariant_of-self-in-Break-branch-3 : goal.invariant_of-self-in-Break-branch-3
invariant_of-self-in-Break-branch-3 c = record {
  placed = IsPlace-Stays (all_sections c.args.self.now.sections) (all_sections c.set.new.self) c.args.self.now.current
      (λ name at h. c.set.ensures.others name at (c.open_section.ensures.others name at h)) c.args.self.now.placed;
  few = c.args.self.now.few;
  bounded = c.args.self.now.bounded;
}

pub invariant_of-self-2 : goal.invariant_of-self-2
invariant_of-self-2 c = record {
  placed = IsPlace-Stays (all_sections c.args.self.now.sections) (all_sections c.set.new.self) c.args.self.now.current
      (λ name at h. c.set.ensures.others name at (c.open_section.ensures.others name at h)) c.args.self.now.placed;
  few = c.if-total-gt-MOST_VALUES.false;
  bounded = c.args.self.now.bounded;
}

pub returns-clause-set : goal.returns-clause-set
returns-clause-set c =
    let self = c.args.self.now in
    let old = conf_of self in
    let all = all_sections self.sections in
    let opened = all_sections c.open_section.new.sections in
    let final = all_sections c.set.new.self in
    let section = unwrap_or (option_copied c.args.section) old.current in
    let value = c.args.value in
    let stays : Stays all final = λ name at h. c.set.ensures.others name at (c.open_section.ensures.others name at h) in
    let long : length c.as_slice.result.now ≡ length value = ap length c.as_slice.ensures.bytes in
    let set : final ≡ with_value section c.args.name.now value all =
    c.in_ok-set.ensures.sections
    ∙ ap (λ name. with_value (name_at opened c.in_ok-place.place) name value opened) c.in_ok-name.ensures.ok
    ∙ with_value-place all opened section c.args.name.now value c.in_ok-place.place c.in_ok-place.ensures.sections c.in_ok-place.ensures.place in
    let new : Conf = record {
      current = current_name final self.current;
      sections = final;
      total = self.total + length c.as_slice.result.now;
      left = self.left;
    } in
    set_done old new c.args.number section c.args.name.now value (omega (arith, long, c.if-total-gt-MOST_VALUES.false))
    (current_name-Stays all final self.current stays self.placed) set (ap (λ more. self.total + more) long) refl
