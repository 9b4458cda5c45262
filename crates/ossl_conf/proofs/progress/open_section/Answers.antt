use Rattle.std.proofs.Common.{sym}
use Rattle.ossl_conf.specs.Kept.{all_sections}
use Rattle.ossl_conf.specs.Places.{name_at}
use Rattle.ossl_conf.proofs.PlaceLaws.{with_section-there}
use Rattle.ossl_conf.proofs.progress.open_section.Goals as goal

pub returns-in-None-Some-clause-sections : goal.returns-in-None-Some-clause-sections
returns-in-None-Some-clause-sections c =
    let all = all_sections c.args.sections.now in
    rw (c.in-None-Some.is-0, c.in-None-Some.is-1) (sym (with_section-there all (name_at all c.in-None-Some.place) c.in-None-Some.place (c.requires c.in-None-Some.place c.in-None-Some.is-1)))
