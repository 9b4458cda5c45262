use Rattle.std.proofs.Common.{Some, ◌∙◌, ap}
use Rattle.ossl_conf.proofs.MapLaws.{lookup-entries}
use Rattle.ossl_conf.proofs.sections.SectionMap.value.Goals as goal

pub returns-in-Some : goal.returns-in-Some
returns-in-Some c =
    let e = lookup-entries c.args.self.now.names.keys c.args.self.now.values.entries c.args.self.now.placed (c.args.at, c.in_ok-from_slice.field-0) in
    ap Some c.as_slice.ensures.bytes ∙ rw (← c.in_ok-from_slice.ensures.ok) (c.in-Some.ensures.value ∙ e)

pub returns : goal.returns
returns c =
    let e = lookup-entries c.args.self.now.names.keys c.args.self.now.values.entries c.args.self.now.placed (c.args.at, c.in_ok-from_slice.field-0) in
    rw (← c.in_ok-from_slice.ensures.ok) (c.in-None.ensures.value ∙ e)
