use Rattle.std.proofs.Common.{Err, ap, sym, ◌∙◌}
use Rattle.std.specs.Option.{ok_or, option_map}
use Rattle.ossl_conf.specs.declared.refusal.ConfRefused.TheVariants.{NoSection}
use Rattle.ossl_conf.specs.Kept.{all_sections}
use Rattle.ossl_conf.specs.Places.{entries_at}
use Rattle.ossl_conf.proofs.PlaceLaws.{found-place}
use Rattle.ossl_conf.proofs.settling.named.Goals as goal

pub returns-in-Some : goal.returns-in-Some
returns-in-Some c =
    let all = all_sections c.args.sections.now in
    ap (λ o. ok_or o (NoSection c.args.name.now)) (found-place all c.args.name.now ∙ ap (option_map (entries_at all)) (sym c.in-Some.ensures))

pub returns-in_ok-from_slice-in-None : goal.returns-in_ok-from_slice-in-None
returns-in_ok-from_slice-in-None c =
    let all = all_sections c.args.sections.now in
    ap (λ o. ok_or o (NoSection c.args.name.now)) (found-place all c.args.name.now ∙ ap (option_map (entries_at all)) (sym c.in-None.ensures))
    ∙ ap (λ name. Err (NoSection name)) (sym (c.of.ensures.bytes ∙ c.in_ok-from_slice-in-None.ensures.items))
