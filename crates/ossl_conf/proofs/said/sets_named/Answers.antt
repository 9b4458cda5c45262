use Rattle.std.proofs.Common.{◌≡◌, ◌==◌, ◌||◌, true, false, length, sym, ap, ◌∙◌}
use Rattle.std.proofs.lemmas.Bool.{or_from, or_left, or_right}
use Rattle.ossl_conf.specs.Said.{sets_cut}
use Rattle.ossl_conf.proofs.SaidLaws.{sets_in-empty, sets_in-full, sets_named-full}
use Rattle.ossl_conf.proofs.said.sets_named.Goals as goal
use Rattle.ossl_conf.proofs.said.sets_named.Goals.{then-is_empty-2-via-then-is_empty-2, then-is_empty-2-via-else-is_empty-2+then-is_empty-3}

pub returns-then-is_empty-2 : goal.returns-then-is_empty-2
returns-then-is_empty-2 c =
    let h : ((length c.in-Some.section.now == 0) || (length c.in-Some.name.now == 0)) ≡ true = elim c.then-is_empty-2.branch [
      | then-is_empty-2-via-then-is_empty-2 w ↦ or_left _ _ (sym c.is_empty-2.ensures ∙ w.if-is_empty-2.true)
      | then-is_empty-2-via-else-is_empty-2+then-is_empty-3 w ↦ or_right _ _ (sym w.is_empty-else-is_empty-2.ensures ∙ w.if-is_empty-3.true)
    ] in
    sym (sets_named-full c.args.name.now c.args.value.now (sym c.is_empty.ensures ∙ c.if-is_empty.false)
    ∙ ap (λ cut. sets_cut cut c.args.name.now c.args.value.now) (sym c.in-Some.ensures) ∙ sets_in-empty c.in-Some.section.now c.in-Some.name.now c.args.value.now h)

pub returns : goal.returns
returns c =
    let h : ((length c.in-Some.section.now == 0) || (length c.in-Some.name.now == 0)) ≡ false =
    or_from _ _ (sym c.is_empty-2.ensures ∙ c.if-is_empty-2.false) (sym c.is_empty-else-is_empty-2.ensures ∙ c.if-is_empty-3.false) in
    sym (sets_named-full c.args.name.now c.args.value.now (sym c.is_empty.ensures ∙ c.if-is_empty.false)
    ∙ ap (λ cut. sets_cut cut c.args.name.now c.args.value.now) (sym c.in-Some.ensures) ∙ sets_in-full c.in-Some.section.now c.in-Some.name.now c.args.value.now h)
