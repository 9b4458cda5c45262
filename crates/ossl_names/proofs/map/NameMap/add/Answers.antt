use Rattle.std.proofs.Common.{◌≡◌, List, ℕ, Bor, Ok, sym, ap, ◌∙◌, subst}
use Rattle.ossl_names.specs.Groups.{Groups, with_names, KeepsNumbers, IsNumber}
use Rattle.ossl_names.specs.Addition.{number_for, groups_by}
use Rattle.ossl_names.proofs.Finds.{values}
use Rattle.ossl_names.proofs.Addition.{IsNumber-after}
use Rattle.ossl_names.proofs.Law.{KeepsNumbers-after}
use Rattle.ossl_names.proofs.map.NameMap.add.Goals as goal

pub returns-clause-kept : goal.returns-clause-kept
returns-clause-kept c =
    let groups = c.args.self.now in
    let number = c.in_ok-number.number in
    let names = values c.in_ok-names.names.items in
    let wanted : number_for groups names ≡ Ok number = ap (λ (ns : List (Bor (List ℕ))). number_for groups (values ns)) (sym c.deref.ensures.value) ∙ sym c.in_ok-number.ensures in
    let after : c.enter.new.self ≡ with_names groups number names = c.in_ok-enter.ensures.ok ∙ ap (λ (ns : List (Bor (List ℕ))). with_names groups number (values ns)) c.deref-2.ensures.value in
    subst (λ (g : Groups). KeepsNumbers groups g) (ap (groups_by groups names) wanted ∙ sym after) (KeepsNumbers-after groups names)

pub returns-clause-there : goal.returns-clause-there
returns-clause-there c =
    let groups = c.args.self.now in
    let number = c.in_ok-number.number in
    let names = values c.in_ok-names.names.items in
    let wanted : number_for groups names ≡ Ok number = ap (λ (ns : List (Bor (List ℕ))). number_for groups (values ns)) (sym c.deref.ensures.value) ∙ sym c.in_ok-number.ensures in
    let after : c.enter.new.self ≡ with_names groups number names = c.in_ok-enter.ensures.ok ∙ ap (λ (ns : List (Bor (List ℕ))). with_names groups number (values ns)) c.deref-2.ensures.value in
    subst (λ (g : Groups). IsNumber g number) (sym after) (IsNumber-after groups names number wanted)
