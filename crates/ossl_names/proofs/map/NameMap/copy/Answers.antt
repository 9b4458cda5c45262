use Rattle.std.proofs.Common.{◌≡◌, sym, ◌∙◌, ap, subst, rules}
use Rattle.std.proofs.lemmas.List.Elements.{same_from_all_zip}
use Rattle.ossl_names.specs.Groups.{Groups}
use Rattle.ossl_names.specs.Index.{IsIndexed}
use Rattle.ossl_names.proofs.Indexed.{IsIndexed-same}
use Rattle.ossl_names.proofs.Held.{seen, FindsSame-clone}
use Rattle.ossl_names.proofs.map.NameMap.copy.Goals as goal

pub invariant_of-result : goal.invariant_of-result
invariant_of-result c =
    let same : seen c.in_ok-copy_groups.field-0.items ≡ seen c.self.inside.groups.items = c.in_ok-copy_groups.ensures ∙ ap seen c.deref.ensures.value in
    subst (λ (g : Groups). IsIndexed g c.in_ok-clone.field-0) (sym same)
    (IsIndexed-same (seen c.self.inside.groups.items) c.self.inside.index c.in_ok-clone.field-0 c.self.invariant
    (FindsSame-clone _ _ (λ x y k. same_from_all_zip _ _ _ k.0 (λ a b e. search rules)) (λ v w k. search rules) c.self.inside.index c.in_ok-clone.field-0 c.in_ok-clone.ensures.cases))
