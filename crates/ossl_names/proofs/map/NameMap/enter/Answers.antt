use Rattle.std.proofs.Common.{◌≡◌, ◌≤◌, ◌<◌, ◌-◌, ◌++◌, ◌∷◌, [], Ok, length, sym, ap, ◌∙◌, subst, arith}
use Rattle.std.proofs.lemmas.List.{length-map, map-append}
use Rattle.ossl_names.specs.Groups.{Group, Groups, group_of, with_names}
use Rattle.ossl_names.specs.Addition.{number_for}
use Rattle.ossl_names.specs.Index.{IsIndexed, FindsNot}
use Rattle.ossl_names.proofs.Finds.{values, FindsSame-undone}
use Rattle.ossl_names.proofs.Indexed.{IsIndexed-same}
use Rattle.ossl_names.proofs.Addition.{number_for-Ok, number_for-positive, short_names, joined-there, joined-new}
use Rattle.ossl_names.proofs.Held.{seen, seen-at, seen-set, seen-same}
use Rattle.ossl_names.proofs.map.NameMap.enter.Goals as goal

pub overflow_sub-place : goal.overflow_sub-place
overflow_sub-place c = number_for-positive _ _ c.args.number c.requires

pub join-requires : goal.join-requires
join-requires c = short_names c.args.names.now (number_for-Ok _ _ c.args.number c.requires).0

pub join-requires-else-place-len : goal.join-requires-else-place-len
join-requires-else-place-len c = short_names c.args.names.now (number_for-Ok _ _ c.args.number c.requires).0

pub invariant_of-self-in_default : goal.invariant_of-self-in_default
invariant_of-self-in_default c =
    let held = c.self.inside.groups.items in
    let i = c.args.number - 1 in
    let names = values c.args.names.now in
    let wanted : number_for (seen held) names ≡ Ok c.args.number = subst (λ (g : Groups). number_for g names ≡ Ok c.args.number) (sym c.self.view_is) c.requires in
    let there : i < length held = omega arith in
    let high : c.args.number ≤ length (seen held) = omega (arith, length-map held (λ g. g.items)) in
    let group = seen-at held i c.index_mut.result.now there c.index_mut.ensures.value in
    let after = seen-set held i c.append.new.self (group_of (seen held) c.args.number ++ c.in_ok-fresh.fresh.items) (c.in_default.ensures.items ∙ ap (λ (g : Group). g ++ c.in_ok-fresh.fresh.items) group) in
    subst (λ (g : Groups). IsIndexed g c.join.new.index) (sym after)
    (joined-there (seen held) c.self.inside.index c.join.new.index names c.args.number c.in_ok-fresh.fresh.items c.self.invariant wanted c.in_ok-fresh.ensures.new c.in_ok-fresh.ensures.finds c.in_ok-fresh.ensures.unknown high).1

pub returns-in_default-clause-ok : goal.returns-in_default-clause-ok
returns-in_default-clause-ok c =
    let held = c.self.inside.groups.items in
    let i = c.args.number - 1 in
    let names = values c.args.names.now in
    let wanted : number_for (seen held) names ≡ Ok c.args.number = subst (λ (g : Groups). number_for g names ≡ Ok c.args.number) (sym c.self.view_is) c.requires in
    let there : i < length held = omega arith in
    let high : c.args.number ≤ length (seen held) = omega (arith, length-map held (λ g. g.items)) in
    let group = seen-at held i c.index_mut.result.now there c.index_mut.ensures.value in
    let after = seen-set held i c.append.new.self (group_of (seen held) c.args.number ++ c.in_ok-fresh.fresh.items) (c.in_default.ensures.items ∙ ap (λ (g : Group). g ++ c.in_ok-fresh.fresh.items) group) in
    after
    ∙ sym (joined-there (seen held) c.self.inside.index c.join.new.index names c.args.number c.in_ok-fresh.fresh.items c.self.invariant wanted c.in_ok-fresh.ensures.new c.in_ok-fresh.ensures.finds c.in_ok-fresh.ensures.unknown high).0
    ∙ ap (λ (g : Groups). with_names g c.args.number names) c.self.view_is

pub invariant_of-self-in-Err : goal.invariant_of-self-in-Err
invariant_of-self-in-Err c =
    let held = c.self.inside.groups.items in
    let i = c.args.number - 1 in
    let there : i < length held = omega arith in
    let same = seen-same held i c.append.new.self (c.in-Err.ensures.items ∙ seen-at held i c.index_mut.result.now there c.index_mut.ensures.value) in
    let fresh = c.in_ok-fresh.fresh.items in
    let left : c.deref.result.now ≡ fresh = c.deref.ensures.value ∙ c.in-Err.ensures.other_items in
    let gone : FindsNot c.join.new.index c.leave.new.index fresh = subst (λ (g : Group). FindsNot c.join.new.index c.leave.new.index g) left c.leave.ensures in
    subst (λ (g : Groups). IsIndexed g c.leave.new.index) (sym same)
    (IsIndexed-same (seen held) c.self.inside.index c.leave.new.index c.self.invariant (FindsSame-undone c.self.inside.index c.join.new.index c.leave.new.index fresh c.args.number c.in_ok-fresh.ensures.finds c.in_ok-fresh.ensures.unknown gone))

pub returns-in-Err-clause-err : goal.returns-in-Err-clause-err
returns-in-Err-clause-err c =
    let held = c.self.inside.groups.items in
    let i = c.args.number - 1 in
    let there : i < length held = omega arith in
    seen-same held i c.append.new.self (c.in-Err.ensures.items ∙ seen-at held i c.index_mut.result.now there c.index_mut.ensures.value) ∙ c.self.view_is

pub invariant_of-self-else-place-len : goal.invariant_of-self-else-place-len
invariant_of-self-else-place-len c =
    let held = c.self.inside.groups.items in
    let names = values c.args.names.now in
    let fresh = c.in_ok-fresh-2.fresh.items in
    let wanted : number_for (seen held) names ≡ Ok c.args.number = subst (λ (g : Groups). number_for g names ≡ Ok c.args.number) (sym c.self.view_is) c.requires in
    let positive = number_for-positive (seen held) names c.args.number wanted in
    let high : length (seen held) < c.args.number = omega (arith, length-map held (λ g. g.items)) in
    let after : seen c.push_reserved.new.self.items ≡ seen held ++ fresh ∷ [] = ap seen (c.push_reserved.ensures.items ∙ ap (λ gs. gs ++ c.in_ok-fresh-2.fresh ∷ []) c.reserve.ensures.items) ∙ map-append (λ g. g.items) held (c.in_ok-fresh-2.fresh ∷ []) in
    subst (λ (g : Groups). IsIndexed g c.join-else-place-len.new.index) (sym after)
    (joined-new (seen held) c.self.inside.index c.join-else-place-len.new.index names c.args.number fresh c.self.invariant wanted c.in_ok-fresh-2.ensures.new c.in_ok-fresh-2.ensures.finds c.in_ok-fresh-2.ensures.unknown high).1

pub returns-in_ok-fresh-2-clause-ok : goal.returns-in_ok-fresh-2-clause-ok
returns-in_ok-fresh-2-clause-ok c =
    let held = c.self.inside.groups.items in
    let names = values c.args.names.now in
    let fresh = c.in_ok-fresh-2.fresh.items in
    let wanted : number_for (seen held) names ≡ Ok c.args.number = subst (λ (g : Groups). number_for g names ≡ Ok c.args.number) (sym c.self.view_is) c.requires in
    let positive = number_for-positive (seen held) names c.args.number wanted in
    let high : length (seen held) < c.args.number = omega (arith, length-map held (λ g. g.items)) in
    let after : seen c.push_reserved.new.self.items ≡ seen held ++ fresh ∷ [] = ap seen (c.push_reserved.ensures.items ∙ ap (λ gs. gs ++ c.in_ok-fresh-2.fresh ∷ []) c.reserve.ensures.items) ∙ map-append (λ g. g.items) held (c.in_ok-fresh-2.fresh ∷ []) in
    after
    ∙ sym (joined-new (seen held) c.self.inside.index c.join-else-place-len.new.index names c.args.number fresh c.self.invariant wanted c.in_ok-fresh-2.ensures.new c.in_ok-fresh-2.ensures.finds c.in_ok-fresh-2.ensures.unknown high).0
    ∙ ap (λ (g : Groups). with_names g c.args.number names) c.self.view_is
