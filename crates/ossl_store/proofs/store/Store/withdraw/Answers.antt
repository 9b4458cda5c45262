use Rattle.std.proofs.Common.{◌≡◌, ◌∙◌, ℕ, sym, ap, subst, List, map, Option, Some, None}
use Rattle.std.specs.Prelude.{option_map}
use Rattle.std.specs.BTreeMap.{get}
use Rattle.std.specs.Ordering.{nat_cmp}
use Rattle.ossl_store.specs.declared.choice.Offer.{Offer}
use Rattle.ossl_store.specs.Offering.{without}
use Rattle.ossl_store.specs.Shelves.{AreGone}
use Rattle.ossl_store.specs.Stored.{offering}
use Rattle.ossl_store.proofs.Ascending.{above_from_sorted}
use Rattle.ossl_store.proofs.Offers.{puts_of, no-offer, other-instance, without-none, without-entry, stored-withdraw}
use Rattle.ossl_store.proofs.store.Store.withdraw.Goals as goal

pub returns-in_default : goal.returns-in_default
returns-in_default c =
    let es = c.self.inside.offers.entries in
    let differs = no-offer c.self.invariant c.args.instance (sym c.in_default.ensures.value) in
    record { rest = sym (without-none 0 es c.args.instance (above_from_sorted es c.self.invariant.ordered) differs) ∙ ap (without c.args.instance) c.self.view_is }

pub returns-in_default-remove : goal.returns-in_default-remove
returns-in_default-remove c =
    let there = c.self.invariant.known c.args.instance c.in-Some.rank (sym c.in-Some.ensures.value) in
    let bad : None ≡ Some c.args.instance = ap (option_map (λ (o : Offer). o.instance)) c.in_default-remove.ensures.value ∙ there in
    cc

pub invariant_of-self-2 : goal.invariant_of-self-2
invariant_of-self-2 c =
    let gone = subst (AreGone c.self.inside.shelves c.unshelve_rows.new.shelves c.in-Some.rank) c.as_slice.ensures.value c.unshelve_rows.ensures in
    stored-withdraw c.self.invariant c.in-Some-remove.ensures.ordered c.args.instance c.in-Some.rank c.in-Some-remove.offer (sym c.in-Some.ensures.value) (sym c.in-Some-remove.ensures.value)
    (puts_of c.args.instance None (get nat_cmp c.self.inside.ranks) (get nat_cmp c.remove.new.self) c.in-Some.ensures.updates.0)
    (puts_of c.in-Some.rank None (get nat_cmp c.self.inside.offers) (get nat_cmp c.remove-2.new.self) c.in-Some-remove.ensures.updates.0) gone

pub returns : goal.returns
returns c =
    let es = c.self.inside.offers.entries in
    let rank = c.in-Some.rank in
    let known = sym c.in-Some.ensures.value in
    let there = c.self.invariant.known c.args.instance rank known in
    let differs = other-instance c.self.invariant c.args.instance rank known in
    record { rest = ap (map offering) c.in-Some-remove.ensures.entries ∙ sym (without-entry 0 es c.args.instance rank (above_from_sorted es c.self.invariant.ordered) there differs) ∙ ap (without c.args.instance) c.self.view_is }
