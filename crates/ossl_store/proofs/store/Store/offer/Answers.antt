use Rattle.std.proofs.Common.{◌≡◌, ◌∙◌, ℕ, refl, sym, ap, Bool, true, false, List, map, Option, Some, None, cond, nat_eq, Result, Ok, Err, OnOk, OnErr}
use Rattle.std.specs.Result.{is_err}
use Rattle.std.specs.BTreeMap.{get, insert_entry, Updates, IsOrdered}
use Rattle.std.specs.Ordering.{nat_cmp}
use Rattle.std.proofs.lemmas.Bool.{eqb-true}
use Rattle.ossl_store.specs.declared.choice.Offer.{Offer}
use Rattle.ossl_store.specs.Offering.{placed, has_instance, has_rank}
use Rattle.ossl_store.specs.Shelves.{AreSame, AreShelved}
use Rattle.ossl_store.specs.Stored.{offering}
use Rattle.ossl_store.proofs.Offers.{Puts, puts_of, placed-entry, free-rank, free-instance, clear-rank, no-rank, stored-offer, stored-same}
use Rattle.ossl_store.proofs.store.Store.offer.Goals as goal

on_err : {A E : Type 0} (r : Result A E) (P : Type 0) → true ≡ is_err r → OnErr r P → P
on_err (Ok a) P h p = cc
on_err (Err e) P h p = p

on_ok : {A E : Type 0} (r : Result A E) (P : Type 0) → false ≡ is_err r → OnOk r P → P
on_ok (Ok a) P h p = p
on_ok (Err e) P h p = cc

map_ok : {A E : Type 0} (r : Result A E) (P Q : Type 0) → (P → Q) → OnOk r P → OnOk r Q
map_ok (Ok a) P Q f p = f p
map_ok (Err e) P Q f p = tt

-- what is put in and taken out again was not there before
again : (k : ℕ) (v : ℕ) (old mid new : ℕ → Option ℕ) → old k ≡ None → Puts k (Some v) old mid → Puts k None mid new → (q : ℕ) → new q ≡ old q
again k v old mid new none put taken q = taken.at q ∙ by (nat_eq k q) refl
  where
    by : (b : Bool) → nat_eq k q ≡ b → cond b None (mid q) ≡ old q
    by true h = sym none ∙ ap old (eqb-true k q h)
    by false h = put.at q ∙ rw (h) refl

pub enter-entered-requires : goal.enter-entered-requires
enter-entered-requires c = clear-rank c.self.invariant c.args.rank (free-rank c.self.inside.offers.entries c.args.rank (ap (has_rank c.args.rank) c.self.view_is ∙ c.requires.new_rank))

pub invariant_of-self-then-is_err : goal.invariant_of-self-then-is_err
invariant_of-self-then-is_err c =
    let differs = free-instance c.self.inside.offers.entries c.args.instance (ap (has_instance c.args.instance) c.self.view_is ∙ c.requires.new_instance) in
    let none = no-rank c.self.invariant c.args.instance differs in
    let put = puts_of c.args.instance (Some c.args.rank) (get nat_cmp c.self.inside.ranks) (get nat_cmp c.insert.new.self) c.in_ok-insert.ensures.updates.0 in
    let taken = puts_of c.args.instance None (get nat_cmp c.insert.new.self) (get nat_cmp c.remove.new.self) c.remove.ensures.updates.0 in
    let same = on_err c.enter-entered.result ((c.enter-entered.new.offers.entries ≡ c.self.inside.offers.entries) × AreSame c.self.inside.shelves c.enter-entered.new.shelves) c.if-is_err.ensures.value c.enter-entered.ensures.err in
    stored-same c.self.invariant (again c.args.instance c.args.rank (get nat_cmp c.self.inside.ranks) (get nat_cmp c.insert.new.self) (get nat_cmp c.remove.new.self) none put taken) same.0 same.1

pub invariant_of-self-else-is_err : goal.invariant_of-self-else-is_err
invariant_of-self-else-is_err c =
    let offer : Offer = record { instance = c.args.instance; rows = c.args.rows } in
    let differs = free-instance c.self.inside.offers.entries c.args.instance (ap (has_instance c.args.instance) c.self.view_is ∙ c.requires.new_instance) in
    let none = free-rank c.self.inside.offers.entries c.args.rank (ap (has_rank c.args.rank) c.self.view_is ∙ c.requires.new_rank) in
    let is = c.if-is_err.ensures.value in
    let put = puts_of c.args.instance (Some c.args.rank) (get nat_cmp c.self.inside.ranks) (get nat_cmp c.insert.new.self) c.in_ok-insert.ensures.updates.0 in
    let entered = on_ok c.enter-entered.result (Updates nat_cmp c.self.inside.offers c.enter-entered.new.offers c.args.rank (Some offer)) is c.enter-entered.ensures.offers in
    let in_offers = puts_of c.args.rank (Some offer) (get nat_cmp c.self.inside.offers) (get nat_cmp c.enter-entered.new.offers) entered.0 in
    stored-offer c.self.invariant (on_ok c.enter-entered.result (IsOrdered nat_cmp c.enter-entered.new.offers) is c.enter-entered.ensures.ordered) c.args.instance c.args.rank offer refl none differs put in_offers (on_ok c.enter-entered.result (AreShelved c.self.inside.shelves c.enter-entered.new.shelves c.args.rank c.args.rows.items) is c.enter-entered.ensures.shelved)

pub returns-else-is_err-clause-ok : goal.returns-else-is_err-clause-ok
returns-else-is_err-clause-ok c =
    let offer : Offer = record { instance = c.args.instance; rows = c.args.rows } in
    let none = free-rank c.self.inside.offers.entries c.args.rank (ap (has_rank c.args.rank) c.self.view_is ∙ c.requires.new_rank) in
    let es = c.self.inside.offers.entries in
    map_ok c.enter-entered.result (c.enter-entered.new.offers.entries ≡ insert_entry nat_cmp es c.args.rank offer) (map offering c.enter-entered.new.offers.entries ≡ placed (offering (c.args.rank, offer)) c.args.self.now)
    (λ entries. ap (map offering) entries ∙ placed-entry c.self.inside.offers.entries c.args.rank offer none ∙ ap (placed (offering (c.args.rank, offer))) c.self.view_is)
    c.enter-entered.ensures.entries
