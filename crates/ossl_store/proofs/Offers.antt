-- An offering that is entered or withdrawn.
use Rattle.std.proofs.Common.{◌≡◌, ◌∙◌, ◌<◌, ◌≤◌, ◌+◌, ℕ, refl, sym, ap, subst, Bool, true, false, not, ◌&&◌, ◌||◌, List, [], ◌∷◌, map, filter, Option, Some, None, is_some, cond, nat_eq, nat_lt, true≢false, arith}
use Rattle.std.specs.Prelude.{option_map}
use Rattle.std.specs.List.{list_any}
use Rattle.std.specs.List.Sorted.{IsStrictlySortedBy}
use Rattle.std.specs.Map.{keys_of, lookup, remove_entry}
use Rattle.std.specs.BTreeMap.{BTreeMap, get, is_at, insert_entry, IsOrdered}
use Rattle.std.specs.Ordering.{nat_cmp, is_eq, match_ordering}
use Rattle.std.specs.declared.cmp.Ordering.TheVariants.{Less, Equal, Greater}
use Rattle.std.proofs.lemmas.Bool.{eqb-true, eq-eqb, ne_eqb}
use Rattle.ossl_codes.specs.declared.code.Operation.{Operation}
use Rattle.ossl_store.specs.declared.choice.Offer.{Offer}
use Rattle.ossl_store.specs.declared.shelves.Shelves.{Shelves}
use Rattle.ossl_store.specs.Best.{is_under}
use Rattle.ossl_store.specs.Offering.{placed, without, has_instance, has_rank}
use Rattle.ossl_store.specs.Shelves.{places_at, positions, IsClear, AreSame, AreShelved, AreGone}
use Rattle.ossl_store.specs.Stored.{Offers, offering, offerings, rows_of, rows_at, IsStored}
use Rattle.ossl_store.proofs.Positions.{or_false, positions-none}
use Rattle.ossl_store.proofs.Ascending.{Above, is_at-nat, find_at, find_at-head, find_at-tail, find_at-later}

flip_false : (a b : ℕ) → nat_eq a b ≡ false → nat_eq b a ≡ false
flip_false a b h = ne_eqb b a (λ same. true≢false (sym (eq-eqb a b (sym same)) ∙ h))

-- an offering of a new rank goes to its place
pub placed-entry : (es : List (ℕ × Offer)) (rank : ℕ) (offer : Offer) → find_at rank es ≡ None → map offering (insert_entry nat_cmp es rank offer) ≡ placed (offering (rank, offer)) (map offering es)
placed-entry [] rank offer none = refl
placed-entry (e ∷ es) rank offer none = by (placed-entry es rank offer) (nat_lt rank e.0) (nat_eq rank e.0) refl refl
  where
    by : (find_at rank es ≡ None → map offering (insert_entry nat_cmp es rank offer) ≡ placed (offering (rank, offer)) (map offering es)) → (l s : Bool) → nat_lt rank e.0 ≡ l → nat_eq rank e.0 ≡ s
        → map offering (match_ordering (cond l Less (cond s Equal Greater)) ((rank, offer) ∷ e ∷ es) ((e.0, offer) ∷ es) (e ∷ insert_entry nat_cmp es rank offer))
        ≡ cond l (offering (rank, offer) ∷ offering e ∷ map offering es) (offering e ∷ placed (offering (rank, offer)) (map offering es))
    by on true s less same = refl
    by on false true less same =
        let bad : Some e.1 ≡ None = rw (is_at-nat rank e.0, same) at none in
        cc
    by on false false less same = ap (λ os. offering e ∷ os) (on (sym (find_at-tail rank e es same) ∙ none))

pub free-rank : (es : List (ℕ × Offer)) (rank : ℕ) → has_rank rank (map offering es) ≡ false → find_at rank es ≡ None
free-rank [] rank h = refl
free-rank (e ∷ es) rank h =
    let p = or_false (nat_eq e.0 rank) (has_rank rank (map offering es)) h in
    find_at-tail rank e es (flip_false e.0 rank p.0) ∙ free-rank es rank p.1

pub free-instance : (es : List (ℕ × Offer)) (instance : ℕ) → has_instance instance (map offering es) ≡ false → (q : ℕ) (x : Offer) → find_at q es ≡ Some x → nat_eq x.instance instance ≡ false
free-instance [] instance h q x found = cc
free-instance (e ∷ es) instance h q x found = by (free-instance es instance p.1 q x) (nat_eq q e.0) refl
  where
    p : (nat_eq e.1.instance instance ≡ false) × (has_instance instance (map offering es) ≡ false)
    p = or_false (nat_eq e.1.instance instance) (has_instance instance (map offering es)) h

    by : (find_at q es ≡ Some x → nat_eq x.instance instance ≡ false) → (b : Bool) → nat_eq q e.0 ≡ b → nat_eq x.instance instance ≡ false
    by on true same =
        let first : Some e.1 ≡ Some x = rw (is_at-nat q e.0, same) at found in
        let is : e.1 ≡ x = cc in
        subst (λ y. nat_eq y.instance instance ≡ false) is p.0
    by on false other = on (sym (find_at-tail q e es other) ∙ found)

-- the offerings of other instances stay
pub without-none : (b : ℕ) (es : List (ℕ × Offer)) (instance : ℕ) → Above b es → ((q : ℕ) (x : Offer) → find_at q es ≡ Some x → nat_eq x.instance instance ≡ false) → without instance (map offering es) ≡ map offering es
without-none b [] instance rise differs = refl
without-none b (e ∷ es) instance rise differs =
    let here = differs e.0 e.1 (find_at-head e es) in
    rw (here) (ap (λ os. offering e ∷ os) (without-none (e.0 + 1) es instance rise.1 (λ q x found. differs q x (find_at-tail q e es (find_at-later q e es x rise.1 found) ∙ found))))

pub without-entry : (b : ℕ) (es : List (ℕ × Offer)) (instance rank : ℕ) → Above b es → option_map (λ (o : Offer). o.instance) (find_at rank es) ≡ Some instance
    → ((q : ℕ) (x : Offer) → find_at q es ≡ Some x → nat_eq q rank ≡ false → nat_eq x.instance instance ≡ false)
    → without instance (map offering es) ≡ map offering (remove_entry (is_at (nat_cmp rank)) es)
without-entry b [] instance rank rise there differs = cc
without-entry b (e ∷ es) instance rank rise there differs = by (without-entry (e.0 + 1) es instance rank rise.1) (nat_eq rank e.0) refl
  where
    later : (q : ℕ) (x : Offer) → find_at q es ≡ Some x → find_at q (e ∷ es) ≡ Some x
    later q x found = find_at-tail q e es (find_at-later q e es x rise.1 found) ∙ found

    by : (option_map (λ (o : Offer). o.instance) (find_at rank es) ≡ Some instance → ((q : ℕ) (x : Offer) → find_at q es ≡ Some x → nat_eq q rank ≡ false → nat_eq x.instance instance ≡ false)
        → without instance (map offering es) ≡ map offering (remove_entry (is_at (nat_cmp rank)) es))
        → (s : Bool) → nat_eq rank e.0 ≡ s → without instance (map offering (e ∷ es)) ≡ map offering (remove_entry (is_at (nat_cmp rank)) (e ∷ es))
    by on true same =
        let at : rank ≡ e.0 = eqb-true rank e.0 same in
        let first : Some e.1.instance ≡ Some instance = rw (is_at-nat rank e.0, same) at there in
        let mine : e.1.instance ≡ instance = cc in
        rw (is_at-nat rank e.0, same, eq-eqb e.1.instance instance mine)
        (without-none (e.0 + 1) es instance rise.1 (λ q x found. differs q x (later q x found) (subst (λ k. nat_eq q k ≡ false) (sym at) (find_at-later q e es x rise.1 found))))
    by on false other =
        let here = differs e.0 e.1 (find_at-head e es) (flip_false rank e.0 other) in
        rw (is_at-nat rank e.0, other, here)
        (ap (λ os. offering e ∷ os) (on (ap (option_map (λ (o : Offer). o.instance)) (sym (find_at-tail rank e es other)) ∙ there) (λ q x found. differs q x (later q x found))))

-- ---- what a store keeps

-- a map as before, with another value at one number
pub record Puts {X : Type 0} (k : ℕ) (w : Option X) (old new : ℕ → Option X) : Type 0 where
  pub at : (q : ℕ) → new q ≡ cond (nat_eq k q) w (old q)

module _ {X : Type 0} (k : ℕ) (w : Option X) (old new : ℕ → Option X) (puts : Puts k w old new) (q : ℕ) where
  pub puts-here : nat_eq k q ≡ true → new q ≡ w
  puts-here h = puts.at q ∙ ap (λ b. cond b w (old q)) h

  pub puts-other : nat_eq k q ≡ false → new q ≡ old q
  puts-other h = puts.at q ∙ ap (λ b. cond b w (old q)) h

pub puts_of : {X : Type 0} (k : ℕ) (w : Option X) (old new : ℕ → Option X) → ((q : ℕ) → new q ≡ cond (is_at (nat_cmp k) q) w (old q)) → Puts k w old new
puts_of k w old new h = record { at = λ q. h q ∙ ap (λ b. cond b w (old q)) (is_at-nat k q) }

module _ {ranks : BTreeMap ℕ ℕ} {offers : Offers} {shelves : Shelves} (stored : IsStored ranks offers shelves) where
  -- the shelves of a rank that no offering has are empty
  pub clear-rank : (rank : ℕ) → get nat_cmp offers rank ≡ None → IsClear shelves rank
  clear-rank rank none = record { at = λ o n. stored.shelved o n rank ∙ ap (λ x. positions (is_under o n) (rows_of x)) none }

  -- an instance that no offering is of has no rank
  pub no-rank : (instance : ℕ) → ((q : ℕ) (x : Offer) → get nat_cmp offers q ≡ Some x → nat_eq x.instance instance ≡ false) → get nat_cmp ranks instance ≡ None
  no-rank instance differs = by (get nat_cmp ranks instance) refl
    where
      offered : (q : ℕ) (o : Option Offer) → get nat_cmp offers q ≡ o → option_map (λ (x : Offer). x.instance) o ≡ Some instance → ⊥
      offered q None is there = let bad : true ≡ false = ap is_some (sym there) in true≢false bad
      offered q (Some x) is there = let same : x.instance ≡ instance = cc in true≢false (sym (eq-eqb x.instance instance same) ∙ differs q x is)

      by : (r : Option ℕ) → get nat_cmp ranks instance ≡ r → get nat_cmp ranks instance ≡ None
      by None h = h
      by (Some q) h = absurd (offered q (get nat_cmp offers q) refl (stored.known instance q h))

  -- no offering is of an instance without a rank
  pub no-offer : (instance : ℕ) → get nat_cmp ranks instance ≡ None → (q : ℕ) (x : Offer) → get nat_cmp offers q ≡ Some x → nat_eq x.instance instance ≡ false
  no-offer instance none q x found = ne_eqb x.instance instance (λ same.
      let bad : Some q ≡ None = sym (subst (λ i. get nat_cmp ranks i ≡ Some q) same (stored.ranked q x found)) ∙ none in
      true≢false (ap is_some bad))

  -- another instance than the one of this rank
  pub other-instance : (instance rank : ℕ) → get nat_cmp ranks instance ≡ Some rank → (q : ℕ) (x : Offer) → get nat_cmp offers q ≡ Some x → nat_eq q rank ≡ false → nat_eq x.instance instance ≡ false
  other-instance instance rank known q x found other = ne_eqb x.instance instance (λ same.
      let mine : get nat_cmp ranks instance ≡ Some q = subst (λ i. get nat_cmp ranks i ≡ Some q) same (stored.ranked q x found) in
      let both : Some q ≡ Some rank = sym mine ∙ known in
      let at : q ≡ rank = cc in
      true≢false (sym (eq-eqb q rank at) ∙ other))

module _ {ranks ranks' : BTreeMap ℕ ℕ} {offers offers' : Offers} {shelves shelves' : Shelves} (stored : IsStored ranks offers shelves) (ordered : IsOrdered nat_cmp offers') where
  -- an offering was entered
  pub stored-offer : (instance rank : ℕ) (offer : Offer) → offer.instance ≡ instance → get nat_cmp offers rank ≡ None
      → ((q : ℕ) (x : Offer) → get nat_cmp offers q ≡ Some x → nat_eq x.instance instance ≡ false)
      → Puts instance (Some rank) (get nat_cmp ranks) (get nat_cmp ranks') → Puts rank (Some offer) (get nat_cmp offers) (get nat_cmp offers') → AreShelved shelves shelves' rank offer.rows.items → IsStored ranks' offers' shelves'
  stored-offer instance rank offer mine none differs in_ranks in_offers put = record {
    ordered = ordered;
    ranked = λ q x found. ranked q x (nat_eq rank q) refl found;
    known = λ i q found. known i q (nat_eq instance i) refl found;
    shelved = λ o n q. put.at o n q ∙ shelved o n q (nat_eq rank q) refl;
  }
    where
      ranked : (q : ℕ) (x : Offer) (b : Bool) → nat_eq rank q ≡ b → get nat_cmp offers' q ≡ Some x → get nat_cmp ranks' x.instance ≡ Some q
      ranked q x true h found =
          let at : rank ≡ q = eqb-true rank q h in
          let this : Some offer ≡ Some x = sym (puts-here rank (Some offer) (get nat_cmp offers) (get nat_cmp offers') in_offers q h) ∙ found in
          let is : offer ≡ x = cc in
          let same : instance ≡ x.instance = sym mine ∙ ap (λ o. o.instance) is in
          in_ranks.at x.instance ∙ rw (eq-eqb instance x.instance same) (ap Some at)
      ranked q x false h found =
          let old : get nat_cmp offers q ≡ Some x = sym (puts-other rank (Some offer) (get nat_cmp offers) (get nat_cmp offers') in_offers q h) ∙ found in
          let other = flip_false x.instance instance (differs q x old) in
          in_ranks.at x.instance ∙ rw (other) (stored.ranked q x old)

      known : (i q : ℕ) (b : Bool) → nat_eq instance i ≡ b → get nat_cmp ranks' i ≡ Some q → option_map (λ (o : Offer). o.instance) (get nat_cmp offers' q) ≡ Some i
      known i q true h found =
          let same : instance ≡ i = eqb-true instance i h in
          let this : Some rank ≡ Some q = sym (puts-here instance (Some rank) (get nat_cmp ranks) (get nat_cmp ranks') in_ranks i h) ∙ found in
          let at : rank ≡ q = cc in
          ap (option_map (λ (o : Offer). o.instance)) (in_offers.at q) ∙ rw (eq-eqb rank q at) (ap Some (mine ∙ same))
      known i q false h found =
          let old : get nat_cmp ranks i ≡ Some q = sym (puts-other instance (Some rank) (get nat_cmp ranks) (get nat_cmp ranks') in_ranks i h) ∙ found in
          let there = stored.known i q old in
          let other : nat_eq rank q ≡ false = ne_eqb rank q (λ same. true≢false (sym (ap is_some there) ∙ ap is_some (ap (option_map (λ (o : Offer). o.instance)) (subst (λ k. get nat_cmp offers k ≡ None) same none)))) in
          ap (option_map (λ (o : Offer). o.instance)) (in_offers.at q) ∙ rw (other) there

      shelved : (o : Operation) (n q : ℕ) (b : Bool) → nat_eq rank q ≡ b → cond b (positions (is_under o n) offer.rows.items) (places_at shelves o n q) ≡ positions (is_under o n) (rows_at offers' q)
      shelved o n q true h = ap (λ x. positions (is_under o n) (rows_of x)) (sym (puts-here rank (Some offer) (get nat_cmp offers) (get nat_cmp offers') in_offers q h))
      shelved o n q false h = stored.shelved o n q ∙ ap (λ x. positions (is_under o n) (rows_of x)) (sym (puts-other rank (Some offer) (get nat_cmp offers) (get nat_cmp offers') in_offers q h))

  -- an offering was withdrawn
  pub stored-withdraw : (instance rank : ℕ) (offer : Offer) → get nat_cmp ranks instance ≡ Some rank → get nat_cmp offers rank ≡ Some offer
      → Puts instance None (get nat_cmp ranks) (get nat_cmp ranks') → Puts rank None (get nat_cmp offers) (get nat_cmp offers') → AreGone shelves shelves' rank offer.rows.items → IsStored ranks' offers' shelves'
  stored-withdraw instance rank offer here there in_ranks in_offers gone = record {
    ordered = ordered;
    ranked = λ q x found. ranked q x (nat_eq rank q) refl found;
    known = λ i q found. known i q (nat_eq instance i) refl found;
    shelved = λ o n q. gone.at o n q ∙ shelved o n q (nat_eq rank q) (list_any (is_under o n) offer.rows.items) refl refl;
  }
    where
      ranked : (q : ℕ) (x : Offer) (b : Bool) → nat_eq rank q ≡ b → get nat_cmp offers' q ≡ Some x → get nat_cmp ranks' x.instance ≡ Some q
      ranked q x true h found = let bad : None ≡ Some x = sym (puts-here rank None (get nat_cmp offers) (get nat_cmp offers') in_offers q h) ∙ found in cc
      ranked q x false h found =
          let old : get nat_cmp offers q ≡ Some x = sym (puts-other rank None (get nat_cmp offers) (get nat_cmp offers') in_offers q h) ∙ found in
          let other = flip_false x.instance instance (other-instance stored instance rank here q x old (flip_false rank q h)) in
          in_ranks.at x.instance ∙ rw (other) (stored.ranked q x old)

      known : (i q : ℕ) (b : Bool) → nat_eq instance i ≡ b → get nat_cmp ranks' i ≡ Some q → option_map (λ (o : Offer). o.instance) (get nat_cmp offers' q) ≡ Some i
      known i q true h found = let bad : None ≡ Some q = sym (puts-here instance None (get nat_cmp ranks) (get nat_cmp ranks') in_ranks i h) ∙ found in cc
      known i q false h found =
          let old : get nat_cmp ranks i ≡ Some q = sym (puts-other instance None (get nat_cmp ranks) (get nat_cmp ranks') in_ranks i h) ∙ found in
          let mine = stored.known i q old in
          let other : nat_eq rank q ≡ false = ne_eqb rank q (λ same.
          let both : Some instance ≡ Some i = sym (stored.known instance rank here) ∙ ap (λ k. option_map (λ (o : Offer). o.instance) (get nat_cmp offers k)) same ∙ mine in
          let is : instance ≡ i = cc in
          true≢false (sym (eq-eqb instance i is) ∙ h)) in
          ap (option_map (λ (o : Offer). o.instance)) (in_offers.at q) ∙ rw (other) mine

      shelved : (o : Operation) (n q : ℕ) (b any : Bool) → nat_eq rank q ≡ b → list_any (is_under o n) offer.rows.items ≡ any → cond (b && any) [] (places_at shelves o n q) ≡ positions (is_under o n) (rows_at offers' q)
      shelved o n q true true h a = ap (λ x. positions (is_under o n) (rows_of x)) (sym (puts-here rank None (get nat_cmp offers) (get nat_cmp offers') in_offers q h))
      shelved o n q true false h a =
          let at : rank ≡ q = eqb-true rank q h in
          let rows : rows_at offers q ≡ offer.rows.items = ap (rows_at offers) (sym at) ∙ ap rows_of there in
          stored.shelved o n q ∙ ap (positions (is_under o n)) rows ∙ positions-none (is_under o n) offer.rows.items a
          ∙ ap (λ x. positions (is_under o n) (rows_of x)) (sym (puts-here rank None (get nat_cmp offers) (get nat_cmp offers') in_offers q h))
      shelved o n q false true h a = stored.shelved o n q ∙ ap (λ x. positions (is_under o n) (rows_of x)) (sym (puts-other rank None (get nat_cmp offers) (get nat_cmp offers') in_offers q h))
      shelved o n q false false h a = stored.shelved o n q ∙ ap (λ x. positions (is_under o n) (rows_of x)) (sym (puts-other rank None (get nat_cmp offers) (get nat_cmp offers') in_offers q h))

-- the same maps by look-ups, and the same places
module _ {ranks ranks' : BTreeMap ℕ ℕ} {offers offers' : Offers} {shelves shelves' : Shelves} (stored : IsStored ranks offers shelves) where
  pub stored-same : ((q : ℕ) → get nat_cmp ranks' q ≡ get nat_cmp ranks q) → offers'.entries ≡ offers.entries → AreSame shelves shelves' → IsStored ranks' offers' shelves'
  stored-same same_ranks entries same = record {
    ordered = subst (λ es. IsOrdered' es) (sym entries) stored.ordered;
    ranked = λ q x found. same_ranks x.instance ∙ stored.ranked q x (ap (find_at q) (sym entries) ∙ found);
    known = λ i q found. ap (λ es. option_map (λ (o : Offer). o.instance) (find_at q es)) entries ∙ stored.known i q (sym (same_ranks i) ∙ found);
    shelved = λ o n q. same.at o n q ∙ stored.shelved o n q ∙ ap (λ es. positions (is_under o n) (rows_of (find_at q es))) (sym entries);
  }
    where
      IsOrdered' : List (ℕ × Offer) → Type 0
      IsOrdered' es = IsStrictlySortedBy nat_cmp (keys_of es)
