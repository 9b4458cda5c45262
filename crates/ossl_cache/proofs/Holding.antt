-- Places no two of which hold the same key: that they stay so, and that the first that holds a key is the one that an
-- order of use finds.
use Rattle.std.proofs.Common.{◌≡◌, ◌∙◌, ◌<◌, ℕ, refl, sym, ap, subst, Bool, true, false, List, [], ◌∷◌, map, Option, Some, None, find, position, length, replicate, cond, nat_eq, nat_lt, leb, slice_set, Vec, arith, true≢false}
use Rattle.std.specs.List.{position_or_len}
use Rattle.std.specs.Vec.{with_items}
use Rattle.std.proofs.Math.ListN.{get_or-map}
use Rattle.std.proofs.lemmas.List.{get_or_past, get_or-set_other, get_or-set_same, length-map}
use Rattle.std.proofs.lemmas.List.Quantifiers.{position-Some}
use Rattle.std.proofs.lemmas.List.Sums.{fails_before_first}
use Rattle.std.proofs.lemmas.Bool.{eq-eqb, ne_eqb, eqb-true, ltb-false, leb-true, leb-false}
use Rattle.ossl_cache.specs.declared.key.Key.{Key}
use Rattle.ossl_cache.specs.Recent.{Answer, same_key}
use Rattle.ossl_cache.specs.Places.{Order, held_at, emptied, holds_in, holds_at, AreApart, IsPlaced}
use Rattle.ossl_cache.proofs.Marking.{same_both}
use Rattle.ossl_cache.proofs.Making.{free, emptied-items}
use Rattle.ossl_cache.proofs.Placing.{is_named, all_named}

pub apart-free : (n : ℕ) → AreApart (replicate n None)
apart-free n key i j holds _ = absurd (true≢false (sym holds ∙ ap (holds_in (same_key key)) (free n i)))

module _ (slots : List (Option Answer)) where
  -- ---- they stay so

  module _ (going : Answer → Bool) where
    one-emptied : (key : Key) (o : Option Answer) → holds_in (same_key key) (emptied going o) ≡ true → holds_in (same_key key) o ≡ true
    one-emptied key None h = h
    one-emptied key (Some a) h = (elim (going a) as (λ b. holds_in (same_key key) (cond b None (Some a)) ≡ true → same_key key a.0 ≡ true) [
      | true ↦ λ none. absurd (true≢false (sym none))
      | false ↦ λ stays. stays
    ]) h

    before : (key : Key) (i : ℕ) → holds_at (same_key key) (map (emptied going) slots) i ≡ true → holds_at (same_key key) slots i ≡ true
    before key i h = one-emptied key (held_at slots i) (ap (holds_in (same_key key)) (sym (get_or-map (emptied going) slots i None)) ∙ h)

    pub apart-emptied : AreApart slots → AreApart (map (emptied going) slots)
    apart-emptied apart key i j h k = apart key i j (before key i h) (before key j k)

  -- a key whose answers went is held nowhere
  pub gone : (key : Key) (i : ℕ) → holds_at (same_key key) (map (emptied (λ a. same_key key a.0)) slots) i ≡ false
  gone key i = ap (holds_in (same_key key)) (get_or-map (emptied (λ a. same_key key a.0)) slots i None) ∙ one (held_at slots i)
    where
      one : (o : Option Answer) → holds_in (same_key key) (emptied (λ a. same_key key a.0) o) ≡ false
      one None = refl
      one (Some a) = (elim (same_key key a.0) as (λ b. same_key key a.0 ≡ b → holds_in (same_key key) (cond b None (Some a)) ≡ false) [
        | true ↦ λ _. refl
        | false ↦ λ other. other
      ]) refl

  -- an answer is put at a place, and its key is held nowhere before
  pub apart-put : (place : ℕ) (a : Answer) → place < length slots → ((i : ℕ) → holds_at (same_key a.0) slots i ≡ false) → AreApart slots → AreApart (slice_set slots place (Some a))
  apart-put place a within nowhere apart key i j h k = go (nat_eq place i) (nat_eq place j) refl refl
    where
      put : List (Option Answer)
      put = slice_set slots place (Some a)

      is_new : (n : ℕ) → nat_eq place n ≡ true → holds_at (same_key key) put n ≡ true → same_key key a.0 ≡ true
      is_new n same holds = ap (holds_in (same_key key)) (sym (get_or-set_same slots place (Some a) None within)) ∙ ap (holds_at (same_key key) put) (eqb-true place n same) ∙ holds

      is_old : (n : ℕ) → nat_eq place n ≡ false → holds_at (same_key key) put n ≡ true → holds_at (same_key key) slots n ≡ true
      is_old n other holds = ap (holds_in (same_key key)) (sym (get_or-set_other slots place n (Some a) None (λ same. true≢false (sym (eq-eqb place n (sym same)) ∙ other)))) ∙ holds

      both : (o : Option Answer) → same_key key a.0 ≡ true → holds_in (same_key key) o ≡ true → holds_in (same_key a.0) o ≡ true
      both None new old = old
      both (Some b) new old = same_both key a.0 b.0 new old

      never : (n : ℕ) → same_key key a.0 ≡ true → holds_at (same_key key) slots n ≡ true → ⊥
      never n new old = true≢false (sym (both (held_at slots n) new old) ∙ nowhere n)

      go : (p q : Bool) → nat_eq place i ≡ p → nat_eq place j ≡ q → i ≡ j
      go true true e f = sym (eqb-true place i e) ∙ eqb-true place j f
      go true false e f = absurd (never j (is_new i e h) (is_old j f k))
      go false true e f = absurd (never i (is_new j f k) (is_old i e h))
      go false false e f = apart key i j (is_old i e h) (is_old j f k)

  -- ---- the first place that holds a key

  module _ (test : Key → Bool) where
    -- the only place that holds a key is the one that an order finds, where it names that place
    only_found : (i : ℕ) → holds_at test slots i ≡ true → ((j : ℕ) → holds_at test slots j ≡ true → j ≡ i) → (es : Order) → is_named i es ≡ true
        → find (holds_at test slots) (map (λ e. e.0) es) ≡ Some i
    only_found i holds only [] named = absurd (true≢false (sym named))
    only_found i holds only (e ∷ es) named = (elim (holds_at test slots e.0) as (λ b. holds_at test slots e.0 ≡ b → cond b (Some e.0) (find (holds_at test slots) (map (λ x. x.0) es)) ≡ Some i) [
      | true ↦ λ yes. ap Some (only e.0 yes)
      | false ↦ λ no.
          let other : nat_eq i e.0 ≡ false = ne_eqb i e.0 (λ same. true≢false (sym holds ∙ ap (holds_at test slots) same ∙ no)) in
          let later : is_named i es ≡ true = rw (other) at named in
          only_found i holds only es later
    ]) refl

    nowhere : None ≡ position (holds_in test) slots → (i : ℕ) → holds_at test slots i ≡ false
    nowhere none i = (elim (nat_lt first (length slots)) as (λ b. nat_lt first (length slots) ≡ b → None ≡ cond b (Some first) None → holds_at test slots i ≡ false) [
      | true ↦ λ _ some. cc
      | false ↦ λ past _. go past (leb (length slots) i) refl
    ]) refl none
      where
        first : ℕ
        first = position_or_len (holds_in test) slots

        go : nat_lt first (length slots) ≡ false → (b : Bool) → leb (length slots) i ≡ b → holds_at test slots i ≡ false
        go past true over = ap (holds_in test) (get_or_past slots i None (leb-true (length slots) i over))
        go past false within = fails_before_first (holds_in test) slots i None (omega (arith, ltb-false first (length slots) past, leb-false (length slots) i within))

    none_found : ((i : ℕ) → holds_at test slots i ≡ false) → (es : Order) → None ≡ find (holds_at test slots) (map (λ e. e.0) es)
    none_found none [] = refl
    none_found none (e ∷ es) = rw (none e.0) (none_found none es)

  pub missing_place : (key : Key) (es : Order) → None ≡ position (holds_in (same_key key)) slots → None ≡ find (holds_at (same_key key) slots) (map (λ e. e.0) es)
  missing_place key es none = none_found (same_key key) (nowhere (same_key key) none) es

  pub found_place : (key : Key) (es : Order) (i : ℕ) → IsPlaced slots es → Some i ≡ position (holds_in (same_key key)) slots → find (holds_at (same_key key) slots) (map (λ e. e.0) es) ≡ Some i
  found_place key es i placed some =
      let first = position-Some (holds_in (same_key key)) slots i None (sym some) in
      let named = all_named i es (omega (arith, first.0, placed.room)) placed.all placed.once in
      only_found (same_key key) i first.1 (λ j holds. placed.apart key j i holds first.1) es named

-- places whose vector is emptied
module _ {Z : Type 0} (v : Vec (Option Answer) Z) (going : Answer → Bool) (ws : List (Option Answer)) (changed : ws ≡ map (emptied going) v.items) where
  pub emptied-placed : (es : Order) → IsPlaced v.items es → IsPlaced (with_items v ws).items es
  emptied-placed es placed =
      let items = emptied-items v going ws changed in
      record {
        room = ap length items ∙ length-map v.items (emptied going) ∙ placed.room;
        all = placed.all;
        once = placed.once;
        apart = subst AreApart (sym items) (apart-emptied v.items going placed.apart);
      }
