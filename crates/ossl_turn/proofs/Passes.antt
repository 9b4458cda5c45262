-- The passes that come back at the end.
use Rattle.std.proofs.Common.{◌≡◌, ◌≢◌, ℕ, zero, suc, ◌+◌, ◌<◌, ◌≤◌, ◌==◌, List, [], ◌∷◌, ◌++◌, length, get_or, map, Bool, true, false, All, Contains, Some, None, position, swap_remove, IsPermutation, sym, ap, ◌∙◌, subst, arith, true≢false, eq-eqb, eqb-true}
use Rattle.std.proofs.lemmas.List.Quantifiers.{position-Some}
use Rattle.std.specs.List.{position_or_len}
use Rattle.std.proofs.lemmas.Grind.{common_steps}
use Rattle.std.proofs.lemmas.List.Sums.{fails_before_first}
use mathlib.Core.Option.{some}
use lib.ListN.{get_elem?}
use Rattle.atomic_table.specs.Table.{Me, Final, Seen}
use Rattle.atomic_table.specs.Seated.{TableId}
use Rattle.ossl_base.specs.declared.entry.Entry.{Entry}
use Rattle.ossl_turn.specs.declared.rule.View.{View}
use Rattle.ossl_turn.specs.declared.rule.Claim.{Claim}
use Rattle.ossl_turn.specs.History.{IsHistory}
use Rattle.ossl_turn.specs.Turn.{TurnRule, Stands}
use Rattle.ossl_turn.specs.Passes.{PassFacts, SharedFacts, CameFrom, AreAll, IsFree, facts_of, claim_seen, taken_over, Confirms}
use Rattle.ossl_turn.proofs.Keeps.{closes}
use Rattle.ossl_turn.proofs.Lists.{all_cons}
use Rattle.std.proofs.lemmas.List.Sorted.{IsPermutation-swap_remove, IsPermutation-sym, All-permutation, Contains-permutation}

module _ {A : Type 0} where
  -- where no index is found, no element passes
  pub none_passes : (p : A → Bool) (xs : List A) → position p xs ≡ None → (k : ℕ) (d : A) → k < length xs → p (get_or xs k d) ≡ false
  none_passes p xs e k d h = let far : length xs ≤ position_or_len p xs = grind (arith, common_steps) in fails_before_first p xs k d (omega arith)

module _ {A B : Type 0} where
  -- a member of a list is, mapped, a member of the mapped list and more
  contains_more : (g : A → B) (xs : List A) (more : List B) (x : A) → Contains xs x → Contains (map g xs ++ more) (g x)
  contains_more g [] more x (k, h, e) = absurd (omega arith)
  contains_more g (y ∷ ys) more x (zero, h, e) = (zero, omega arith, ap g e)
  contains_more g (y ∷ ys) more x (suc k, h, e) = let (j, l, is) = contains_more g ys more x (k, omega arith, e) in (suc j, omega arith, is)

  -- what holds of the mapped list and more holds, mapped, of the list
  all_map_front : (P : B → Type 0) (g : A → B) (xs : List A) (more : List B) → All P (map g xs ++ more) → All (λ x. P (g x)) xs
  all_map_front P g [] more all k d h = absurd (omega arith)
  all_map_front P g (x ∷ xs) more all zero d h = all 0 (g d) (omega arith)
  all_map_front P g (x ∷ xs) more all (suc k) d h = all_map_front P g xs more (λ j c l. all (suc j) c (omega arith)) k d (omega arith)

module _ {C R F : Type 0} where
  -- among all passes the first is found
  pub some_first : (passes : List (PassFacts C R F)) → AreAll passes → position (λ p. p.number == 0) passes ≡ None → ⊥
  some_first passes all e = let (p, (k, inside, is), zero_number) = all.numbers 0 all.some_pass in
      true≢false (sym (ap (λ (q : PassFacts C R F). q.number == 0) is ∙ eq-eqb p.number 0 zero_number) ∙ none_passes (λ (q : PassFacts C R F). q.number == 0) passes e k p inside)

  -- the pass that is found and taken out is the first, and the list with it in front is the list as it was, in another order
  pub first_taken : (before after : List (PassFacts C R F)) (i : ℕ) (p : PassFacts C R F) → position (λ q. q.number == 0) before ≡ Some i → p ≡ get_or before i p → after ≡ swap_remove before i p
      → (p.number ≡ 0) × IsPermutation before (p ∷ after)
  first_taken before after i p found at is = let (inside, passes, rest) = position-Some (λ (q : PassFacts C R F). q.number == 0) before i p found in (
    eqb-true p.number 0 (subst (λ (q : PassFacts C R F). (q.number == 0) ≡ true) (sym at) passes),
    subst (λ (z : List (PassFacts C R F)). IsPermutation before (p ∷ z)) (sym is) (IsPermutation-swap_remove before i p inside at),
  )

  -- a pass of another number is among those behind
  behind_first : (p q : PassFacts C R F) (after : List (PassFacts C R F)) → Contains (p ∷ after) q → q.number ≢ p.number → Contains after q
  behind_first p q after (zero, h, e) other = absurd (other (ap (λ (z : PassFacts C R F). z.number) (sym e)))
  behind_first p q after (suc k, h, e) other = (k, omega arith, e)

  -- of all passes, the first and the others
  pub all_parts : (P : PassFacts C R F → Type 0) (before after : List (PassFacts C R F)) (p : PassFacts C R F) → IsPermutation before (p ∷ after) → All P before → P p × All P after
  all_parts P before after p taken all = let both = All-permutation P before (p ∷ after) taken all in (both 0 p (omega arith), λ k d h. both (suc k) d (omega arith))

  -- where all came from one shared object, so did the first and the others
  pub all_came : (scene : SharedFacts F) (before after : List (PassFacts C R F)) (p : PassFacts C R F) (z : TableId) → IsPermutation before (p ∷ after) → All (CameFrom scene) before → scene.of ≡ z → (p.of ≡ z) × All (λ q. q.of ≡ z) after
  all_came scene before after p z taken all is = let parts = all_parts (CameFrom scene) before after p taken all in (parts.0.0 ∙ is, λ k d h. (parts.1 k d h).0 ∙ is)

  -- the first pass has taken over one of each number that it made
  pub covers : (v : View C R F) (before after : List (PassFacts C R F)) (p : PassFacts C R F) → AreAll before → IsPermutation before (p ∷ after) → p.number ≡ 0 → v.made ≡ p.made
      → (n : ℕ) → 0 < n → n ≤ v.made → (c : Claim C R) × Contains (taken_over v after).taken c × (c.number ≡ n)
  covers v before after p all taken zero_number made n low high =
      let count : p.made + 1 ≡ length before = (all_parts (λ (q : PassFacts C R F). q.number ≡ 0 → q.made + 1 ≡ length before) before after p taken all.made).0 zero_number in
      let (q, has, is) = all.numbers n (omega arith) in (claim_seen q, contains_more claim_seen after v.taken q (behind_first p q after (Contains-permutation before (p ∷ after) q taken has) (λ e. omega arith)), is)

module _ {O C R F : Type 0} (history : O → List (Entry C R)) (fixed : O → F) (follows : F → List (Entry C R) → Entry C R → Type 0) where
  -- the end: the object has the fixed part, each pass is confirmed, there are no other entries, and the history is lawful
  pub ends : (f : O) (id : ℕ) (tid : TableId) (v : View C R O) (number made : ℕ) (m : Me O (View C R O)) (before after : List (PassFacts C R O)) (p : PassFacts C R O) (ws : List ℕ) (xs : List O) (o : O) → AreAll before → IsPermutation before (p ∷ after) → p.number ≡ 0
      → IsFree number made m → facts_of tid m ≡ p → v ≡ taken_over m.0 after → Final (Seen (TurnRule history fixed follows f) id v) ws xs → get_elem? xs 0 ≡ some o
      → (fixed o ≡ fixed f) × All (Confirms (history o)) before × All (λ e. e.caller < length before) (history o) × IsHistory (follows (fixed f)) (history o)
  ends f id tid v number made m before after p ws xs o all taken zero_number free is_p v_is final here =
      let w : View C R O = m.0 in let number_0 : w.claim.number ≡ 0 = ap (λ (z : PassFacts C R O). z.number) is_p ∙ zero_number in let made_is : w.made ≡ p.made = ap (λ (z : PassFacts C R O). z.made) is_p in
      let final' = subst (λ (z : View C R O). Final (Seen (TurnRule history fixed follows f) id z) ws xs) v_is final in
      let done = closes history fixed follows f id (taken_over w after) ws xs o final' free.1 free.2 number_0 (covers w before after p all taken zero_number made_is) here in
      let count : p.made + 1 ≡ length before = (all_parts (λ (q : PassFacts C R O). q.number ≡ 0 → q.made + 1 ≡ length before) before after p taken all.made).0 zero_number in
      let first_tells : Confirms (history o) p = subst (Confirms (history o)) is_p done.1 in let rest_tell : All (Confirms (history o)) after = all_map_front (Stands (history o)) claim_seen after w.taken done.2 in (
        done.0,
        All-permutation (Confirms (history o)) (p ∷ after) before (IsPermutation-sym before (p ∷ after) taken) (all_cons (Confirms (history o)) p after first_tells rest_tell),
        (λ k d h. let a : (get_or (history o) k d).caller ≤ w.made = done.3 k d h in omega arith),
        done.4,
      )
