-- Lists of views, and histories.
use Rattle.std.proofs.Common.{◌≡◌, ◌≢◌, ◌⊎◌, inl, inr, ⊎_elim, ℕ, zero, suc, ◌+◌, ◌<◌, ◌≤◌, ne_eqb, eq-eqb, List, [], ◌∷◌, ◌++◌, length, set, Bool, true, cond, All, filter, refl, sym, ap, ◌∙◌, subst, arith, append_assoc, append-nil, true≢false}
use mathlib.Core.Option.{some, some-injective, some-ne-none}
use mathlib.Core.List.{IsPrefix}
use lib.ListN.{get_elem?}
use Rattle.std.proofs.lemmas.List.Elements.{filter-append}
use Rattle.atomic_table.proofs.Lists.{set_else}
use Rattle.ossl_base.specs.declared.entry.Entry.{Entry}
use Rattle.ossl_turn.specs.declared.rule.View.{View}
use Rattle.ossl_turn.specs.declared.rule.Stage.{Stage}
use Rattle.ossl_turn.specs.declared.rule.Stage.TheVariants.{Idle, Waiting, Turn}
use Rattle.ossl_turn.specs.History.{is_of, own_of, IsHistory}
use Rattle.ossl_turn.specs.Turn.{waiting, ticket_count, IsSpent}

module _ {A : Type 0} where
  -- what was put at an occupied place is there
  pub set_there : (l : List A) (i : ℕ) (a b : A) → get_elem? l i ≡ some b → get_elem? (set l i a) i ≡ some a
  set_there [] i a b e = absurd (some-ne-none b (sym e))
  set_there (x ∷ xs) zero a b e = refl
  set_there (x ∷ xs) (suc i) a b e = set_there xs i a b e

  -- an occupied place is below the length
  pub at_below : (l : List A) (i : ℕ) (a : A) → get_elem? l i ≡ some a → i < length l
  at_below [] i a e = absurd (some-ne-none a (sym e))
  at_below (x ∷ xs) zero a e = omega arith
  at_below (x ∷ xs) (suc i) a e = let h = at_below xs i a e in omega arith

  -- one place has one element
  pub same_at : (l : List A) (i : ℕ) (a b : A) → get_elem? l i ≡ some a → get_elem? l i ≡ some b → a ≡ b
  same_at l i a b p q = some-injective a b (sym p ∙ q)

  -- two writes at different places may change places
  pub set_swap : (l : List A) (i j : ℕ) (a b : A) → i ≢ j → set (set l i a) j b ≡ set (set l j b) i a
  set_swap [] i j a b ne = refl
  set_swap (x ∷ xs) zero zero a b ne = absurd (ne refl)
  set_swap (x ∷ xs) zero (suc j) a b ne = refl
  set_swap (x ∷ xs) (suc i) zero a b ne = refl
  set_swap (x ∷ xs) (suc i) (suc j) a b ne = ap (λ (z : List A). x ∷ z) (set_swap xs i j a b (λ e. ne (ap suc e)))

  -- an element of a list with one more is of the list or is the one more
  pub at_end_or : (l : List A) (a b : A) (j : ℕ) → get_elem? (l ++ a ∷ []) j ≡ some b → (get_elem? l j ≡ some b) ⊎ ((j ≡ length l) × (a ≡ b))
  at_end_or [] a b zero e = inr (refl, some-injective a b e)
  at_end_or [] a b (suc j) e = absurd (some-ne-none b (sym e))
  at_end_or (x ∷ xs) a b zero e = inl e
  at_end_or (x ∷ xs) a b (suc j) e = ⊎_elim (λ (h : get_elem? xs j ≡ some b). inl h) (λ (h : (j ≡ length xs) × (a ≡ b)). inr (omega (arith, h.0), h.1)) (at_end_or xs a b j e)

  -- what holds of all of a list holds of its front
  pub all_front : (P : A → Type 0) (l more : List A) → All P (l ++ more) → All P l
  all_front P [] more all k d h = absurd (omega arith)
  all_front P (x ∷ xs) more all zero d h = all 0 d (omega arith)
  all_front P (x ∷ xs) more all (suc k) d h = all_front P xs more (λ j c l. all (suc j) c (omega arith)) k d (omega arith)

  -- what holds of all of a list holds of all of a prefix
  pub all_prefix : (P : A → Type 0) (l log : List A) → IsPrefix l log → All P log → All P l
  all_prefix P l log p all = all_front P l p.0 (subst (All P) (sym p.1) all)

  -- what holds of all of a list holds of an element between
  pub all_middle : (P : A → Type 0) (l : List A) (x : A) (more : List A) → All P ((l ++ x ∷ []) ++ more) → P x
  all_middle P [] x more all = all 0 x (omega arith)
  all_middle P (y ∷ ys) x more all = all_middle P ys x more (λ k d h. all (suc k) d (omega arith))

  -- a prefix of a list is one of a longer list
  pub prefix_more : (l log more : List A) → IsPrefix l log → IsPrefix l (log ++ more)
  prefix_more l log more p = (p.0 ++ more, sym (append_assoc l p.0 more) ∙ ap (λ (z : List A). z ++ more) p.1)

  abbrev head_or : A → List A → A
  head_or d [] = d
  head_or d (x ∷ xs) = x

  abbrev behind : List A → List A
  behind [] = []
  behind (x ∷ xs) = xs

  -- where a list with one more at its end is cut at an element, it is the one more or one before it
  pub snoc_split : (log before after : List A) (e x : A) → log ++ e ∷ [] ≡ before ++ x ∷ after → ((log ≡ before) × (e ≡ x)) ⊎ ((rest : List A) × (log ≡ before ++ x ∷ rest))
  snoc_split [] [] after e x p = inl (refl, ap (head_or e) p)
  snoc_split [] (b ∷ []) after e x p = absurd (cc)
  snoc_split [] (b ∷ c ∷ bs) after e x p = absurd (cc)
  snoc_split (y ∷ ys) [] after e x p = inr (ys, ap (λ (z : A). z ∷ ys) (ap (head_or e) p))
  snoc_split (y ∷ ys) (b ∷ bs) after e x p = let top : y ≡ b = ap (head_or e) p in
      ⊎_elim (λ (t : (ys ≡ bs) × (e ≡ x)). inl ((λ i. top i ∷ t.0 i), t.1)) (λ (t : (rest : List A) × (ys ≡ bs ++ x ∷ rest)). inr (t.0, λ i. top i ∷ t.1 i)) (snoc_split ys bs after e x (ap behind p))

module _ {C R : Type 0} where
  -- a history with one more entry that may follow it is a history
  pub history_snoc : (follows : List (Entry C R) → Entry C R → Type 0) (log : List (Entry C R)) (e : Entry C R) → IsHistory follows log → follows log e → IsHistory follows (log ++ e ∷ [])
  history_snoc follows log e h last before x after p = ⊎_elim
      (λ (t : (log ≡ before) × (e ≡ x)). subst (λ (z : List (Entry C R) × Entry C R). follows z.0 z.1) (λ i. (t.0 i, t.1 i)) last)
      (λ (t : (rest : List (Entry C R)) × (log ≡ before ++ x ∷ rest)). h before x t.0 t.1) (snoc_split log before after e x p)

  -- how a history begins is a history
  pub history_front : (follows : List (Entry C R) → Entry C R → Type 0) (seen log : List (Entry C R)) →
      IsPrefix seen log → IsHistory follows log → IsHistory follows seen
  history_front follows seen log p h before e after cut = h before e (after ++ p.0)
      (sym p.1 ∙ (ap (λ (z : List (Entry C R)). z ++ p.0) cut ∙ append_assoc before (e ∷ after) p.0))

  -- another caller's entry is not its own
  pub own_other : (n : ℕ) (log : List (Entry C R)) (e : Entry C R) → e.caller ≢ n → own_of n (log ++ e ∷ []) ≡ own_of n log
  own_other n log e ne = filter-append (is_of n) log (e ∷ []) ∙ ap (λ (b : Bool). filter (is_of n) log ++ cond b (e ∷ []) []) (ne_eqb e.caller n ne) ∙ append-nil (own_of n log)

  -- its own entry is one more of its own
  pub own_same : (n : ℕ) (log : List (Entry C R)) (e : Entry C R) → e.caller ≡ n → own_of n (log ++ e ∷ []) ≡ own_of n log ++ e ∷ []
  own_same n log e same = filter-append (is_of n) log (e ∷ []) ∙ ap (λ (b : Bool). filter (is_of n) log ++ cond b (e ∷ []) []) (eq-eqb e.caller n same)

  -- a caller above all numbers in the history has no entry
  pub own_none : (n m : ℕ) (log : List (Entry C R)) → m < n → All (λ (e : Entry C R). e.caller ≤ m) log → own_of n log ≡ []
  own_none n m [] h all = refl
  own_none n m (e ∷ es) h all = let low : e.caller ≤ m = all 0 e (omega arith) in let ne : e.caller ≢ n = (λ q. omega arith) in
      ap (λ (b : Bool). cond b (e ∷ own_of n es) (own_of n es)) (ne_eqb e.caller n ne) ∙ own_none n m es h (λ k d l. all (suc k) d (omega arith))

module _ {C R : Type 0} where
  -- a pass has one ticket at most
  one_at_most : (st : Stage C R) → ticket_count st ≤ 1
  one_at_most Idle = omega arith
  one_at_most (Waiting k) = omega arith
  one_at_most (Turn k h) = omega arith

module _ {C R F : Type 0} where
  -- how many tickets are out, when one view changes
  pub waiting_set : (l : List (View C R F)) (i : ℕ) (v w : View C R F) → get_elem? l i ≡ some v → waiting (set l i w) + ticket_count v.stage ≡ waiting l + ticket_count w.stage
  waiting_set [] i v w e = absurd (some-ne-none v (sym e))
  waiting_set (x ∷ xs) zero v w e = let same : ticket_count x.stage ≡ ticket_count v.stage = ap (λ (z : View C R F). ticket_count z.stage) (some-injective x v e) in omega arith
  waiting_set (x ∷ xs) (suc i) v w e = let h = waiting_set xs i v w e in omega arith

  -- there are no more tickets out than passes
  pub waiting_few : (l : List (View C R F)) → waiting l ≤ length l
  waiting_few [] = omega arith
  waiting_few (x ∷ xs) = let h = waiting_few xs in let o = one_at_most x.stage in omega arith

  -- how many tickets are out, with one view more
  pub waiting_snoc : (l : List (View C R F)) (w : View C R F) → waiting (l ++ w ∷ []) ≡ waiting l + ticket_count w.stage
  waiting_snoc [] w = omega arith
  waiting_snoc (x ∷ xs) w = let h = waiting_snoc xs w in omega arith

  -- a spent seat stays so while another one steps
  pub spent_stays : (vs : List (View C R F)) (id : ℕ) (v w : View C R F) → get_elem? vs id ≡ some v → v.live ≡ true → (n : ℕ) → IsSpent vs n → IsSpent (set vs id w) n
  spent_stays vs id v w at live n (u, there, gone) = let ne : n ≢ id = (λ e. true≢false (sym live ∙ (ap (λ (z : View C R F). z.live) (same_at vs id v u at (subst (λ (k : ℕ). get_elem? vs k ≡ some u) e there)) ∙ gone))) in (u, set_else vs id n w ne ∙ there, gone)
