-- Rows that are put on the shelves, or taken off, one by one.
use Rattle.std.proofs.Common.{◌≡◌, ◌∙◌, ◌<◌, ◌+◌, ℕ, refl, sym, ap, ap₂, subst, Bool, true, false, ◌&&◌, ◌||◌, List, [], ◌∷◌, ◌++◌, length, take, drop, cond, nat_eq, arith, get_or}
use Rattle.std.specs.List.{list_any}
use Rattle.std.proofs.lemmas.Bool.{eqb-true, and_parts}
use Rattle.std.proofs.lemmas.List.{take_more, length-take-le, take-append-drop}
use Rattle.ossl_codes.specs.declared.code.Operation.{Operation}
use Rattle.ossl_codes.specs.declared.code.Operation.TheVariants.{Digest, Cipher, Mac, Kdf}
use Rattle.ossl_store.specs.declared.offered.Offered.{Offered}
use Rattle.ossl_store.specs.declared.shelves.Shelves.{Shelves}
use Rattle.ossl_store.specs.Best.{is_under}
use Rattle.ossl_store.specs.Shelves.{places_at, same_operation, positions, ShelvesChange, AreSame, IsClear, AreShelved, KeepsOthers, AreGone}
use Rattle.ossl_store.proofs.Positions.{positions-snoc, positions-none, any-snoc, any-append_false}

operation_same : (a b : Operation) → same_operation a b ≡ true → a ≡ b
operation_same Digest Digest e = refl
operation_same Cipher Cipher e = refl
operation_same Mac Mac e = refl
operation_same Kdf Kdf e = refl
operation_same Digest Cipher e = cc
operation_same Digest Mac e = cc
operation_same Digest Kdf e = cc
operation_same Cipher Digest e = cc
operation_same Cipher Mac e = cc
operation_same Cipher Kdf e = cc
operation_same Mac Digest e = cc
operation_same Mac Cipher e = cc
operation_same Mac Kdf e = cc
operation_same Kdf Digest e = cc
operation_same Kdf Cipher e = cc
operation_same Kdf Mac e = cc

-- the cases of taking one more row off
gone-cases : (under at any : Bool) (old : List ℕ) → cond (under && at) [] (cond (at && any) [] old) ≡ cond (at && (any || under)) [] old
gone-cases true true true old = refl
gone-cases true true false old = refl
gone-cases true false true old = refl
gone-cases true false false old = refl
gone-cases false true true old = refl
gone-cases false true false old = refl
gone-cases false false true old = refl
gone-cases false false false old = refl

module _ (old mid new : Shelves) (rank : ℕ) (rows : List Offered) (row : Offered) where
  -- one more row is gone
  gone-row : AreGone old mid rank rows → ShelvesChange mid new row.op row.number rank [] → AreGone old new rank (rows ++ row ∷ [])
  gone-row so_far change = record {
    at = λ o n r.
        change.at o n r ∙ ap (λ ps. cond (is_under o n row && nat_eq rank r) [] ps) (so_far.at o n r)
        ∙ gone-cases (is_under o n row) (nat_eq rank r) (list_any (is_under o n) rows) (places_at old o n r)
        ∙ ap (λ b. cond (nat_eq rank r && b) [] (places_at old o n r)) (sym (any-snoc (is_under o n) rows row));
  }

  -- one more row is shelved
  shelved-row : AreShelved old mid rank rows → ShelvesChange mid new row.op row.number rank (places_at mid row.op row.number rank ++ length rows ∷ []) → AreShelved old new rank (rows ++ row ∷ [])
  shelved-row so_far change = record { at = λ o n r. change.at o n r ∙ by o n r (is_under o n row) (nat_eq rank r) refl refl }
    where
      there : (o : Operation) (n r : ℕ) → is_under o n row ≡ true → nat_eq rank r ≡ true → places_at mid row.op row.number rank ≡ positions (is_under o n) rows
      there o n r under at =
          let p = and_parts (same_operation row.op o) (nat_eq row.number n) under in
          let op : row.op ≡ o = operation_same row.op o p.0 in
          let number : row.number ≡ n = eqb-true row.number n p.1 in
          let same : rank ≡ r = eqb-true rank r at in
          let moved : places_at mid row.op row.number rank ≡ places_at mid o n r = ap₂ (λ o' n'. places_at mid o' n' rank) op number ∙ ap (λ r'. places_at mid o n r') same in
          moved ∙ so_far.at o n r ∙ rw (at) refl

      by : (o : Operation) (n r : ℕ) (under at : Bool) → is_under o n row ≡ under → nat_eq rank r ≡ at
          → cond (under && at) (places_at mid row.op row.number rank ++ length rows ∷ []) (places_at mid o n r) ≡ cond at (positions (is_under o n) (rows ++ row ∷ [])) (places_at old o n r)
      by o n r true true u a = rw (there o n r u a) (sym (positions-snoc (is_under o n) rows row ∙ rw (u) refl))
      by o n r false true u a = so_far.at o n r ∙ rw (a) (sym (positions-snoc (is_under o n) rows row ∙ rw (u) (nothing (positions (is_under o n) rows))))
        where
          nothing : (ps : List ℕ) → ps ++ [] ≡ ps
          nothing [] = refl
          nothing (p ∷ ps) = ap (λ qs. p ∷ qs) (nothing ps)
      by o n r true false u a = so_far.at o n r ∙ rw (a) refl
      by o n r false false u a = so_far.at o n r ∙ rw (a) refl

-- nothing is gone yet, and nothing shelved
pub gone-none : (shelves : Shelves) (rank : ℕ) → AreGone shelves shelves rank []
gone-none shelves rank = record { at = λ o n r. none (nat_eq rank r) (places_at shelves o n r) }
  where
    none : (b : Bool) (ps : List ℕ) → ps ≡ cond (b && false) [] ps
    none true ps = refl
    none false ps = refl

pub shelved-none : (shelves : Shelves) (rank : ℕ) → IsClear shelves rank → AreShelved shelves shelves rank []
shelved-none shelves rank clear = record { at = λ o n r. by o n r (nat_eq rank r) refl }
  where
    by : (o : Operation) (n r : ℕ) (b : Bool) → nat_eq rank r ≡ b → places_at shelves o n r ≡ cond b [] (places_at shelves o n r)
    by o n r true h = let same : rank ≡ r = eqb-true rank r h in subst (λ k. places_at shelves o n k ≡ []) same (clear.at o n)
    by o n r false h = refl

module _ (old mid new : Shelves) (rank : ℕ) (rows : List Offered) where
  -- the step of a loop over the rows
  pub gone-more : (i : ℕ) (row : Offered) → i < length rows → row ≡ get_or rows i row → AreGone old mid rank (take i rows) → ShelvesChange mid new row.op row.number rank [] → AreGone old new rank (take (i + 1) rows)
  gone-more i row within is so_far change =
      subst (AreGone old new rank) (sym (take_more rows i row within ∙ ap (λ x. take i rows ++ x ∷ []) (sym is))) (gone-row old mid new rank (take i rows) row so_far change)

  pub shelved-more : (i : ℕ) (row : Offered) → i < length rows → row ≡ get_or rows i row → AreShelved old mid rank (take i rows)
      → ShelvesChange mid new row.op row.number rank (places_at mid row.op row.number rank ++ i ∷ []) → AreShelved old new rank (take (i + 1) rows)
  shelved-more i row within is so_far change =
      let size : length (take i rows) ≡ i = length-take-le i rows (omega arith) in
      let change' = subst (λ k. ShelvesChange mid new row.op row.number rank (places_at mid row.op row.number rank ++ k ∷ [])) (sym size) change in
      subst (AreShelved old new rank) (sym (take_more rows i row within ∙ ap (λ x. take i rows ++ x ∷ []) (sym is))) (shelved-row old mid new rank (take i rows) row so_far change')

  -- where the rows stop being shelved, others than theirs stand where they stood
  pub others-part : (i : ℕ) → IsClear old rank → AreShelved old mid rank (take i rows) → AreSame mid new → KeepsOthers old new rank rows
  others-part i clear so_far same = record { at = λ o n r none. same.at o n r ∙ so_far.at o n r ∙ by o n r (nat_eq rank r) refl none }
    where
      by : (o : Operation) (n r : ℕ) (b : Bool) → nat_eq rank r ≡ b → (b && list_any (is_under o n) rows) ≡ false → cond b (positions (is_under o n) (take i rows)) (places_at old o n r) ≡ places_at old o n r
      by o n r false h none = refl
      by o n r true h none =
          let at : rank ≡ r = eqb-true rank r h in
          let split = take-append-drop i rows in
          let part : list_any (is_under o n) (take i rows) ≡ false = any-append_false (is_under o n) (take i rows) (drop i rows) (ap (list_any (is_under o n)) split ∙ none) in
          positions-none (is_under o n) (take i rows) part ∙ sym (subst (λ k. places_at old o n k ≡ []) at (clear.at o n))

  -- shelved rows keep others where they stood
  pub others-whole : IsClear old rank → AreShelved old new rank rows → KeepsOthers old new rank rows
  others-whole clear so_far = record { at = λ o n r none. so_far.at o n r ∙ by o n r (nat_eq rank r) refl none }
    where
      by : (o : Operation) (n r : ℕ) (b : Bool) → nat_eq rank r ≡ b → (b && list_any (is_under o n) rows) ≡ false → cond b (positions (is_under o n) rows) (places_at old o n r) ≡ places_at old o n r
      by o n r false h none = refl
      by o n r true h none =
          let at : rank ≡ r = eqb-true rank r h in
          positions-none (is_under o n) rows none ∙ sym (subst (λ k. places_at old o n k ≡ []) at (clear.at o n))

  -- taken off again, they leave the shelves as they were
  pub same-again : IsClear old rank → KeepsOthers old mid rank rows → AreGone mid new rank rows → AreSame old new
  same-again clear others gone = record { at = λ o n r. gone.at o n r ∙ by o n r (nat_eq rank r) (list_any (is_under o n) rows) refl refl }
    where
      by : (o : Operation) (n r : ℕ) (b any : Bool) → nat_eq rank r ≡ b → list_any (is_under o n) rows ≡ any → cond (b && any) [] (places_at mid o n r) ≡ places_at old o n r
      by o n r true true h a = let at : rank ≡ r = eqb-true rank r h in sym (subst (λ k. places_at old o n k ≡ []) at (clear.at o n))
      by o n r true false h a = others.at o n r (rw (h, a) refl)
      by o n r false true h a = others.at o n r (rw (h) refl)
      by o n r false false h a = others.at o n r (rw (h) refl)
