-- The places of rows that pass a test, and the rows at these places.
use Rattle.std.proofs.Common.{◌≡◌, ◌∙◌, ◌+◌, ℕ, suc, refl, sym, ap, ap₂, Bool, true, false, ◌||◌, List, [], ◌∷◌, ◌++◌, length, filter, Option, Some, None, cond, arith, slice_get, append_assoc, append-nil}
use Rattle.std.specs.List.{list_any, filter_map, cons_option}
use Rattle.ossl_store.specs.declared.offered.Offered.{Offered}
use Rattle.ossl_store.specs.Shelves.{positions_from, positions}
use Rattle.ossl_store.specs.Choice.{picked}

pub or_false : (a b : Bool) → (a || b) ≡ false → (a ≡ false) × (b ≡ false)
or_false true b e = cc
or_false false true e = cc
or_false false false e = (refl, refl)

module _ (test : Offered → Bool) where
  -- one more row at the end
  positions_from-snoc : (k : ℕ) (rows : List Offered) (row : Offered) → positions_from test k (rows ++ row ∷ []) ≡ positions_from test k rows ++ cond (test row) ((k + length rows) ∷ []) []
  positions_from-snoc k [] row = let zero_more : k + 0 ≡ k = omega arith in rw (zero_more) (last (test row))
    where
      last : (b : Bool) → cond b (k ∷ []) [] ≡ cond b (k ∷ []) []
      last b = refl
  positions_from-snoc k (first ∷ rows) row =
      let moved : k + suc (length rows) ≡ k + 1 + length rows = omega arith in
      let rest = positions_from-snoc (k + 1) rows row in
      rw (moved) ((elim (test first) as (λ b. cond b (k ∷ positions_from test (k + 1) (rows ++ row ∷ [])) (positions_from test (k + 1) (rows ++ row ∷ [])) ≡ cond b (k ∷ positions_from test (k + 1) rows) (positions_from test (k + 1) rows) ++ cond (test row) ((k + 1 + length rows) ∷ []) []) [
        | true ↦ ap (λ ps. k ∷ ps) rest
        | false ↦ rest
      ]))

  pub positions-snoc : (rows : List Offered) (row : Offered) → positions test (rows ++ row ∷ []) ≡ positions test rows ++ cond (test row) (length rows ∷ []) []
  positions-snoc rows row = let start : 0 + length rows ≡ length rows = omega arith in positions_from-snoc 0 rows row ∙ ap (λ n. positions test rows ++ cond (test row) (n ∷ []) []) start

  -- rows of which none passes
  positions_from-none : (k : ℕ) (rows : List Offered) → list_any test rows ≡ false → positions_from test k rows ≡ []
  positions_from-none k [] h = refl
  positions_from-none k (row ∷ rows) h = let p = or_false (test row) (list_any test rows) h in rw (p.0) (positions_from-none (k + 1) rows p.1)

  pub positions-none : (rows : List Offered) → list_any test rows ≡ false → positions test rows ≡ []
  positions-none rows h = positions_from-none 0 rows h

  pub any-snoc : (rows : List Offered) (row : Offered) → list_any test (rows ++ row ∷ []) ≡ (list_any test rows || test row)
  any-snoc [] row = last (test row)
    where
      last : (b : Bool) → (b || false) ≡ b
      last true = refl
      last false = refl
  any-snoc (first ∷ rows) row = ap (λ b. test first || b) (any-snoc rows row) ∙ grouped (test first)
    where
      grouped : (b : Bool) → (b || (list_any test rows || test row)) ≡ (b || list_any test rows || test row)
      grouped true = refl
      grouped false = refl

  -- a part of rows of which none passes
  pub any-append_false : (xs ys : List Offered) → list_any test (xs ++ ys) ≡ false → list_any test xs ≡ false
  any-append_false [] ys h = refl
  any-append_false (x ∷ xs) ys h = let p = or_false (test x) (list_any test (xs ++ ys)) h in rw (p.0) (any-append_false xs ys p.1)

  -- the rows at the places of those that pass are these
  slice_get-past : (front : List Offered) (row : Offered) (rows : List Offered) → slice_get (front ++ row ∷ rows) (length front) ≡ Some row
  slice_get-past [] row rows = refl
  slice_get-past (first ∷ front) row rows = slice_get-past front row rows

  picked-from : (front rows : List Offered) → picked (front ++ rows) (positions_from test (length front) rows) ≡ filter test rows
  picked-from front [] = refl
  picked-from front (row ∷ rows) =
      let joined : (front ++ row ∷ []) ++ rows ≡ front ++ row ∷ rows = append_assoc front (row ∷ []) rows in
      let longer : length (front ++ row ∷ []) ≡ length front + 1 = omega (arith, length-snoc front) in
      let rest : picked (front ++ row ∷ rows) (positions_from test (length front + 1) rows) ≡ filter test rows = ap₂ (λ all k. picked all (positions_from test k rows)) (sym joined) (sym longer) ∙ picked-from (front ++ row ∷ []) rows in
      (elim (test row) as (λ b. picked (front ++ row ∷ rows) (cond b (length front ∷ positions_from test (length front + 1) rows) (positions_from test (length front + 1) rows)) ≡ cond b (row ∷ filter test rows) (filter test rows)) [
        | true ↦ rw (slice_get-past front row rows) (ap (λ rs. row ∷ rs) rest)
        | false ↦ rest
      ])
    where
      length-snoc : (xs : List Offered) → length (xs ++ row ∷ []) ≡ length xs + 1
      length-snoc [] = refl
      length-snoc (x ∷ xs) = let h = length-snoc xs in omega arith

  pub picked-positions : (rows : List Offered) → picked rows (positions test rows) ≡ filter test rows
  picked-positions rows = picked-from [] rows
