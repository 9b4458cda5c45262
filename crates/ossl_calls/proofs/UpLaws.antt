-- The instances that are up, one instance after another.
use Rattle.std.proofs.Common.{◌≡◌, ℕ, ◌+◌, ◌<◌, Bool, true, false, not, nat_eq, List, [], ◌∷◌, ◌++◌, length, map, take, drop, get_or, refl, sym, ◌∙◌, ap, arith, suc, add-one, drop-cons, append_assoc, inl, inr}
use Rattle.std.proofs.Math.ListN.{set}
use Rattle.std.specs.List.{list_all, filter}
use Rattle.std.proofs.lemmas.Grind.{common_steps}
use Rattle.std.proofs.lemmas.List.{get_or-set_same, get_or-set_other, take-append-drop, take_more, map-append, append-nil, length-map}
use Rattle.std.proofs.lemmas.List.Elements.{filter-append}
use Rattle.std.proofs.lemmas.List.Folds.{list_any-append, list_all_at}
use Rattle.std.proofs.lemmas.Bool.{cases_Bool, and_parts, eq-eqb, ne_eqb, cases_eq, true_from_ne_false, true≢false}
use Rattle.ossl_provider.specs.Members.{is_in, without, is_distinct}
use Rattle.ossl_provider.specs.Sheet.{Sheet, after_stop}
use Rattle.ossl_provider.proofs.MembersLaws.{without-absent}
use Rattle.ossl_state.specs.declared.state.Born.{Born}
use Rattle.ossl_state.specs.Boxes.{sheet_of, no_sheet, with_up}
use Rattle.ossl_state.specs.Sound.{number_of_born}
use Rattle.ossl_state.specs.State.{is_of_box}

-- the numbers of a box's instances that pass a test, in order
abbrev pub numbers_at : (Born → Bool) → ℕ → List Born → List ℕ
numbers_at alive k born = map number_of_born (filter (is_of_box k) (filter alive born))

numbers_at-append : (alive : Born → Bool) (k : ℕ) (xs ys : List Born) → numbers_at alive k (xs ++ ys) ≡ numbers_at alive k xs ++ numbers_at alive k ys
numbers_at-append alive k xs ys =
    rw (filter-append alive xs ys, filter-append (is_of_box k) (filter alive xs) (filter alive ys)) (map-append number_of_born (filter (is_of_box k) (filter alive xs)) (filter (is_of_box k) (filter alive ys)))

-- a number that is none of these is none of the ones that pass
pub is_in-numbers_at : (alive : Born → Bool) (k n : ℕ) (xs : List Born) → is_in n (map number_of_born xs) ≡ false → is_in n (numbers_at alive k xs) ≡ false
is_in-numbers_at alive k n [] h = refl
is_in-numbers_at alive k n (x ∷ xs) h = grind (arith, common_steps, is_in-numbers_at alive k n xs)

without-middle : (n : ℕ) (xs ys : List ℕ) → is_in n xs ≡ false → is_in n ys ≡ false → without n (xs ++ n ∷ ys) ≡ xs ++ ys
without-middle n [] ys h g = grind (arith, common_steps, without-absent n ys)
without-middle n (x ∷ xs) ys h g = grind (arith, common_steps, without-middle n xs ys)

is_in-middle : (n : ℕ) (xs ys : List ℕ) → is_in n (xs ++ n ∷ ys) ≡ true
is_in-middle n [] ys = grind (arith, common_steps)
is_in-middle n (x ∷ xs) ys = grind (arith, common_steps, is_in-middle n xs ys)

-- a number of distinct ones is neither before nor after its place
distinct-middle : (n : ℕ) (xs ys : List ℕ) → is_distinct (xs ++ n ∷ ys) ≡ true → (is_in n xs ≡ false) × (is_in n ys ≡ false)
distinct-middle n [] ys d = (refl, grind (arith, common_steps))
distinct-middle n (x ∷ xs) ys d =
    let parts = and_parts (not (is_in x (xs ++ n ∷ ys))) (is_distinct (xs ++ n ∷ ys)) d in
    let others = distinct-middle n xs ys parts.1 in
    let split = list_any-append (λ y. nat_eq y x) xs (n ∷ ys) in
    let differs : nat_eq x n ≡ false = grind (arith, common_steps) in
    (rw differs others.0, others.1)

apart : (front rest : List Born) (b : Born) → is_distinct (map number_of_born (front ++ b ∷ rest)) ≡ true → (is_in b.number (map number_of_born front) ≡ false) × (is_in b.number (map number_of_born rest) ≡ false)
apart front rest b d = distinct-middle b.number (map number_of_born front) (map number_of_born rest) (rw (map-append number_of_born front (b ∷ rest)) at d)

-- one instance more that has been looked at
module _ (alive stays : Born → Bool) (k : ℕ) (front rest : List Born) (b : Born) where
  -- it is passed over as it was
  step-same : numbers_at alive k (b ∷ []) ≡ numbers_at stays k (b ∷ []) → numbers_at stays k front ++ numbers_at alive k (b ∷ rest) ≡ numbers_at stays k (front ++ b ∷ []) ++ numbers_at alive k rest
  step-same same =
      ap (λ ns. numbers_at stays k front ++ ns) (numbers_at-append alive k (b ∷ []) rest ∙ ap (λ ns. ns ++ numbers_at alive k rest) same)
      ∙ sym (append_assoc (numbers_at stays k front) (numbers_at stays k (b ∷ [])) (numbers_at alive k rest))
      ∙ ap (λ ns. ns ++ numbers_at alive k rest) (sym (numbers_at-append stays k front (b ∷ [])))

  numbers_at-kept : alive b ≡ stays b → numbers_at stays k front ++ numbers_at alive k (b ∷ rest) ≡ numbers_at stays k (front ++ b ∷ []) ++ numbers_at alive k rest
  numbers_at-kept same = step-same (rw same refl)

  -- it is another box's
  numbers_at-elsewhere : nat_eq b.place k ≡ false → numbers_at stays k front ++ numbers_at alive k (b ∷ rest) ≡ numbers_at stays k (front ++ b ∷ []) ++ numbers_at alive k rest
  numbers_at-elsewhere other = step-same (none alive ∙ sym (none stays))
    where
      none : (p : Born → Bool) → numbers_at p k (b ∷ []) ≡ []
      none p = elim (cases_Bool (p b)) [
        | inl passes ↦ rw (passes, other) refl
        | inr fails ↦ rw fails refl
      ]

  -- it goes
  numbers_at-gone : nat_eq b.place k ≡ true → alive b ≡ true → stays b ≡ false → is_distinct (map number_of_born (front ++ b ∷ rest)) ≡ true →
      without b.number (numbers_at stays k front ++ numbers_at alive k (b ∷ rest)) ≡ numbers_at stays k (front ++ b ∷ []) ++ numbers_at alive k rest
  numbers_at-gone here was goes d =
      let parts = apart front rest b d in
      let middle = without-middle b.number (numbers_at stays k front) (numbers_at alive k rest) (is_in-numbers_at stays k b.number front parts.0) (is_in-numbers_at alive k b.number rest parts.1) in
      let mine : numbers_at alive k (b ∷ rest) ≡ b.number ∷ numbers_at alive k rest = rw (was, here) refl in
      let not_mine : numbers_at stays k (b ∷ []) ≡ [] = rw goes refl in
      let front_is : numbers_at stays k (front ++ b ∷ []) ≡ numbers_at stays k front = numbers_at-append stays k front (b ∷ []) ∙ ap (λ ns. numbers_at stays k front ++ ns) not_mine ∙ append-nil (numbers_at stays k front) in
      ap (λ ns. without b.number (numbers_at stays k front ++ ns)) mine ∙ middle ∙ ap (λ ns. ns ++ numbers_at alive k rest) (sym front_is)

pub list_all-get_or : {X : Type 0} (p : X → Bool) (xs : List X) (i : ℕ) (d : X) → list_all p xs ≡ true → i < length xs → p (get_or xs i d) ≡ true
list_all-get_or p xs i d all within = true_from_ne_false (p (get_or xs i d)) (λ fails. true≢false (sym all ∙ list_all_at p xs i d within fails))

pub same_length : {X Y : Type 0} (f : X → Y) (xs ys : List X) → map f xs ≡ map f ys → length xs ≡ length ys
same_length f xs ys e = simp length-map at (ap length e)

-- the sheets once the instances before index i that go were stopped
abbrev pub ArePartly : (Born → Bool) → (Born → Bool) → List Born → List Sheet → List Sheet → ℕ → Type 0
ArePartly alive stays born first sheets i =
    (k : ℕ) → k < length first → sheet_of sheets k ≡ with_up (sheet_of first k) (numbers_at stays k (take i born) ++ numbers_at alive k (drop i born))

module _ (alive stays : Born → Bool) (born : List Born) (first : List Sheet) (i : ℕ) (b : Born) (within : i < length born) (here : b ≡ get_or born i b) (d : is_distinct (map number_of_born born) ≡ true) where
  split : drop i born ≡ b ∷ drop (i + 1) born
  split = rw (add-one, drop-cons born i b) (ap (λ x. x ∷ drop (suc i) born) (sym here))

  taken : take (i + 1) born ≡ take i born ++ b ∷ []
  taken = take_more born i b within ∙ ap (λ x. take i born ++ x ∷ []) (sym here)

  whole : take i born ++ b ∷ drop (i + 1) born ≡ born
  whole = ap (λ l. take i born ++ l) (sym split) ∙ take-append-drop i born

  -- an instance that stays as it was
  pub partly-kept : (sheets : List Sheet) → alive b ≡ stays b → ArePartly alive stays born first sheets i → ArePartly alive stays born first sheets (i + 1)
  partly-kept sheets same so_far k below =
      so_far k below ∙ ap (λ up. with_up (sheet_of first k) up) (rw (split, taken) (numbers_at-kept alive stays k (take i born) (drop (i + 1) born) b same))

  -- an instance that goes was up
  pub partly-up : (sheets : List Sheet) → b.place < length first → alive b ≡ true → ArePartly alive stays born first sheets i → is_in b.number (sheet_of sheets b.place).up ≡ true
  partly-up sheets place was so_far =
      ap (λ (s : Sheet). is_in b.number s.up) (so_far b.place place)
      ∙ rw split (ap (λ ns. is_in b.number (numbers_at stays b.place (take i born) ++ ns)) mine ∙ is_in-middle b.number (numbers_at stays b.place (take i born)) (numbers_at alive b.place (drop (i + 1) born)))
    where
      mine : numbers_at alive b.place (b ∷ drop (i + 1) born) ≡ b.number ∷ numbers_at alive b.place (drop (i + 1) born)
      mine = rw (was, eq-eqb b.place b.place refl) refl

  gone_here : (sheets sheets' : List Sheet) → length sheets ≡ length first → b.place < length first → alive b ≡ true → stays b ≡ false →
      sheets' ≡ set sheets b.place (after_stop (sheet_of sheets b.place) b.number) →
      ArePartly alive stays born first sheets i →
      sheet_of sheets' b.place ≡ with_up (sheet_of first b.place) (numbers_at stays b.place (take (i + 1) born) ++ numbers_at alive b.place (drop (i + 1) born))
  gone_here sheets sheets' same place was goes changed so_far =
      ap (λ l. sheet_of l b.place) changed
      ∙ get_or-set_same sheets b.place (after_stop (sheet_of sheets b.place) b.number) no_sheet (omega arith)
      ∙ ap (λ s. after_stop s b.number) (so_far b.place place)
      ∙ ap (λ up. with_up (sheet_of first b.place) up) (rw (split, taken) (numbers_at-gone alive stays b.place (take i born) (drop (i + 1) born) b (eq-eqb b.place b.place refl) was goes (rw whole d)))

  gone_elsewhere : (sheets sheets' : List Sheet) (k : ℕ) → (k ≡ b.place → ⊥) → k < length first →
      sheets' ≡ set sheets b.place (after_stop (sheet_of sheets b.place) b.number) →
      ArePartly alive stays born first sheets i →
      sheet_of sheets' k ≡ with_up (sheet_of first k) (numbers_at stays k (take (i + 1) born) ++ numbers_at alive k (drop (i + 1) born))
  gone_elsewhere sheets sheets' k other below changed so_far =
      ap (λ l. sheet_of l k) changed
      ∙ get_or-set_other sheets b.place k (after_stop (sheet_of sheets b.place) b.number) no_sheet other
      ∙ so_far k below
      ∙ ap (λ up. with_up (sheet_of first k) up) (rw (split, taken) (numbers_at-elsewhere alive stays k (take i born) (drop (i + 1) born) b (ne_eqb b.place k (λ q. other (sym q)))))

  -- an instance that goes
  pub partly-gone : (sheets sheets' : List Sheet) → length sheets ≡ length first → b.place < length first → alive b ≡ true → stays b ≡ false →
      sheets' ≡ set sheets b.place (after_stop (sheet_of sheets b.place) b.number) →
      ArePartly alive stays born first sheets i → ArePartly alive stays born first sheets' (i + 1)
  partly-gone sheets sheets' same place was goes changed so_far k below =
      elim (cases_eq k b.place) [
        | inl e ↦ rw e (gone_here sheets sheets' same place was goes changed so_far)
        | inr other ↦ gone_elsewhere sheets sheets' k other below changed so_far
      ]
