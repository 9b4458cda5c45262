-- Lists of instance numbers after a push, and without one number.
use Rattle.std.proofs.Common.{◌≡◌, ◌≤◌, ℕ, ◌+◌, true, false, ◌||◌, nat_eq, List, [], ◌∷◌, ◌++◌, length, refl, arith}
use Rattle.std.proofs.lemmas.Grind.{common_steps}
use Rattle.ossl_provider.specs.Members.{is_in, without, is_distinct}

-- membership after a push
pub is_in-push : (i : ℕ) (xs : List ℕ) (y : ℕ) → is_in i (xs ++ y ∷ []) ≡ is_in i xs || nat_eq y i
is_in-push i [] y = grind (arith, common_steps)
is_in-push i (x ∷ xs) y = grind (arith, common_steps, is_in-push i xs y)

-- a new number keeps the numbers distinct
pub is_distinct-push : (xs : List ℕ) (y : ℕ) → is_distinct xs ≡ true → is_in y xs ≡ false → is_distinct (xs ++ y ∷ []) ≡ true
is_distinct-push [] y d n = refl
is_distinct-push (x ∷ xs) y d n = grind (arith, common_steps, is_in-push x xs y, is_distinct-push xs y)

-- what was not there is not there without another
pub is_in-without : (i j : ℕ) (xs : List ℕ) → is_in j xs ≡ false → is_in j (without i xs) ≡ false
is_in-without i j [] n = refl
is_in-without i j (x ∷ xs) n = grind (arith, common_steps, is_in-without i j xs)

-- without a number the others stay distinct
pub is_distinct-without : (i : ℕ) (xs : List ℕ) → is_distinct xs ≡ true → is_distinct (without i xs) ≡ true
is_distinct-without i [] d = refl
is_distinct-without i (x ∷ xs) d = grind (arith, common_steps, is_in-without i x xs, is_distinct-without i xs)

-- a number that is not there leaves the list as it is
pub without-absent : (i : ℕ) (xs : List ℕ) → is_in i xs ≡ false → without i xs ≡ xs
without-absent i [] n = refl
without-absent i (x ∷ xs) n = grind (arith, common_steps, without-absent i xs)

-- without a number that is there, there is one less
pub length-without : (i : ℕ) (xs : List ℕ) → is_distinct xs ≡ true → is_in i xs ≡ true → length (without i xs) + 1 ≡ length xs
length-without i [] d n = cc
length-without i (x ∷ xs) d n = grind (arith, common_steps, without-absent i xs, length-without i xs)

-- without a number there are no more
pub length-without-le : (i : ℕ) (xs : List ℕ) → length (without i xs) ≤ length xs
length-without-le i [] = omega arith
length-without-le i (x ∷ xs) = grind (arith, common_steps, length-without-le i xs)
