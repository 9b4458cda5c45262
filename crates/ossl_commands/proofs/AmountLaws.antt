-- Amounts as numbers of 64 bits, and limits.
use Rattle.std.proofs.Common.{◌≡◌, ℕ, ◌+◌, ◌-◌, ◌^◌, max, min, Bool, true, false, nat_lt, List, [], ◌∷◌, ◌++◌, map, refl, sym, ap, ◌∙◌, arith}
use Rattle.std.specs.Prelude.{fold, if◌then◌else◌, Option, Some, None, is_some}
use Rattle.ossl_commands.specs.declared.command.Line.{Line}
use Rattle.ossl_commands.specs.declared.limit.Limit.{Limit}
use Rattle.ossl_commands.specs.declared.limit.Limit.TheVariants as limits
use Rattle.ossl_commands.specs.Fits.{amounts, capped, first_passed, passed_limit}
use Rattle.ossl_commands.specs.Limit.{most_of}

-- one amount more of a sum
pub capped_more : (total amount rest : ℕ) → capped (min (total + amount) (2 ^ 64 - 1) + rest) ≡ capped (total + (amount + rest))
capped_more total amount rest = omega arith

pub capped_capped : (total amount rest : ℕ) → capped (min (total + capped amount) (2 ^ 64 - 1) + rest) ≡ capped (total + (amount + rest))
capped_capped total amount rest = omega arith

-- the greatest of a list is at least the first
fold_max : (a : ℕ) (xs : List ℕ) → fold max a xs ≡ max a (fold max 0 xs)
fold_max a [] = omega arith
fold_max a (x ∷ xs) =
    let one = fold_max (max a x) xs in
    let other = fold_max (max 0 x) xs in
    omega (arith, one, other)

-- one amount more of those of which the greatest is sought
pub capped_greatest : (most amount : ℕ) (xs : List ℕ) → capped (fold max (max most (capped amount)) xs) ≡ capped (fold max (max most amount) xs)
capped_greatest most amount xs =
    let one = fold_max (max most (capped amount)) xs in
    let other = fold_max (max most amount) xs in
    omega (arith, one, other)

-- the greatest of two lists
pub greatest_more : (most : ℕ) (xs ys : List ℕ) → fold max (max most (fold max 0 xs)) ys ≡ fold max (fold max most xs) ys
greatest_more most xs ys = ap (λ n. fold max n ys) (sym (fold_max most xs))

-- what comes of limits that are looked at one after the other
abbrev or_else : Option Limit → Option Limit → Option Limit
or_else None later = later
or_else (Some limit) later = Some limit

passed-append : (xs ys : List (ℕ × Limit)) → first_passed (xs ++ ys) ≡ or_else (first_passed xs) (first_passed ys)
passed-append [] ys = refl
passed-append (x ∷ xs) ys = at (nat_lt (most_of x.1) x.0) (passed-append xs ys)
  where
    at : (b : Bool) → first_passed (xs ++ ys) ≡ or_else (first_passed xs) (first_passed ys)
        → (if b then Some x.1 else first_passed (xs ++ ys)) ≡ or_else (if b then Some x.1 else first_passed xs) (first_passed ys)
    at true behind = refl
    at false behind = behind

none_of : (o : Option Limit) → is_some o ≡ false → o ≡ None
none_of None lacks = refl
none_of (Some l) lacks = cc

abbrev files : List ℕ → List (ℕ × Limit)
files lengths = map (λ size. (size, limits.File)) lengths

-- the only limit of a file
file_of : (lengths : List ℕ) → is_some (first_passed (files lengths)) ≡ true → first_passed (files lengths) ≡ Some limits.File
file_of [] has = cc
file_of (size ∷ lengths) has = at (nat_lt (most_of limits.File) size) has (file_of lengths)
  where
    at : (b : Bool) → is_some (if b then Some limits.File else first_passed (files lengths)) ≡ true → (is_some (first_passed (files lengths)) ≡ true → first_passed (files lengths) ≡ Some limits.File)
        → (if b then Some limits.File else first_passed (files lengths)) ≡ Some limits.File
    at true has later = refl
    at false has later = later has

-- a file is too long, and the text alone passes no limit
pub file_passed : (all : ℕ) (lines : List Line) (lengths : List ℕ) → is_some (first_passed (amounts all lines [])) ≡ false → is_some (first_passed (files lengths)) ≡ true
    → passed_limit all lines lengths ≡ Some limits.File
file_passed all lines lengths by_text by_file =
    let text = amounts all lines [] in
    let whole = amounts all lines lengths in
    passed-append (text ++ files lengths) whole
    ∙ ap (λ o. or_else o (first_passed whole)) (passed-append text (files lengths) ∙ ap (λ o. or_else o (first_passed (files lengths))) (none_of _ by_text) ∙ file_of lengths by_file)

-- no limit is passed before the whole
pub whole_passed : (all : ℕ) (lines : List Line) (lengths : List ℕ) → is_some (first_passed (amounts all lines [])) ≡ false → is_some (first_passed (files lengths)) ≡ false
    → passed_limit all lines lengths ≡ first_passed (amounts all lines lengths)
whole_passed all lines lengths by_text by_file =
    let text = amounts all lines [] in
    let whole = amounts all lines lengths in
    passed-append (text ++ files lengths) whole
    ∙ ap (λ o. or_else o (first_passed whole)) (passed-append text (files lengths) ∙ ap (λ o. or_else o (first_passed (files lengths))) (none_of _ by_text) ∙ none_of _ by_file)
