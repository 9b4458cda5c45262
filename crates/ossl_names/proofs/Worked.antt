-- Worked rows of names, by computation.
use Rattle.std.proofs.Common.{◌≡◌, [], ◌∷◌, Some, Ok, Err, refl}
use Rattle.ossl_names.specs.declared.refusal.AddRefused.TheVariants.{BadName, Conflict}
use Rattle.ossl_names.specs.Groups.{Groups, number_of, with_names}
use Rattle.ossl_names.specs.Addition.{number_for, addition, groups_after}

-- one group of `a` and `b`, and one of `c`
abbrev two : Groups
two = ((97 ∷ []) ∷ (98 ∷ []) ∷ []) ∷ ((99 ∷ []) ∷ []) ∷ []

-- `A:B` is the first group
first : (addition [] (65 ∷ 58 ∷ 66 ∷ []) ≡ Ok 1) × (groups_after [] (65 ∷ 58 ∷ 66 ∷ []) ≡ ((97 ∷ []) ∷ (98 ∷ []) ∷ []) ∷ [])
unfolding number_of number_for with_names
first = (refl, refl)

-- `C` is the second
second : (addition (((97 ∷ []) ∷ (98 ∷ []) ∷ []) ∷ []) (67 ∷ []) ≡ Ok 2) × (groups_after (((97 ∷ []) ∷ (98 ∷ []) ∷ []) ∷ []) (67 ∷ []) ≡ two)
unfolding number_of number_for with_names
second = (refl, refl)

-- `B:C` names two groups, and changes none; `b` keeps its number
conflict : (addition two (66 ∷ 58 ∷ 67 ∷ []) ≡ Err (Conflict 1 2)) × (groups_after two (66 ∷ 58 ∷ 67 ∷ []) ≡ two) × (number_of two (98 ∷ []) ≡ Some 1)
unfolding number_of number_for with_names
conflict = (refl, refl, refl)

-- `D:c:d` joins the second group, its new name once
joining : (addition two (68 ∷ 58 ∷ 99 ∷ 58 ∷ 100 ∷ []) ≡ Ok 2) × (groups_after two (68 ∷ 58 ∷ 99 ∷ 58 ∷ 100 ∷ []) ≡ ((97 ∷ []) ∷ (98 ∷ []) ∷ []) ∷ ((99 ∷ []) ∷ (100 ∷ []) ∷ []) ∷ [])
unfolding number_of number_for with_names
joining = (refl, refl)

-- the empty text is one empty name, and `a:` ends in one
empty_names : (addition two [] ≡ Err BadName) × (addition two (97 ∷ 58 ∷ []) ≡ Err BadName)
unfolding number_of number_for with_names
empty_names = (refl, refl)
