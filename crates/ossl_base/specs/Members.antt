-- Lists in which numbers or names are looked for.
use Rattle.std.specs.Prelude.{ℕ, Bool, true, List, [], ◌∷◌, ◌&&◌, nat_eq, not}
use Rattle.std.specs.List.{list_any}

-- i is among the numbers
abbrev pub is_in : ℕ → List ℕ → Bool
is_in i xs = list_any (λ x. nat_eq x i) xs

-- no item is equal to one after it
abbrev pub is_distinct_by : {X : Type 0} → (X → X → Bool) → List X → Bool
is_distinct_by eq [] = true
is_distinct_by eq (x ∷ xs) = not (list_any (λ y. eq y x) xs) && is_distinct_by eq xs
