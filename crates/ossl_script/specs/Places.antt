-- The places of a caller's tokens, the least number first.
use Rattle.std.specs.Prelude.{◌≡◌, if◌then◌else◌, Option, Some, None, List, [], ◌∷◌, ◌++◌}
use Rattle.std.specs.List.Sorted.{IsNonDecreasingBy}
use Rattle.ossl_script.specs.declared.held.Held.{Held}
use Rattle.ossl_script.specs.declared.tokens.Place.{Place}

-- the token of a place, if it is still held
abbrev pub kept_at : Place → List Held
kept_at place = if place.kept then place.token ∷ [] else []

-- the tokens that are held, the greatest number first
abbrev pub held_in : List Place → List Held
held_in [] = []
held_in (place ∷ places) = held_in places ++ kept_at place

-- the numbers do not fall
abbrev pub Ascends : List Place → Type 0
Ascends places = IsNonDecreasingBy (λ (place : Place). place.token.number) places

-- the first of these is taken, if there is one
abbrev pub Takes : List Held → Option Held → List Held → Type 0
Takes old (Some token) new = old ≡ token ∷ new
Takes old None new = (old ≡ []) × (new ≡ [])
