-- What 64 places show, in the order in which they were used.
use Rattle.std.specs.Prelude.{◌≡◌, ℕ, ◌-◌, Bool, true, false, not, ◌&&◌, nat_eq, nat_lt, List, [], ◌∷◌, length, map}
use Rattle.std.specs.Prelude.{find, Option, Some, None, is_some, unwrap_or, option_map, if◌then◌else◌, slice_index_or}
use Rattle.std.specs.Prelude.{slice_get}
use Rattle.std.specs.List.{list_any}
use Rattle.ossl_cache.specs.declared.key.Key.{Key}
use Rattle.ossl_cache.specs.declared.places.Going.{Going}
use Rattle.ossl_cache.specs.declared.places.Going.TheVariants.{All, Key as OfKey, Asked, Answered}
use Rattle.ossl_cache.specs.Recent.{Answer, most, same_key, is_asked, is_answered}

-- the places, the last used first
abbrev pub Order : Type 0
Order = List (ℕ × Unit {0})

-- what a place holds
abbrev pub held_at : List (Option Answer) → ℕ → Option Answer
held_at slots place = slice_index_or slots place None

-- an empty place shows nothing
abbrev pub and_shown : Option Answer → List Answer → List Answer
and_shown None answers = answers
and_shown (Some a) answers = a ∷ answers

-- what the places show, in this order
abbrev pub shown : List (Option Answer) → Order → List Answer
shown slots [] = []
shown slots (e ∷ es) = and_shown (held_at slots e.0) (shown slots es)

-- the numbers are places, each once
abbrev pub are_places : Order → Bool
are_places [] = true
are_places (e ∷ es) = nat_lt e.0 most && not (list_any (λ other. nat_eq e.0 other.0) es) && are_places es

-- the answer is among those that go
abbrev pub goes : Going → Answer → Bool
goes All a = true
goes (OfKey held) a = same_key held.now.0 a.0
goes (Asked op number) a = is_asked op number a
goes (Answered instance) a = is_answered instance a

-- a place without an answer that passes the test
abbrev pub emptied : (Answer → Bool) → Option Answer → Option Answer
emptied test None = None
emptied test (Some a) = if test a then None else Some a

-- what a place holds is an answer whose key passes the test
abbrev pub holds_in : (Key → Bool) → Option Answer → Bool
holds_in test None = false
holds_in test (Some a) = test a.0

-- the place holds an answer whose key passes the test
abbrev pub holds_at : (Key → Bool) → List (Option Answer) → ℕ → Bool
holds_at test slots place = holds_in test (held_at slots place)

-- no two places hold the same key
abbrev pub AreApart : List (Option Answer) → Type 0
AreApart slots = (key : Key) (i j : ℕ)
    → holds_at (same_key key) slots i ≡ true → holds_at (same_key key) slots j ≡ true → i ≡ j

-- 64 places, each key in one of them at most, and an order of all of them
pub record IsPlaced (slots : List (Option Answer)) (order : Order) : Type 0 where
  pub room : length slots ≡ most
  pub all : length order ≡ most
  pub once : are_places order ≡ true
  pub apart : AreApart slots

-- the place holds nothing
abbrev pub is_free : List (Option Answer) → ℕ → Bool
is_free slots place = not (is_some (held_at slots place))

-- the place used longest ago
abbrev pub last_place : Order → ℕ
last_place order = unwrap_or (option_map (λ e. e.0) (slice_get order (length order - 1))) 0

-- the place for a new answer: the first that holds nothing, or else the one used longest ago
abbrev pub next_place : List (Option Answer) → Order → ℕ
next_place slots order = unwrap_or (find (is_free slots) (map (λ e. e.0) order)) (last_place order)
