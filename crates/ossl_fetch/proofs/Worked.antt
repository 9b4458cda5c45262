-- A worked row, by computation: 67 fetches of one name, under `?a01` to `?a65`, `?a01` and `?a65`.
use Rattle.std.proofs.Common.{◌≡◌, ℕ, ◌+◌, ◌/◌, ◌%◌, zero, suc, refl, true, false, List, [], ◌∷◌, ◌++◌}
use Rattle.ossl_codes.specs.declared.code.Code.TheVariants.{Md5}
use Rattle.ossl_codes.specs.declared.code.Operation.TheVariants.{Digest}
use Rattle.ossl_names.specs.Addition.{number_for}
use Rattle.ossl_names.specs.Groups.{number_of, with_names}
use Rattle.ossl_property.specs.declared.clause.Clause.{Clause}
use Rattle.ossl_property.specs.declared.clause.Relation.TheVariants.{Equal}
use Rattle.ossl_property.specs.declared.clause.Value.TheVariants.{Text}
use Rattle.ossl_property.specs.Reading.{list_at}
use Rattle.ossl_property.specs.Said.{definition_said}
use Rattle.ossl_provider.specs.Sheet.{Facts}
use Rattle.ossl_state.specs.declared.call.Call.TheVariants.{Load, Unload, SetDefault, Fetch, CloseLib}
use Rattle.ossl_state.specs.declared.call.Reply.TheVariants.{Loaded, Fetched, Unsupported, Done}
use Rattle.ossl_state.specs.History.{Fixed}
use Rattle.ossl_cache.specs.declared.key.Key.{Key}
use Rattle.ossl_fetch.specs.Recent.{Event, recent_keys, is_hit, marks}

-- the provider `default`, with one row of the name `MD5`
abbrev box : Facts
box = record { name = 100 ∷ 101 ∷ 102 ∷ 97 ∷ 117 ∷ 108 ∷ 116 ∷ []; rows = record { names = 77 ∷ 68 ∷ 53 ∷ []; definition = []; code = Md5 } ∷ []; admits = λ code len. true }

abbrev fixed : Fixed
fixed = record { facts = box ∷ []; contexts = 1; opened = 0 ∷ [] }

-- `?aXY`, for the number of two digits
abbrev query : ℕ → List Clause
query i = record { name = 97 ∷ (48 + i / 10) ∷ (48 + i % 10) ∷ []; relation = Equal; value = Text (121 ∷ 101 ∷ 115 ∷ []); optional = true } ∷ []

-- the entry of a number, a fetch under the query of a number
abbrev fetched : ℕ → ℕ → Event
fetched n i = record { caller = 1; call = Fetch 0 Digest (77 ∷ 68 ∷ 53 ∷ []) (query i); reply = Fetched n box.name 1 0 Md5 }

-- the first fetches, each under the query of its own number
abbrev first_from : ℕ → ℕ → List Event
first_from i zero = []
first_from i (suc n) = fetched i i ∷ first_from (i + 1) n

abbrev key : ℕ → Key
key i = record { op = Digest; number = 1; query = query i }

-- three fetches: the keys, the newest first
newest_first : recent_keys fixed (first_from 1 3) 0 ≡ key 3 ∷ key 2 ∷ key 1 ∷ []
unfolding definition_said list_at number_of number_for with_names
newest_first = refl

-- the first fetch and the 65th are misses, and so is the 66th, whose key was the first of 65
misses : (is_hit fixed [] (fetched 1 1) ≡ false) × (is_hit fixed (first_from 1 64) (fetched 65 65) ≡ false) × (is_hit fixed (first_from 1 65) (fetched 66 1) ≡ false)
unfolding definition_said list_at number_of number_for with_names
misses = (refl, refl, refl)

-- the 67th is a hit
hits : is_hit fixed (first_from 1 65 ++ fetched 66 1 ∷ []) (fetched 67 65) ≡ true
unfolding definition_said list_at number_of number_for with_names
hits = refl

-- a hit brings its key to the front
front : recent_keys fixed (fetched 1 1 ∷ fetched 2 2 ∷ fetched 3 1 ∷ []) 0 ≡ key 1 ∷ key 2 ∷ []
unfolding definition_said list_at number_of number_for with_names
front = refl

-- and is the only one of the three that is marked
marked : marks fixed (fetched 1 1 ∷ fetched 2 2 ∷ fetched 3 1 ∷ []) ≡ false ∷ false ∷ true ∷ []
unfolding definition_said list_at number_of number_for with_names
marked = refl

-- a fetch that fails is not kept
not_kept : recent_keys fixed (fetched 1 1 ∷ record { caller = 1; call = Fetch 0 Digest (77 ∷ 68 ∷ 53 ∷ []) (query 2); reply = Unsupported } ∷ []) 0 ≡ key 1 ∷ []
unfolding definition_said list_at number_of number_for with_names
not_kept = refl

-- a default query that is set, and a closing, leave none
none_left : (recent_keys fixed (fetched 1 1 ∷ record { caller = 1; call = SetDefault 0 []; reply = Done } ∷ []) 0 ≡ []) × (recent_keys fixed (fetched 1 1 ∷ record { caller = 1; call = CloseLib 0; reply = Done } ∷ []) 0 ≡ [])
unfolding definition_said list_at number_of number_for with_names
none_left = (refl, refl)

-- a provider is loaded, and a key is recent, until it is unloaded
abbrev held : List Event
held = record { caller = 1; call = Load 0 box.name false; reply = Loaded 1 1 0 } ∷ fetched 2 1 ∷ []

until_unloaded : (recent_keys fixed held 0 ≡ key 1 ∷ []) × (recent_keys fixed (held ++ record { caller = 1; call = Unload 1; reply = Done } ∷ []) 0 ≡ [])
unfolding definition_said list_at number_of number_for with_names
until_unloaded = (refl, refl)
