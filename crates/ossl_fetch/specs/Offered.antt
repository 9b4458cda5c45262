-- A store that was offered what the active instances of a library context offer (provider(7)).
use Rattle.std.specs.Prelude.{◌≡◌, ⊤, ℕ, ◌<◌, List, [], ◌∷◌, map, fold, Option, Some, option_map}
use Rattle.ossl_codes.specs.declared.code.Code.{Code}
use Rattle.ossl_codes.specs.declared.code.Operation.{Operation}
use Rattle.ossl_names.specs.Groups.{number_of}
use Rattle.ossl_property.specs.declared.clause.Clause.{Clause}
use Rattle.ossl_state.specs.declared.state.Active.{Active}
use Rattle.ossl_state.specs.declared.state.Born.{Born}
use Rattle.ossl_state.specs.declared.state.Choice.{Choice}
use Rattle.ossl_state.specs.declared.state.Offered as state-Offered
use Rattle.ossl_state.specs.declared.state.State.{State}
use Rattle.ossl_state.specs.Best.{rows_of, best_method, merged_query}
use Rattle.ossl_state.specs.State.{lib_at}
use Rattle.ossl_store.specs.declared.offered.Offered.{Offered}
use Rattle.ossl_store.specs.Offering.{Offering, placed}

-- a row of the registry's state, as a store is offered it
abbrev pub offered_row : state-Offered.Offered → Offered
offered_row row =
    record { op = row.op; number = row.number; row = row.index; code = row.code; definition = row.definition }

-- an instance with its rows
abbrev pub Rows : Type 0
Rows = ℕ × List Offered

abbrev pub rows_offered : Offering → Rows
rows_offered o = (o.instance, o.rows)

-- what the instance of an active provider offers
abbrev pub rows_active : List Born → Active → Rows
rows_active born a = (a.instance, map offered_row (rows_of a.instance born))

-- the offerings, by rank, are those of the active instances of a library context, in the order of their activation
abbrev pub AreOfActive : State → ℕ → List Offering → Type 0
AreOfActive s l offerings = map rows_offered offerings ≡ map (rows_active s.born) (lib_at s l).order

-- what a store has that was offered these, one after another
abbrev pub offered_in_turn : List Offering → List Offering
offered_in_turn os = fold (λ has o. placed o has) [] os

-- an offering has a rank below those of all of these
abbrev pub IsBelow : Offering → List Offering → Type 0
IsBelow o [] = ⊤
IsBelow o (p ∷ ps) = (o.rank < p.rank) × IsBelow o ps

-- each rank is above those before it
abbrev pub Rise : List Offering → Type 0
Rise [] = ⊤
Rise (o ∷ os) = IsBelow o os × Rise os

-- what is offered with rising ranks stands in the order in which it was offered
abbrev pub RisingStand : Type 0
RisingStand = (os : List Offering) → Rise os → offered_in_turn os ≡ os

-- what a store answers of a choice
abbrev pub answer_of : Option Choice → Option (ℕ × ℕ × Code)
answer_of chosen = option_map (λ c. (c.instance, c.row, c.code)) chosen

-- the answer is the best method of each state and library context whose active instances' rows these are, for each name
-- of the number, and each query that is this one once it is merged with the default query
pub record AnswersBest (offerings : List Offering) (op : Operation) (number : ℕ) (query : List Clause)
    (answer : Option (ℕ × ℕ × Code)) : Type 0 where
  pub at : (s : State) (l : ℕ) (name : List ℕ) (given : List Clause) → AreOfActive s l offerings →
      number_of (lib_at s l).groups name ≡ Some number → merged_query s l given ≡ query →
      answer ≡ answer_of (best_method s l op name given)
