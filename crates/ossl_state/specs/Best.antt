-- The best method (property(7), provider(7)): which row a fetch takes.
use Rattle.std.specs.Prelude.{ℕ, nat_eq, nat_lt, if◌then◌else◌, List, [], find, filter, map, fold, None, Some}
use Rattle.std.specs.List.{flat_map}
use Rattle.std.specs.Option.{option_map}
use Rattle.std.specs.declared.option.Option.{Option}
use Rattle.ossl_codes.specs.declared.code.Operation.{Operation}
use Rattle.ossl_names.specs.Groups.{number_of}
use Rattle.ossl_property.specs.declared.clause.Clause.{Clause}
use Rattle.ossl_property.specs.Choosing as property
use Rattle.ossl_state.specs.declared.state.Active.{Active}
use Rattle.ossl_state.specs.declared.state.Born.{Born}
use Rattle.ossl_state.specs.declared.state.Choice.{Choice}
use Rattle.ossl_state.specs.declared.state.Offered.{Offered}
use Rattle.ossl_state.specs.declared.state.Scored.{Scored}
use Rattle.ossl_state.specs.declared.state.State.{State}
use Rattle.ossl_state.specs.Rows.{is_wanted}
use Rattle.ossl_state.specs.State.{lib_at}

-- the rows that an instance offers
abbrev pub rows_of_found : Option Born → List Offered
rows_of_found None = []
rows_of_found (Some b) = b.rows

abbrev pub rows_of : ℕ → List Born → List Offered
rows_of n born = rows_of_found (find (λ b. nat_eq b.number n) born)

-- a row that an active provider offers
pub record Candidate : Type 0 where
  pub active : Active
  pub row : Offered

-- the rows of one active provider that have the operation and the number
abbrev pub candidates_of : List Born → Operation → ℕ → Active → List Candidate
candidates_of born op number a =
    map (λ row. record { active = a; row = row }) (filter (is_wanted op number) (rows_of a.instance born))

-- those of all active providers: in their order, and by row within a provider; none where the name has no number
abbrev pub candidates_among : List Born → List Active → Operation → Option ℕ → List Candidate
candidates_among born order op None = []
candidates_among born order op (Some number) = flat_map (candidates_of born op number) order

-- those of a name in a library context
abbrev pub candidates : State → ℕ → Operation → List ℕ → List Candidate
candidates s l op name = candidates_among s.born (lib_at s l).order op (number_of (lib_at s l).groups name)

-- a query together with the default query of the library context
abbrev pub merged_query : State → ℕ → List Clause → List Clause
merged_query s l query = property.merged query (lib_at s l).default

abbrev pub choice_of : Candidate → Choice
choice_of c = record { place = c.active.place; instance = c.active.instance; row = c.row.index; code = c.row.code }

-- a candidate with its score, where it has one
abbrev pub scored : List Clause → Candidate → Option Scored
scored query c = option_map (λ n. record { score = n; choice = choice_of c }) (property.score_of c.row.definition query)

-- a later one wins only with a greater score
abbrev pub better : Option Scored → Option Scored → Option Scored
better best None = best
better None (Some later) = Some later
better (Some best) (Some later) = if nat_lt best.score later.score then Some later else Some best

abbrev pub best_from : Option Scored → List Clause → List Candidate → Option Scored
best_from best query cs = fold (λ b c. better b (scored query c)) best cs

-- of the candidates with a score the one with the greatest; of these the one whose provider is first in the order, and
-- of its rows the one with the least index
abbrev pub best_method : State → ℕ → Operation → List ℕ → List Clause → Option Choice
best_method s l op name query =
    option_map (λ b. b.choice) (best_from None (merged_query s l query) (candidates s l op name))
