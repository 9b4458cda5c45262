-- Which of the offered rows a fetch takes (property(7), provider(7)).
use Rattle.std.specs.Prelude.{ℕ, Bool, ◌&&◌, nat_eq, nat_lt, List, filter, map, fold, Option, None, Some, option_map}
use Rattle.std.specs.Prelude.{if◌then◌else◌}
use Rattle.std.specs.List.{flat_map}
use Rattle.ossl_codes.specs.declared.code.Code.{Code}
use Rattle.ossl_codes.specs.declared.code.Operation.{Operation}
use Rattle.ossl_codes.specs.contracts.code.OperationPartialEq.TheImpl
use Rattle.ossl_property.specs.declared.clause.Clause.{Clause}
use Rattle.ossl_property.specs.Choosing.{score_of}
use Rattle.ossl_store.specs.declared.offered.Offered.{Offered}
use Rattle.ossl_store.specs.declared.choice.Scored.{Scored}
use Rattle.ossl_store.specs.Offering.{Offering}

-- a row of this operation whose names have this number
abbrev pub is_under : Operation → ℕ → Offered → Bool
is_under op number row = TheImpl.ghosts.eq row.op op && nat_eq row.number number

-- a row, with the instance that offers it
pub record Candidate : Type 0 where
  pub instance : ℕ
  pub row : Offered

abbrev pub candidate : ℕ → Offered → Candidate
candidate instance row = record { instance = instance; row = row }

-- the rows of one offering under an operation and a number
abbrev pub candidates_of : Operation → ℕ → Offering → List Candidate
candidates_of op number o = map (candidate o.instance) (filter (is_under op number) o.rows)

-- those of all offerings: by rank, and within an offering in its order
abbrev pub candidates : Operation → ℕ → List Offering → List Candidate
candidates op number offerings = flat_map (candidates_of op number) offerings

-- what a fetch learns of a row
abbrev pub choice_of : Candidate → ℕ × ℕ × Code
choice_of c = (c.instance, c.row.row, c.row.code)

-- a row with its score, where it has one
abbrev pub scored : List Clause → Candidate → Option Scored
scored query c = option_map (λ n. record { score = n; choice = choice_of c }) (score_of c.row.definition query)

-- a later row wins only with a greater score
abbrev pub better : Option Scored → Option Scored → Option Scored
better best None = best
better None (Some later) = Some later
better (Some best) (Some later) = if nat_lt best.score later.score then Some later else Some best

abbrev pub best_from : Option Scored → List Clause → List Candidate → Option Scored
best_from best query cs = fold (λ b c. better b (scored query c)) best cs

-- of the rows with a score the one with the greatest; of these the one of the least rank, and of its rows the first
abbrev pub best_offered : Operation → ℕ → List Clause → List Offering → Option (ℕ × ℕ × Code)
best_offered op number query offerings =
    option_map (λ b. b.choice) (best_from None query (candidates op number offerings))
