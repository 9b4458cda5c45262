-- What the choice among rows is, said of all of them at once (property(7), provider(7)).
use Rattle.std.specs.Prelude.{◌≡◌, ℕ, ◌<◌, ◌≤◌, List, ◌∷◌, ◌++◌, Option, None, Some}
use Rattle.std.specs.List.{AllByRecursion}
use Rattle.ossl_codes.specs.declared.code.Code.{Code}
use Rattle.ossl_property.specs.declared.clause.Clause.{Clause}
use Rattle.ossl_property.specs.Choosing.{score_of}
use Rattle.ossl_store.specs.Best.{Candidate, choice_of}

-- the score of a row under a query
abbrev pub score_under : List Clause → Candidate → Option ℕ
score_under query c = score_of c.row.definition query

abbrev pub HasNone : List Clause → Candidate → Type 0
HasNone query c = score_under query c ≡ None

abbrev pub IsUpToOf : ℕ → Option ℕ → Type 0
IsUpToOf n None = Unit {0}
IsUpToOf n (Some m) = m ≤ n

abbrev pub IsBelowOf : ℕ → Option ℕ → Type 0
IsBelowOf n None = Unit {0}
IsBelowOf n (Some m) = m < n

-- the row has no score, or one of at most n; or one below n
abbrev pub IsUpTo : List Clause → ℕ → Candidate → Type 0
IsUpTo query n c = IsUpToOf n (score_under query c)

abbrev pub IsBelow : List Clause → ℕ → Candidate → Type 0
IsBelow query n c = IsBelowOf n (score_under query c)

-- the row has the greatest score, and those before it have smaller ones
pub record IsFirstGreatest (query : List Clause) (cs : List Candidate) (c : Candidate) (n : ℕ) : Type 0 where
  pub front : List Candidate
  pub back : List Candidate
  pub parts : cs ≡ front ++ c ∷ back
  pub scores : score_under query c ≡ Some n
  pub below : AllByRecursion (IsBelow query n) front
  pub most : AllByRecursion (IsUpTo query n) back

-- the answer is that of the first row with the greatest score, or none where no row has a score
abbrev pub IsBest : List Clause → List Candidate → Option (ℕ × ℕ × Code) → Type 0
IsBest query cs None = AllByRecursion (HasNone query) cs
IsBest query cs (Some answer) = (c : Candidate) × (n : ℕ) × (answer ≡ choice_of c) × IsFirstGreatest query cs c n
