-- The store's choice over the active instances' rows is that of the registry's state.
use Rattle.std.proofs.Common.{◌≡◌, ◌∙◌, ℕ, refl, sym, ap, ap₂, true, false, ◌&&◌, List, [], ◌∷◌, ◌++◌, map, filter, fold, Option, Some, None, cond, nat_eq, nat_lt, ◌<◌, arith}
use Rattle.std.proofs.lemmas.Bool.Decides.{nat_tests}
use Rattle.std.proofs.lemmas.List.{append-nil, append_assoc}
use Rattle.std.specs.Prelude.{⊤, option_map}
use Rattle.std.specs.List.{flat_map}
use Rattle.ossl_codes.specs.declared.code.Operation.{Operation}
use Rattle.ossl_codes.specs.declared.code.Operation.TheVariants.{Digest, Cipher, Mac, Kdf}
use Rattle.ossl_codes.specs.contracts.code.OperationPartialEq.TheImpl
use Rattle.ossl_property.specs.declared.clause.Clause.{Clause}
use Rattle.ossl_property.specs.Choosing.{score_of}
use Rattle.ossl_state.specs.declared.state.Active.{Active}
use Rattle.ossl_state.specs.declared.state.Born.{Born}
use Rattle.ossl_state.specs.declared.state.Offered as state-Offered
use Rattle.ossl_state.specs.declared.state.Scored as state-Scored
use Rattle.ossl_state.specs.Best as state
use Rattle.ossl_state.specs.Rows.{is_operation, is_wanted}
use Rattle.ossl_state.specs.State.{lib_at}
use Rattle.ossl_store.specs.declared.choice.Scored.{Scored}
use Rattle.ossl_store.specs.Offering.{Offering, placed}
use Rattle.ossl_store.specs.Best.{Candidate, candidate, candidates, candidates_of, is_under, scored, better, best_from, best_offered}
use Rattle.ossl_fetch.specs.Offered.{offered_row, rows_offered, rows_active, IsBelow, Rise, RisingStand, answer_of, AnswersBest}

same_operations : (a b : Operation) → TheImpl.ghosts.eq a b ≡ is_operation a b
same_operations Digest Digest = refl
same_operations Digest Cipher = refl
same_operations Digest Mac = refl
same_operations Digest Kdf = refl
same_operations Cipher Digest = refl
same_operations Cipher Cipher = refl
same_operations Cipher Mac = refl
same_operations Cipher Kdf = refl
same_operations Mac Digest = refl
same_operations Mac Cipher = refl
same_operations Mac Mac = refl
same_operations Mac Kdf = refl
same_operations Kdf Digest = refl
same_operations Kdf Cipher = refl
same_operations Kdf Mac = refl
same_operations Kdf Kdf = refl

-- a row of the state as the store's
abbrev row_of : state.Candidate → Candidate
row_of c = candidate c.active.instance (offered_row c.row)

abbrev score_as : state-Scored.Scored → Scored
score_as b = record { score = b.score; choice = (b.choice.instance, b.choice.row, b.choice.code) }

abbrev best_as : Option state-Scored.Scored → Option Scored
best_as b = option_map score_as b

better-as : (best later : Option state-Scored.Scored) → best_as (state.better best later) ≡ better (best_as best) (best_as later)
better-as None None = refl
better-as (Some best) None = refl
better-as None (Some later) = refl
better-as (Some best) (Some later) = (elim (nat_lt best.score later.score) as (λ b. best_as (cond b (Some later) (Some best)) ≡ cond b (Some (score_as later)) (Some (score_as best))) [ true ↦ refl | false ↦ refl ])

scored-as : (query : List Clause) (c : state.Candidate) → best_as (state.scored query c) ≡ scored query (row_of c)
scored-as query c = by (score_of c.row.definition query)
  where
    by : (n : Option ℕ) → best_as (option_map (λ m. record { score = m; choice = state.choice_of c }) n) ≡ option_map (λ m. record { score = m; choice = (c.active.instance, c.row.index, c.row.code) }) n
    by None = refl
    by (Some n) = refl

best_from-as : (query : List Clause) (cs : List state.Candidate) (best : Option state-Scored.Scored) → best_as (state.best_from best query cs) ≡ best_from (best_as best) query (map row_of cs)
best_from-as query [] best = refl
best_from-as query (c ∷ cs) best =
    best_from-as query cs (state.better best (state.scored query c))
    ∙ ap (λ b. best_from b query (map row_of cs)) (better-as best (state.scored query c) ∙ ap (better (best_as best)) (scored-as query c))

module _ (op : Operation) (number : ℕ) where
  -- the wanted rows of an instance
  wanted-as : (a : Active) (rows : List state-Offered.Offered)
      → map (candidate a.instance) (filter (is_under op number) (map offered_row rows)) ≡ map row_of (map (λ row. record { active = a; row = row }) (filter (is_wanted op number) rows))
  wanted-as a [] = refl
  wanted-as a (row ∷ rows) =
      let same : is_under op number (offered_row row) ≡ is_wanted op number row = ap (λ b. b && nat_eq row.number number) (same_operations row.op op) in
      rw (same) ((elim (is_wanted op number row) as (λ b. map (candidate a.instance) (cond b (offered_row row ∷ filter (is_under op number) (map offered_row rows)) (filter (is_under op number) (map offered_row rows)))
      ≡ map row_of (map (λ r. record { active = a; row = r }) (cond b (row ∷ filter (is_wanted op number) rows) (filter (is_wanted op number) rows)))) [
        | true ↦ ap (λ cs. candidate a.instance (offered_row row) ∷ cs) (wanted-as a rows)
        | false ↦ wanted-as a rows
      ]))

  candidates-as : (born : List Born) (order : List Active) (offerings : List Offering) → map rows_offered offerings ≡ map (rows_active born) order
      → candidates op number offerings ≡ map row_of (flat_map (state.candidates_of born op number) order)
  candidates-as born [] [] e = refl
  candidates-as born [] (o ∷ os) e = cc
  candidates-as born (a ∷ order) [] e = cc
  candidates-as born (a ∷ order) (o ∷ os) e =
      let head : rows_offered o ≡ rows_active born a = cc in
      let tail : map rows_offered os ≡ map (rows_active born) order = cc in
      let first : candidates_of op number o ≡ map row_of (state.candidates_of born op number a) =
      ap (λ p. map (candidate p.0) (filter (is_under op number) p.1)) head ∙ wanted-as a (state.rows_of a.instance born) in
      ap₂ (λ xs ys. xs ++ ys) first (candidates-as born order os tail)
      ∙ sym (map-joined (state.candidates_of born op number a) (flat_map (state.candidates_of born op number) order))
    where
      map-joined : (xs ys : List state.Candidate) → map row_of (xs ++ ys) ≡ map row_of xs ++ map row_of ys
      map-joined [] ys = refl
      map-joined (x ∷ xs) ys = ap (λ zs. row_of x ∷ zs) (map-joined xs ys)

  pub answers_best : (offerings : List Offering) (query : List Clause) → AnswersBest offerings op number query (best_offered op number query offerings)
  answers_best offerings query = record {
    at = λ s l name given of_active known merges.
        let order = (lib_at s l).order in
        let cs = flat_map (state.candidates_of s.born op number) order in
        let named : state.candidates s l op name ≡ cs = ap (state.candidates_among s.born order op) known in
        let chosen = state.best_from None query cs in
        ap (λ rows. option_map (λ (b : Scored). b.choice) (best_from None query rows)) (candidates-as s.born order offerings of_active)
        ∙ ap (option_map (λ (b : Scored). b.choice)) (sym (best_from-as query cs None))
        ∙ answer chosen
        ∙ sym (ap₂ (λ q rows. answer_of (option_map (λ (b : state-Scored.Scored). b.choice) (state.best_from None q rows))) merges named);
  }
    where
      answer : (b : Option state-Scored.Scored) → option_map (λ (x : Scored). x.choice) (best_as b) ≡ answer_of (option_map (λ (x : state-Scored.Scored). x.choice) b)
      answer None = refl
      answer (Some b) = refl

-- each of the first has a rank below those of the others
abbrev Under : List Offering → List Offering → Type 0
Under [] os = ⊤
Under (p ∷ ps) os = IsBelow p os × Under ps os

-- an offering above all others goes to the end
placed_last : (o : Offering) (has : List Offering) → Under has (o ∷ []) → placed o has ≡ has ++ o ∷ []
placed_last o [] under = refl
placed_last o (p ∷ ps) under =
    let low : p.rank < o.rank = under.0.0 in
    let not_before : nat_lt o.rank p.rank ≡ false = grind (arith, nat_tests) in
    rw not_before (ap (λ xs. p ∷ xs) (placed_last o ps under.1))

first_under : (has : List Offering) (o : Offering) (os : List Offering) → Under has (o ∷ os) → Under has (o ∷ [])
first_under [] o os under = tt
first_under (p ∷ ps) o os under = ((under.0.0, tt), first_under ps o os under.1)

one_more_under : (has : List Offering) (o : Offering) (os : List Offering) → Under has (o ∷ os) → IsBelow o os →
    Under (has ++ o ∷ []) os
one_more_under [] o os under low = (low, tt)
one_more_under (p ∷ ps) o os under low = (under.0.1, one_more_under ps o os under.1 low)

-- what is offered in turn, behind what stands below all of it
in_turn_behind : (has os : List Offering) → Under has os → Rise os → fold (λ z o. placed o z) has os ≡ has ++ os
in_turn_behind has [] under rise = sym (append-nil has)
in_turn_behind has (o ∷ os) under rise =
    rw (placed_last o has (first_under has o os under))
    (in_turn_behind (has ++ o ∷ []) os (one_more_under has o os under rise.0) rise.1
    ∙ append_assoc has (o ∷ []) os)

pub rising_stand : RisingStand
rising_stand os rise = in_turn_behind [] os tt rise
