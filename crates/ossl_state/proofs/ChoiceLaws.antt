-- A chosen row is one of an instance that is active, so that the method of it holds what is up.
use Rattle.std.proofs.Common.{◌≡◌, ℕ, ◌+◌, ◌<◌, Bool, true, false, ◌&&◌, nat_eq, nat_lt, List, [], ◌∷◌, length, map, get_or, drop, refl, sym, ◌∙◌, ap, arith, suc, add-one, drop-cons, ◌⊎◌, inl, inr}
use Rattle.std.specs.List.{list_any, list_all, filter, flat_map}
use Rattle.std.specs.Prelude.{None, Some, if◌then◌else◌}
use Rattle.std.specs.declared.option.Option.{Option}
use Rattle.std.specs.Option.{option_map}
use Rattle.std.proofs.lemmas.Bool.{cases_Bool, and_parts, eqb-true, eq-eqb, true≢false}
use Rattle.std.proofs.Math.Bool.{or-false}
use Rattle.std.proofs.lemmas.Grind.{common_steps}
use Rattle.std.proofs.lemmas.List.Folds.{list_any-append, list_all-append}
use Rattle.ossl_provider.specs.Members.{is_in}
use Rattle.ossl_codes.specs.declared.code.Operation.{Operation}
use Rattle.ossl_names.specs.Groups.{number_of}
use Rattle.ossl_property.specs.declared.clause.Clause.{Clause}
use Rattle.ossl_property.specs.Choosing.{score_of}
use Rattle.ossl_state.specs.declared.state.Active.{Active}
use Rattle.ossl_state.specs.declared.state.Born.{Born}
use Rattle.ossl_state.specs.declared.state.Choice.{Choice}
use Rattle.ossl_state.specs.declared.state.Live.{Live}
use Rattle.ossl_state.specs.declared.state.Offered.{Offered}
use Rattle.ossl_state.specs.declared.state.Scored.{Scored}
use Rattle.ossl_state.specs.declared.state.State.{State}
use Rattle.ossl_state.specs.Best.{Candidate, candidates_of, candidates_among, candidates, choice_of, merged_query, scored, better, best_from, best_method, rows_of}
use Rattle.ossl_state.specs.History.{Fixed}
use Rattle.ossl_state.specs.Rows.{is_wanted}
use Rattle.ossl_state.specs.Sound.{HasSoundInstances, is_paired, number_of_born}
use Rattle.ossl_state.specs.State.{lib_at, is_active, is_held, is_up}
use Rattle.ossl_state.specs.Step.{element_of, is_named, held_by, held_by_inner, new_context}
use Rattle.ossl_state.proofs.ListLaws.{IsAmong, any_witness, any_more, any_both, all_among, all_at_among, find_some}

-- a test of the best row so far
abbrev passes : (Choice → Bool) → Option Scored → Bool
passes q None = true
passes q (Some b) = q b.choice

module _ (q : Choice → Bool) where
  better-passes : (a b : Option Scored) → passes q a ≡ true → passes q b ≡ true → passes q (better a b) ≡ true
  better-passes a None h g = h
  better-passes None (Some b) h g = g
  better-passes (Some a) (Some b) h g = elim (cases_Bool (nat_lt a.score b.score)) [
    | inl wins ↦ rw wins g
    | inr stays ↦ rw stays h
  ]

  scored-passes : (query : List Clause) (c : Candidate) → q (choice_of c) ≡ true → passes q (scored query c) ≡ true
  scored-passes query c h = of_score (score_of c.row.definition query)
    where
      of_score : (o : Option ℕ) → passes q (option_map (λ n. record { score = n; choice = choice_of c }) o) ≡ true
      of_score None = refl
      of_score (Some n) = h

  best_from-passes : (best : Option Scored) (query : List Clause) (cs : List Candidate) → passes q best ≡ true → list_all (λ c. q (choice_of c)) cs ≡ true → passes q (best_from best query cs) ≡ true
  best_from-passes best query [] h all = h
  best_from-passes best query (c ∷ cs) h all =
      let parts = and_parts (q (choice_of c)) (list_all (λ c. q (choice_of c)) cs) all in
      best_from-passes (better best (scored query c)) query cs (better-passes best (scored query c) h (scored-passes query c parts.0)) parts.1

-- the row at an index is looked at, where the rows from it on are
pub rows-next : (best : Option Scored) (a : Active) (op : Operation) (number : ℕ) (query : List Clause) (rows : List Offered) (i : ℕ) (row : Offered) → i < length rows → row ≡ get_or rows i row →
    best_from best query (map (λ r. record { active = a; row = r }) (filter (is_wanted op number) (drop i rows)))
    ≡ best_from (if is_wanted op number row then better best (scored query (record { active = a; row = row })) else best) query (map (λ r. record { active = a; row = r }) (filter (is_wanted op number) (drop (i + 1) rows)))
rows-next best a op number query rows i row within here = rw split (elim (cases_Bool (is_wanted op number row)) [
  | inl wanted ↦ rw wanted refl
  | inr other ↦ rw other refl
])
  where
    split : drop i rows ≡ row ∷ drop (i + 1) rows
    split = rw (add-one, drop-cons rows i row) (ap (λ r. r ∷ drop (suc i) rows) (sym here))

-- a candidate is one of an active instance
numbered-active : (born : List Born) (op : Operation) (number : ℕ) (p : Active → Bool) (order : List Active) → list_all p order ≡ true → list_all (λ (c : Candidate). p c.active) (flat_map (candidates_of born op number) order) ≡ true
numbered-active born op number p [] all = refl
numbered-active born op number p (a ∷ order) all =
    let parts = and_parts (p a) (list_all p order) all in
    rw (list_all-append (λ (c : Candidate). p c.active) (candidates_of born op number a) (flat_map (candidates_of born op number) order), numbered-active born op number p order parts.1, of_rows (filter (is_wanted op number) (rows_of a.instance born)) parts.0) refl
  where
    of_rows : (rows : List Offered) → p a ≡ true → list_all (λ (c : Candidate). p c.active) (map (λ row. record { active = a; row = row }) rows) ≡ true
    of_rows [] h = refl
    of_rows (row ∷ rows) h = rw (h, of_rows rows h) refl

candidates-active : (born : List Born) (order : List Active) (op : Operation) (o : Option ℕ) (p : Active → Bool) → list_all p order ≡ true → list_all (λ (c : Candidate). p c.active) (candidates_among born order op o) ≡ true
candidates-active born order op None p all = refl
candidates-active born order op (Some number) p all = numbered-active born op number p order all

-- what holds of each active provider and its instance holds of the best method's
pub best_holds : (s : State) (l : ℕ) (op : Operation) (name : List ℕ) (query : List Clause) (chosen : Choice) (p : ℕ → ℕ → Bool) → list_all (λ a. p a.place a.instance) (lib_at s l).order ≡ true →
    best_method s l op name query ≡ Some chosen → p chosen.place chosen.instance ≡ true
best_holds s l op name query chosen p each e = of_best (best_from None (merged_query s l query) (candidates s l op name)) all e
  where
    all : passes (λ ch. p ch.place ch.instance) (best_from None (merged_query s l query) (candidates s l op name)) ≡ true
    all = best_from-passes (λ ch. p ch.place ch.instance) None (merged_query s l query) (candidates s l op name) refl
        (candidates-active s.born (lib_at s l).order op (number_of (lib_at s l).groups name) (λ a. p a.place a.instance) each)

    of_best : (o : Option Scored) → passes (λ ch. p ch.place ch.instance) o ≡ true → option_map (λ (b : Scored). b.choice) o ≡ Some chosen → p chosen.place chosen.instance ≡ true
    of_best None h e = cc
    of_best (Some b) h e = let same : b.choice ≡ chosen = cc in rw (← same) h

-- the best method is one of an active instance
pub best-active : (s : State) (l : ℕ) (op : Operation) (name : List ℕ) (query : List Clause) (chosen : Choice) → best_method s l op name query ≡ Some chosen → is_active chosen.instance (lib_at s l).order ≡ true
best-active s l op name query chosen e = best_holds s l op name query chosen (λ k n. is_active n (lib_at s l).order)
    (all_among (λ a. is_active a.instance (lib_at s l).order) (lib_at s l).order (λ a among. among (λ a'. nat_eq a'.instance a.instance) (eq-eqb a.instance a.instance refl)))
    e

-- an instance that is active in a library context was started there
active-lib : (born : List Born) (l n : ℕ) (order : List Active) → list_all (is_paired born l) order ≡ true → is_active n order ≡ true → list_any (λ b. nat_eq b.number n && nat_eq b.lib l) born ≡ true
active-lib born l n order paired active =
    let w = any_witness (λ a. nat_eq a.instance n) order active in
    let same : w.0.instance ≡ n = eqb-true w.0.instance n w.1 in
    let pair = all_at_among (is_paired born l) order w.0 paired w.2 in
    any_more (λ (b : Born). nat_eq b.number w.0.instance && nat_eq b.place w.0.place && nat_eq b.lib l) (λ (b : Born). nat_eq b.number n && nat_eq b.lib l)
    (λ b h.
    let outer = and_parts (nat_eq b.number w.0.instance && nat_eq b.place w.0.place) (nat_eq b.lib l) h in
    let inner = and_parts (nat_eq b.number w.0.instance) (nat_eq b.place w.0.place) outer.0 in
    rw (eq-eqb b.number n (eqb-true b.number w.0.instance inner.0 ∙ same), outer.1) refl) born pair

-- the method of the best row holds what is up
pub method_up : (fixed : Fixed) (m : ℕ) (s : State) (l : ℕ) (op : Operation) (name : List ℕ) (query : List Clause) (chosen : Choice) → HasSoundInstances fixed m s → best_method s l op name query ≡ Some chosen →
    (b : Born) → IsAmong s.born b → is_in b.number (chosen.instance ∷ []) ≡ true → is_up s b ≡ true
method_up fixed m s l op name query chosen h e b among held =
    let same : chosen.instance ≡ b.number = eqb-true chosen.instance b.number (rw or-false at held) in
    let active : is_active b.number (lib_at s l).order ≡ true = rw (← same) (best-active s l op name query chosen e) in
    let there = active-lib s.born l b.number (lib_at s l).order (h.paired l) active in
    let mine = among (λ b'. nat_eq b'.number b.number && nat_eq b'.lib b.lib) (rw (eq-eqb b.number b.number refl, eq-eqb b.lib b.lib refl) refl) in
    let w = any_witness _ s.born (any_both number_of_born b.number (λ b'. nat_eq b'.lib l) (λ b'. nat_eq b'.lib b.lib) s.born h.distinct there mine) in
    let outer = and_parts (nat_eq w.0.number b.number) (nat_eq w.0.lib l && nat_eq w.0.lib b.lib) w.1 in
    let inner = and_parts (nat_eq w.0.lib l) (nat_eq w.0.lib b.lib) outer.1 in
    let here : b.lib ≡ l = sym (eqb-true w.0.lib b.lib inner.1) ∙ eqb-true w.0.lib l inner.0 in
    rw (here, active) refl

-- what a live element holds is held
element_held : (s : State) (t n : ℕ) → is_in n (held_by (element_of s t)) ≡ true → is_held n s.live ≡ true
element_held s t n h = found (element_of s t) refl h
  where
    found : (o : Option Live) → element_of s t ≡ o → is_in n (held_by o) ≡ true → is_held n s.live ≡ true
    found None is held = absurd (true≢false (sym held))
    found (Some x) is held = (find_some (is_named t) s.live x is).1 (λ y. is_in n y.held) held

-- what a live element holds is up
pub element_up : (s : State) (t : ℕ) (x : Live) → element_of s t ≡ Some x → (b : Born) → is_in b.number x.held ≡ true → is_up s b ≡ true
element_up s t x found b held = rw ((find_some (is_named t) s.live x found).1 (λ y. is_in b.number y.held) held) (grind (arith, common_steps))

-- an operation context holds what was held
pub context_up : (s : State) (c h : ℕ) (inner : Option ℕ) (m : Live) → element_of s h ≡ Some m → (b : Born) → is_in b.number (new_context s c inner m).held ≡ true → is_up s b ≡ true
context_up s c h inner m found b held = rw (of_parts (cases_Bool (is_in b.number m.held))) (grind (arith, common_steps))
  where
    of_inner : (o : Option ℕ) → is_in b.number (held_by_inner s o) ≡ true → is_held b.number s.live ≡ true
    of_inner None g = absurd (true≢false (sym g))
    of_inner (Some t) g = element_held s t b.number g

    of_parts : ((is_in b.number m.held ≡ true) ⊎ (is_in b.number m.held ≡ false)) → is_held b.number s.live ≡ true
    of_parts (inl first) = (find_some (is_named h) s.live m found).1 (λ y. is_in b.number y.held) first
    of_parts (inr second) = of_inner inner (rw (list_any-append (λ x. nat_eq x b.number) m.held (held_by_inner s inner), second) at held)
