-- The choice over candidates has the greatest score, and is the first of them that has it.
use Rattle.std.proofs.Common.{◌≡◌, ◌∙◌, ◌<◌, ◌≤◌, ℕ, refl, sym, ap, subst, Bool, true, false, List, [], ◌∷◌, ◌++◌, Option, Some, None, cond, nat_lt, arith, append_assoc}
use Rattle.std.specs.Prelude.{option_map}
use Rattle.std.specs.List.{AllByRecursion}
use Rattle.std.proofs.lemmas.Bool.{ltb-true, ltb-false}
use Rattle.std.proofs.lemmas.List.{append-nil}
use Rattle.ossl_property.specs.declared.clause.Clause.{Clause}
use Rattle.ossl_property.specs.Choosing.{score_of}
use Rattle.ossl_store.specs.declared.choice.Scored.{Scored}
use Rattle.ossl_store.specs.Best.{Candidate, choice_of, scored, better, best_from}
use Rattle.ossl_store.specs.Greatest.{score_under, HasNone, IsUpTo, IsBelow, IsUpToOf, IsBelowOf, IsFirstGreatest, IsBest}

all-append : (P : Candidate → Type 0) (xs ys : List Candidate) → AllByRecursion P xs → AllByRecursion P ys → AllByRecursion P (xs ++ ys)
all-append P [] ys p q = q
all-append P (x ∷ xs) ys p q = (p.0, all-append P xs ys p.1 q)

all-map : (P Q : Candidate → Type 0) → ((c : Candidate) → P c → Q c) → (xs : List Candidate) → AllByRecursion P xs → AllByRecursion Q xs
all-map P Q f [] p = tt
all-map P Q f (x ∷ xs) p = (f x p.0, all-map P Q f xs p.1)

module _ (query : List Clause) where
  -- what a best row so far says of the rows that were looked at
  abbrev Stands : List Candidate → Option Scored → Type 0
  Stands cs None = AllByRecursion (HasNone query) cs
  Stands cs (Some best) = (c : Candidate) × (best ≡ record { score = best.score; choice = choice_of c }) × IsFirstGreatest query cs c best.score

  none-below : (n : ℕ) (c : Candidate) → HasNone query c → IsBelow query n c
  none-below n c none = rw (none) tt

  up_to-below : (m n : ℕ) → m < n → (c : Candidate) → IsUpTo query m c → IsBelow query n c
  up_to-below m n less c = by (score_under query c)
    where
      by : (o : Option ℕ) → IsUpToOf m o → IsBelowOf n o
      by None u = tt
      by (Some k) u = omega arith

  below-below : (m n : ℕ) → m < n → (c : Candidate) → IsBelow query m c → IsBelow query n c
  below-below m n less c = by (score_under query c)
    where
      by : (o : Option ℕ) → IsBelowOf m o → IsBelowOf n o
      by None u = tt
      by (Some k) u = omega arith

  -- a first row with a score
  first_found : (cs : List Candidate) (c : Candidate) (n : ℕ) → score_under query c ≡ Some n → AllByRecursion (IsBelow query n) cs → Stands (cs ++ c ∷ []) (Some (record { score = n; choice = choice_of c }))
  first_found cs c n scores below = (c, refl, record { front = cs; back = []; parts = refl; scores = scores; below = below; most = tt })

  -- a further row that does not win
  another : (cs : List Candidate) (c d : Candidate) (n : ℕ) → IsUpTo query n d → IsFirstGreatest query cs c n → IsFirstGreatest query (cs ++ d ∷ []) c n
  another cs c d n up first = record {
    front = first.front;
    back = first.back ++ d ∷ [];
    parts = ap (λ xs. xs ++ d ∷ []) first.parts ∙ append_assoc first.front (c ∷ first.back) (d ∷ []);
    scores = first.scores;
    below = first.below;
    most = all-append (IsUpTo query n) first.back (d ∷ []) first.most (up, tt);
  }

  all-below : (cs : List Candidate) (c : Candidate) (m n : ℕ) → m < n → IsFirstGreatest query cs c m → AllByRecursion (IsBelow query n) cs
  all-below cs c m n less first =
      let own : IsBelow query n c = rw (first.scores) less in
      let parts = all-append (IsBelow query n) first.front (c ∷ first.back) (all-map (IsBelow query m) (IsBelow query n) (below-below m n less) first.front first.below)
      (own, all-map (IsUpTo query m) (IsBelow query n) (up_to-below m n less) first.back first.most) in
      subst (AllByRecursion (IsBelow query n)) (sym first.parts) parts

  step : (cs : List Candidate) (d : Candidate) (best : Option Scored) (o : Option ℕ) → score_under query d ≡ o → Stands cs best → Stands (cs ++ d ∷ []) (better best (option_map (λ n. record { score = n; choice = choice_of d }) o))
  step cs d None None h stands = all-append (HasNone query) cs (d ∷ []) stands (h, tt)
  step cs d None (Some n) h stands = first_found cs d n h (all-map (HasNone query) (IsBelow query n) (none-below n) cs stands)
  step cs d (Some best) None h stands = let up : IsUpTo query best.score d = rw (h) tt in (stands.0, stands.1, another cs stands.0 d best.score up stands.2)
  step cs d (Some best) (Some n) h stands = by (nat_lt best.score n) refl
    where
      by : (b : Bool) → nat_lt best.score n ≡ b → Stands (cs ++ d ∷ []) (cond b (Some (record { score = n; choice = choice_of d })) (Some best))
      by true less = first_found cs d n h (all-below cs stands.0 best.score n (ltb-true best.score n less) stands.2)
      by false more =
          let least : n ≤ best.score = ltb-false best.score n more in
          let up : IsUpTo query best.score d = rw (h) least in
          (stands.0, stands.1, another cs stands.0 d best.score up stands.2)

  run : (cs ds : List Candidate) (best : Option Scored) → Stands cs best → Stands (cs ++ ds) (best_from best query ds)
  run cs [] best stands = subst (λ xs. Stands xs best) (sym (append-nil cs)) stands
  run cs (d ∷ ds) best stands =
      subst (λ xs. Stands xs (best_from (better best (scored query d)) query ds)) (append_assoc cs (d ∷ []) ds)
      (run (cs ++ d ∷ []) ds (better best (scored query d)) (step cs d best (score_under query d) refl stands))

  answers : (cs : List Candidate) (best : Option Scored) → Stands cs best → IsBest query cs (option_map (λ b. b.choice) best)
  answers cs None stands = stands
  answers cs (Some best) stands = (stands.0, best.score, ap (λ b. b.choice) stands.1, stands.2)

  pub chosen_best : (cs : List Candidate) → IsBest query cs (option_map (λ b. b.choice) (best_from None query cs))
  chosen_best cs = answers cs (best_from None query cs) (run [] cs None tt)
