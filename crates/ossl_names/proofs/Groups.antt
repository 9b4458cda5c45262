-- The numbers of names before and after names joined a group.
use Rattle.std.proofs.Common.{◌≡◌, ℕ, zero, suc, ◌+◌, ◌-◌, ◌<◌, ◌≤◌, Bool, true, false, ◌||◌, cond, List, [], ◌∷◌, ◌++◌, length, set, get_or, fold, Option, None, Some, refl, sym, ap, ◌∙◌, ◌⊎◌, inl, inr, ⊎_elim, arith, append_assoc}
use Rattle.std.specs.List.{list_any, position_from}
use Rattle.std.specs.Str.{bytes_eq}
use Rattle.std.proofs.lemmas.Bool.{cases_Bool, cond-true, cond-false}
use Rattle.std.proofs.lemmas.List.{append-nil}
use Rattle.std.proofs.lemmas.List.Folds.{list_any-append}
use Rattle.ossl_names.specs.Name.{folded}
use Rattle.ossl_names.specs.Groups.{Group, Groups, has_name, number_of, with_name, joined, group_of}
use Rattle.ossl_names.specs.Index.{with_new, new_names}

none_parts : (b : Bool) (s : ℕ) (r : Option ℕ) → cond b (Some s) r ≡ None → (b ≡ false) × (r ≡ None)
none_parts true s r e = absurd (cc)
none_parts false s r e = (refl, e)

some_parts : (b : Bool) (s n : ℕ) (r : Option ℕ) → cond b (Some s) r ≡ Some n → ((b ≡ true) × (s ≡ n)) ⊎ ((b ≡ false) × (r ≡ Some n))
some_parts true s n r e = inl (refl, cc)
some_parts false s n r e = inr (refl, e)

module _ {X : Type 0} (t : X → Bool) where
  -- the place found lies in the list, and passes
  pub position-Some : (s : ℕ) (xs : List X) (n : ℕ) (d : X) → position_from t s xs ≡ Some n → (s ≤ n) × (n < s + length xs) × (t (get_or xs (n - s) d) ≡ true)
  position-Some s [] n d e = absurd (cc)
  position-Some s (x ∷ xs) n d e =
      ⊎_elim
      (λ h. let at : s ≡ n = h.1 in
      let zero_at : n - s ≡ 0 = omega arith in
      (omega arith, omega arith, ap (λ k. t (get_or (x ∷ xs) k d)) zero_at ∙ h.0))
      (λ h. let later = position-Some (s + 1) xs n d h.1 in
      let next : n - s ≡ suc (n - (s + 1)) = omega (arith, later.0) in
      (omega (arith, later.0), omega (arith, later.1), ap (λ k. t (get_or (x ∷ xs) k d)) next ∙ later.2))
      (some_parts (t x) s n (position_from t (s + 1) xs) e)

  -- where none is found no element passes
  pub position-None : (s : ℕ) (xs : List X) (i : ℕ) (d : X) → position_from t s xs ≡ None → i < length xs → t (get_or xs i d) ≡ false
  position-None s [] i d e lt = absurd (omega arith)
  position-None s (x ∷ xs) zero d e lt = (none_parts (t x) s (position_from t (s + 1) xs) e).0
  position-None s (x ∷ xs) (suc i) d e lt = position-None (s + 1) xs i d (none_parts (t x) s (position_from t (s + 1) xs) e).1 (omega arith)

  -- an element that passes as before
  pub position-set_same : (s : ℕ) (xs : List X) (i : ℕ) (y d : X) → i < length xs → t y ≡ t (get_or xs i d) → position_from t s (set xs i y) ≡ position_from t s xs
  position-set_same s [] i y d lt e = absurd (omega arith)
  position-set_same s (x ∷ xs) zero y d lt e = ap (λ b. cond b (Some s) (position_from t (s + 1) xs)) e
  position-set_same s (x ∷ xs) (suc i) y d lt e = ap (λ r. cond (t x) (Some s) r) (position-set_same (s + 1) xs i y d (omega arith) e)

  -- an element that passes where none did
  pub position-set_first : (s : ℕ) (xs : List X) (i : ℕ) (y : X) → position_from t s xs ≡ None → i < length xs → t y ≡ true → position_from t s (set xs i y) ≡ Some (s + i)
  position-set_first s [] i y e lt passes = absurd (omega arith)
  position-set_first s (x ∷ xs) zero y e lt passes = cond-true (t y) (Some s) (position_from t (s + 1) xs) passes ∙ ap Some (omega arith)
  position-set_first s (x ∷ xs) (suc i) y e lt passes =
      let parts = none_parts (t x) s (position_from t (s + 1) xs) e in
      cond-false (t x) (Some s) (position_from t (s + 1) (set xs i y)) parts.0 ∙ position-set_first (s + 1) xs i y parts.1 (omega arith) passes ∙ ap Some (omega arith)

  -- one more element at the end, after one that passes
  pub position-push_found : (s : ℕ) (xs : List X) (y : X) (n : ℕ) → position_from t s xs ≡ Some n → position_from t s (xs ++ y ∷ []) ≡ Some n
  position-push_found s [] y n e = absurd (cc)
  position-push_found s (x ∷ xs) y n e =
      ⊎_elim
      (λ h. cond-true (t x) (Some s) (position_from t (s + 1) (xs ++ y ∷ [])) h.0 ∙ ap Some h.1)
      (λ h. cond-false (t x) (Some s) (position_from t (s + 1) (xs ++ y ∷ [])) h.0 ∙ position-push_found (s + 1) xs y n h.1)
      (some_parts (t x) s n (position_from t (s + 1) xs) e)

  -- one more element at the end, where none passes before it
  pub position-push_first : (s : ℕ) (xs : List X) (y : X) → position_from t s xs ≡ None → position_from t s (xs ++ y ∷ []) ≡ cond (t y) (Some (s + length xs)) None
  position-push_first s [] y e = ap (λ n. cond (t y) (Some n) None) (omega arith)
  position-push_first s (x ∷ xs) y e =
      let parts = none_parts (t x) s (position_from t (s + 1) xs) e in
      cond-false (t x) (Some s) (position_from t (s + 1) (xs ++ y ∷ [])) parts.0 ∙ position-push_first (s + 1) xs y parts.1 ∙ ap (λ n. cond (t y) (Some n) None) (omega arith)

or_true : (b : Bool) → (b || true) ≡ true
or_true true = refl
or_true false = refl

or_false : (b : Bool) → (b || false) ≡ b
or_false true = refl
or_false false = refl

-- the names of the list get the number, and others keep theirs, where fresh names join a group
pub number_of-extend : (groups : Groups) (number : ℕ) (fresh : Group) (name : List ℕ) → 1 ≤ number → number ≤ length groups → (list_any (bytes_eq (folded name)) fresh ≡ true → number_of groups name ≡ None) → number_of (set groups (number - 1) (group_of groups number ++ fresh)) name ≡ cond (list_any (bytes_eq (folded name)) fresh) (Some number) (number_of groups name)
unfolding number_of
number_of-extend groups number fresh name low high unknown =
    let here : number - 1 < length groups = omega arith in
    let test = λ (group : Group). has_name group name in
    let group = group_of groups number in
    let both = list_any-append (bytes_eq (folded name)) group fresh in
    ⊎_elim
    (λ y. position-set_first test 1 groups (number - 1) (group ++ fresh) (unknown y) here (both ∙ ap (λ b. has_name group name || b) y ∙ or_true (has_name group name))
    ∙ ap Some (omega arith)
    ∙ sym (cond-true (list_any (bytes_eq (folded name)) fresh) (Some number) (position_from test 1 groups) y))
    (λ n. position-set_same test 1 groups (number - 1) (group ++ fresh) [] here (both ∙ ap (λ b. has_name group name || b) n ∙ or_false (has_name group name))
    ∙ sym (cond-false (list_any (bytes_eq (folded name)) fresh) (Some number) (position_from test 1 groups) n))
    (cases_Bool (list_any (bytes_eq (folded name)) fresh))

-- the same where they are a new group
pub number_of-new : (groups : Groups) (fresh : Group) (name : List ℕ) → (list_any (bytes_eq (folded name)) fresh ≡ true → number_of groups name ≡ None) → number_of (groups ++ fresh ∷ []) name ≡ cond (list_any (bytes_eq (folded name)) fresh) (Some (length groups + 1)) (number_of groups name)
unfolding number_of
number_of-new groups fresh name unknown = by (position_from (λ group. has_name group name) 1 groups) refl
  where
    by : (r : Option ℕ) → r ≡ position_from (λ group. has_name group name) 1 groups → position_from (λ group. has_name group name) 1 (groups ++ fresh ∷ []) ≡ cond (list_any (bytes_eq (folded name)) fresh) (Some (length groups + 1)) (position_from (λ group. has_name group name) 1 groups)
    by None is =
        position-push_first (λ group. has_name group name) 1 groups fresh (sym is)
        ∙ ap (λ n. cond (list_any (bytes_eq (folded name)) fresh) (Some n) None) (omega arith)
        ∙ ap (cond (list_any (bytes_eq (folded name)) fresh) (Some (length groups + 1))) is
    by (Some n) is =
        position-push_found (λ group. has_name group name) 1 groups fresh n (sym is)
        ∙ ⊎_elim
        (λ y. let nothing : Some n ≡ None = is ∙ unknown y in absurd (cc))
        (λ no. is ∙ sym (cond-false (list_any (bytes_eq (folded name)) fresh) (Some (length groups + 1)) (position_from (λ group. has_name group name) 1 groups) no))
        (cases_Bool (list_any (bytes_eq (folded name)) fresh))

-- whether a name is known, and whether the group has it, agree at each of the names
abbrev pub Agree : (List ℕ → Bool) → Group → List (List ℕ) → Type 0
Agree known group [] = Unit {0}
Agree known group (name ∷ names) = (known (folded name) ≡ has_name group name) × Agree known group names

-- names join a group as those that it lacks
joined_from : (known : List ℕ → Bool) (group fresh : Group) (names : List (List ℕ)) → Agree known group names → fold with_name (group ++ fresh) names ≡ group ++ fold (with_new known) fresh names
joined_from known group fresh [] h = refl
joined_from known group fresh (name ∷ names) h =
    let either = list_any-append (bytes_eq (folded name)) group fresh ∙ ap (λ b. b || has_name fresh name) (sym h.0) in
    ⊎_elim
    (λ y. ap (λ g. fold with_name g names) (ap (λ b. cond b (group ++ fresh) ((group ++ fresh) ++ folded name ∷ [])) (either ∙ y))
    ∙ joined_from known group fresh names h.1
    ∙ sym (ap (λ b. group ++ fold (with_new known) (cond b fresh (fresh ++ folded name ∷ [])) names) y))
    (λ n. ap (λ g. fold with_name g names) (ap (λ b. cond b (group ++ fresh) ((group ++ fresh) ++ folded name ∷ [])) (either ∙ n) ∙ append_assoc group fresh (folded name ∷ []))
    ∙ joined_from known group (fresh ++ folded name ∷ []) names h.1
    ∙ sym (ap (λ b. group ++ fold (with_new known) (cond b fresh (fresh ++ folded name ∷ [])) names) n))
    (cases_Bool (known (folded name) || has_name fresh name))

pub joined-new_names : (known : List ℕ → Bool) (group : Group) (names : List (List ℕ)) → Agree known group names → joined group names ≡ group ++ new_names known names
joined-new_names known group names h = ap (λ g. fold with_name g names) (sym (append-nil group)) ∙ joined_from known group [] names h
