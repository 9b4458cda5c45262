-- What a number says of the names that are to get it.
use Rattle.std.proofs.Common.{◌≡◌, ℕ, zero, suc, ◌+◌, ◌-◌, ◌<◌, ◌≤◌, ◌==◌, ◌&&◌, Bool, true, false, not, leb, eqb, cond, List, [], ◌∷◌, ◌++◌, length, set, get_or, take, drop, Option, None, Some, is_some, Result, Ok, Err, Bor, refl, sym, ap, ◌∙◌, ◌⊎◌, inl, inr, ⊎_elim, subst, arith}
use Rattle.std.specs.List.{list_any, list_all, cons_option, find, All}
use Rattle.std.specs.Str.{bytes_eq}
use Rattle.std.proofs.lemmas.Bool.{cases_Bool, cond-true, cond-false, false≢true, leb-true, le-leb}
use Rattle.std.proofs.lemmas.Bool.Decides.{Decides-eqb}
use Rattle.std.specs.Option.{option_or, IfSome}
use Rattle.std.proofs.lemmas.List.{length-map, length-set, length_push, take_more, take-append-drop}
use Rattle.std.proofs.Math.ListN.{get_or-map}
use Rattle.std.proofs.lemmas.List.Folds.{find-append}
use Rattle.std.proofs.lemmas.List.Elements.{filter_map-append}
use Rattle.ossl_names.specs.declared.refusal.AddRefused.{AddRefused}
use Rattle.ossl_names.specs.declared.refusal.AddRefused.TheVariants.{BadName, Conflict}
use Rattle.ossl_names.specs.Name.{folded, is_name, is_name_byte}
use Rattle.ossl_names.specs.Groups.{Group, Groups, has_name, number_of, known_numbers, joined, group_of, with_names, IsNumber}
use Rattle.ossl_names.specs.Addition.{number_for, common_number, unless_other}
use Rattle.ossl_names.specs.Index.{Index, is_found, new_names, FindsAlso, AreNew, IsIndexed}
use Rattle.ossl_names.proofs.Finds.{values}
use Rattle.ossl_names.proofs.Groups.{Agree, position-Some, position-None, number_of-extend, number_of-new, joined-new_names}
use Rattle.ossl_names.proofs.Indexed.{unknown_name, IsIndexed-also}

checked : (b : Bool) (r : Result ℕ AddRefused) (number : ℕ) → cond b r (Err BadName) ≡ Ok number → (b ≡ true) × (r ≡ Ok number)
checked true r number e = (refl, e)
checked false r number e = absurd (cc)

pub number_for-Ok : (groups : Groups) (names : List (List ℕ)) (number : ℕ) → number_for groups names ≡ Ok number → (list_all is_name names ≡ true) × (common_number (length groups + 1) (known_numbers groups names) ≡ Ok number)
unfolding number_for
number_for-Ok groups names number e = checked (list_all is_name names) (common_number (length groups + 1) (known_numbers groups names)) number e

pub number_for-bad : (groups : Groups) (names : List (List ℕ)) → list_all is_name names ≡ false → number_for groups names ≡ Err BadName
unfolding number_for
number_for-bad groups names e = cond-false (list_all is_name names) (common_number (length groups + 1) (known_numbers groups names)) (Err BadName) e

pub number_for-good : (groups : Groups) (names : List (List ℕ)) → list_all is_name names ≡ true → number_for groups names ≡ common_number (length groups + 1) (known_numbers groups names)
unfolding number_for
number_for-good groups names e = cond-true (list_all is_name names) (common_number (length groups + 1) (known_numbers groups names)) (Err BadName) e

both_true : (a b : Bool) → (a && b) ≡ true → (a ≡ true) × (b ≡ true)
both_true true b e = (refl, e)
both_true false b e = absurd (false≢true e)

-- a name has at most 99 bytes
short_name : (name : List ℕ) → is_name name ≡ true → length name ≤ 99
short_name name e = leb-true (length name) 99 (both_true (leb 1 (length name)) (leb (length name) 99) (both_true (leb 1 (length name) && leb (length name) 99) (list_all is_name_byte name) e).0).1

pub short_names : (names : List (Bor (List ℕ))) → list_all is_name (values names) ≡ true → All (λ name. length name.now ≤ 99) names
short_names [] e k d lt = absurd (omega arith)
short_names (name ∷ names) e zero d lt = short_name name.now (both_true (is_name name.now) (list_all is_name (values names)) e).0
short_names (name ∷ names) e (suc k) d lt = short_names names (both_true (is_name name.now) (list_all is_name (values names)) e).1 k d (omega arith)

-- each number is that one
abbrev AllSame : ℕ → List ℕ → Type 0
AllSame number [] = Unit {0}
AllSame number (k ∷ ks) = (k ≡ number) × AllSame number ks

no_other : (b : Bool) (x : ℕ) (r : Option ℕ) → cond (not b) (Some x) r ≡ None → (b ≡ true) × (r ≡ None)
no_other true x r e = (refl, e)
no_other false x r e = absurd (cc)

AllSame-from_find : (first : ℕ) (later : List ℕ) → find (λ number. not (number == first)) later ≡ None → AllSame first later
AllSame-from_find first [] e = tt
AllSame-from_find first (x ∷ later) e =
    let parts = no_other (eqb x first) x (find (λ number. not (number == first)) later) e in
    ((Decides-eqb x first).0 parts.0, AllSame-from_find first later parts.1)

agreed : (first number : ℕ) (r : Option ℕ) → unless_other first r ≡ Ok number → (first ≡ number) × (r ≡ None)
agreed first number None e = (cc, refl)
agreed first number (Some second) e = absurd (cc)

common-Ok : (new : ℕ) (ks : List ℕ) (number : ℕ) → common_number new ks ≡ Ok number → AllSame number ks
common-Ok new [] number e = tt
common-Ok new (first ∷ later) number e =
    let parts = agreed first number (find (λ number. not (number == first)) later) e in
    (parts.0, subst (λ n. AllSame n later) parts.0 (AllSame-from_find first later parts.1))

-- each name is unknown or has that number
abbrev Joins : Groups → ℕ → List (List ℕ) → Type 0
Joins groups number [] = Unit {0}
Joins groups number (name ∷ names) = ((number_of groups name ≡ None) ⊎ (number_of groups name ≡ Some number)) × Joins groups number names

Joins-from_known : (groups : Groups) (number : ℕ) (names : List (List ℕ)) → AllSame number (known_numbers groups names) → Joins groups number names
Joins-from_known groups number [] h = tt
Joins-from_known groups number (name ∷ names) h =
    let parts = by (number_of groups name) refl h in
    (parts.0, Joins-from_known groups number names parts.1)
  where
    by : (r : Option ℕ) → r ≡ number_of groups name → AllSame number (cons_option r (known_numbers groups names)) → ((number_of groups name ≡ None) ⊎ (number_of groups name ≡ Some number)) × AllSame number (known_numbers groups names)
    by None is h = (inl (sym is), h)
    by (Some n) is h = (inr (sym is ∙ ap Some h.0), h.1)

-- each number is that of a group
abbrev AllThere : ℕ → List ℕ → Type 0
AllThere count [] = Unit {0}
AllThere count (k ∷ ks) = (1 ≤ k) × (k ≤ count) × AllThere count ks

pub number_of-range : (groups : Groups) (name : List ℕ) (n : ℕ) → number_of groups name ≡ Some n → (1 ≤ n) × (n ≤ length groups) × (has_name (group_of groups n) name ≡ true)
unfolding number_of
number_of-range groups name n e =
    let h = position-Some (λ group. has_name group name) 1 groups n [] e in
    (h.0, omega (arith, h.1), h.2)

number_of-None : (groups : Groups) (name : List ℕ) (n : ℕ) → number_of groups name ≡ None → 1 ≤ n → n ≤ length groups → has_name (group_of groups n) name ≡ false
unfolding number_of
number_of-None groups name n e low high = position-None (λ group. has_name group name) 1 groups (n - 1) [] e (omega arith)

AllThere-known : (groups : Groups) (names : List (List ℕ)) → AllThere (length groups) (known_numbers groups names)
AllThere-known groups [] = tt
AllThere-known groups (name ∷ names) = by (number_of groups name) refl (AllThere-known groups names)
  where
    by : (r : Option ℕ) → r ≡ number_of groups name → AllThere (length groups) (known_numbers groups names) → AllThere (length groups) (cons_option r (known_numbers groups names))
    by None is h = h
    by (Some n) is h = let range = number_of-range groups name n (sym is) in (range.0, range.1, h)

-- the number is that of a group, or none of the names is known and it is the next one
number_range : (count : ℕ) (ks : List ℕ) (number : ℕ) → common_number (count + 1) ks ≡ Ok number → AllThere count ks → ((1 ≤ number) × (number ≤ count)) ⊎ ((ks ≡ []) × (number ≡ count + 1))
number_range count [] number e h = inr (refl, cc)
number_range count (first ∷ later) number e h =
    let same = (common-Ok (count + 1) (first ∷ later) number e).0 in
    inl (omega (arith, same, h.0), omega (arith, same, h.1))

none_first : (r : Option ℕ) (ks : List ℕ) → cons_option r ks ≡ [] → (r ≡ None) × (ks ≡ [])
none_first None ks e = (refl, e)
none_first (Some n) ks e = absurd (cc)

-- a test of folded names that tells which names the groups know
abbrev pub TellsKnown : Groups → (List ℕ → Bool) → Type 0
TellsKnown groups known = (name : List ℕ) → known (folded name) ≡ is_some (number_of groups name)

module _ (groups : Groups) (known : List ℕ → Bool) (tells : TellsKnown groups known) where
  known-is : (name : List ℕ) (r : Option ℕ) → number_of groups name ≡ r → known (folded name) ≡ is_some r
  known-is name r e = tells name ∙ ap is_some e

  Agree-there : (number : ℕ) (names : List (List ℕ)) → 1 ≤ number → number ≤ length groups → Joins groups number names → Agree known (group_of groups number) names
  Agree-there number [] low high j = tt
  Agree-there number (name ∷ names) low high j = (
    ⊎_elim
        (λ none. known-is name None none ∙ sym (number_of-None groups name number none low high))
        (λ some. known-is name (Some number) some ∙ sym (number_of-range groups name number some).2)
        j.0,
    Agree-there number names low high j.1,
  )

  Agree-new : (names : List (List ℕ)) → known_numbers groups names ≡ [] → Agree known [] names
  Agree-new [] e = tt
  Agree-new (name ∷ names) e =
      let parts = none_first (number_of groups name) (known_numbers groups names) e in
      (known-is name None parts.0, Agree-new names parts.1)

pub with_names-there : (groups : Groups) (number : ℕ) (names : List (List ℕ)) → number ≤ length groups → with_names groups number names ≡ set groups (number - 1) (joined (group_of groups number) names)
unfolding with_names
with_names-there groups number names le = cond-true (leb number (length groups)) (set groups (number - 1) (joined (group_of groups number) names)) (groups ++ joined [] names ∷ []) (le-leb number (length groups) le)

pub with_names-new : (groups : Groups) (number : ℕ) (names : List (List ℕ)) → length groups < number → with_names groups number names ≡ groups ++ joined [] names ∷ []
unfolding with_names
with_names-new groups number names lt =
    ⊎_elim
    (λ y. absurd (omega (arith, leb-true number (length groups) y)))
    (λ n. cond-false (leb number (length groups)) (set groups (number - 1) (joined (group_of groups number) names)) (groups ++ joined [] names ∷ []) n)
    (cases_Bool (leb number (length groups)))

-- the number is not 0
pub number_for-positive : (groups : Groups) (names : List (List ℕ)) (number : ℕ) → number_for groups names ≡ Ok number → 1 ≤ number
number_for-positive groups names number e =
    ⊎_elim (λ there. there.0) (λ new. omega (arith, new.1)) (number_range (length groups) (known_numbers groups names) number (number_for-Ok groups names number e).1 (AllThere-known groups names))

-- the number that names got is one of those afterwards
pub IsNumber-after : (groups : Groups) (names : List (List ℕ)) (number : ℕ) → number_for groups names ≡ Ok number → IsNumber (with_names groups number names) number
IsNumber-after groups names number e = (
  number_for-positive groups names number e,
  ⊎_elim
      (λ there. let le : number ≤ length groups = there.1 in omega (arith, ap length (with_names-there groups number names le), length-set groups (number - 1) (joined (group_of groups number) names)))
      (λ new. let next : number ≡ length groups + 1 = new.1 in let lt : length groups < number = omega arith in omega (arith, ap length (with_names-new groups number names lt), length_push groups (joined [] names)))
      (number_range (length groups) (known_numbers groups names) number (number_for-Ok groups names number e).1 (AllThere-known groups names)),
)

-- a number that was found is one of the groups'
pub IsNumber-found : (groups : Groups) (name : List ℕ) (r : Option ℕ) → r ≡ number_of groups name → IfSome r (IsNumber groups)
IsNumber-found groups name None e = tt
IsNumber-found groups name (Some n) e = let range = number_of-range groups name n (sym e) in (range.0, range.1)

module _ (groups : Groups) (known : List ℕ → Bool) (tells : TellsKnown groups known) (names : List (List ℕ)) (number : ℕ) (e : number_for groups names ≡ Ok number) where
  -- the names join a group that is there
  pub with_names-joined : number ≤ length groups → with_names groups number names ≡ set groups (number - 1) (group_of groups number ++ new_names known names)
  with_names-joined le =
      let joins = Joins-from_known groups number names (common-Ok (length groups + 1) (known_numbers groups names) number (number_for-Ok groups names number e).1) in
      let agree = Agree-there groups known tells number names (number_for-positive groups names number e) le joins in
      with_names-there groups number names le ∙ ap (set groups (number - 1)) (joined-new_names known (group_of groups number) names agree)

  -- the names are a new group
  pub with_names-added : length groups < number → (with_names groups number names ≡ groups ++ new_names known names ∷ []) × (number ≡ length groups + 1)
  with_names-added lt =
      let range = number_range (length groups) (known_numbers groups names) number (number_for-Ok groups names number e).1 (AllThere-known groups names) in
      let none : (known_numbers groups names ≡ []) × (number ≡ length groups + 1) = ⊎_elim (λ there. absurd (omega (arith, there.1))) (λ none. none) range in
      let agree = Agree-new groups known tells names none.0 in
      (with_names-new groups number names lt ∙ ap (λ g. groups ++ g ∷ []) (joined-new_names known [] names agree), none.1)

module _ (groups : Groups) (old new : Index) (names : List (List ℕ)) (number : ℕ) (fresh : Group) (h : IsIndexed groups old) (e : number_for groups names ≡ Ok number) (f : fresh ≡ new_names (is_found old) names) (also : FindsAlso old new fresh number) (n : AreNew old fresh) where
  tells_found : TellsKnown groups (is_found old)
  tells_found name = ap is_some (h.exact name)

  pub joined-there : number ≤ length groups → (with_names groups number names ≡ set groups (number - 1) (group_of groups number ++ fresh)) × IsIndexed (set groups (number - 1) (group_of groups number ++ fresh)) new
  joined-there le = (
    with_names-joined groups (is_found old) tells_found names number e le ∙ ap (λ (g : Group). set groups (number - 1) (group_of groups number ++ g)) (sym f),
    IsIndexed-also groups old fresh h n (set groups (number - 1) (group_of groups number ++ fresh)) number new (λ name. number_of-extend groups number fresh name (number_for-positive groups names number e) le (unknown_name groups old fresh h n name)) also,
  )

  pub joined-new : length groups < number → (with_names groups number names ≡ groups ++ fresh ∷ []) × IsIndexed (groups ++ fresh ∷ []) new
  joined-new lt =
      let added = with_names-added groups (is_found old) tells_found names number e lt in (
        added.0 ∙ ap (λ (g : Group). groups ++ g ∷ []) (sym f),
        IsIndexed-also groups old fresh h n (groups ++ fresh ∷ []) number new (λ name. number_of-new groups fresh name (unknown_name groups old fresh h n name) ∙ ap (λ k. cond (list_any (bytes_eq (folded name)) fresh) (Some k) (number_of groups name)) (sym added.1)) also,
      )

-- ---- the common number, name by name

-- the number that stands first
abbrev pub first_of : List ℕ → Option ℕ
first_of [] = None
first_of (k ∷ ks) = Some k

one_known : (groups : Groups) (r : Option ℕ) (name : List ℕ) → number_of groups name ≡ r → known_numbers groups (name ∷ []) ≡ cons_option r []
one_known groups r name e = ap (λ o. cons_option o []) e

pub known-more : (groups : Groups) (names : List (Bor (List ℕ))) (i : ℕ) (d : Bor (List ℕ)) (r : Option ℕ) → i < length names → number_of groups (get_or names i d).now ≡ r → known_numbers groups (take (i + 1) (values names)) ≡ known_numbers groups (take i (values names)) ++ cons_option r []
known-more groups names i d r lt e =
    ap (known_numbers groups) (take_more (values names) i d.now (omega (arith, length-map names (λ (n : Bor (List ℕ)). n.now))))
    ∙ filter_map-append (number_of groups) (take i (values names)) (get_or (values names) i d.now ∷ [])
    ∙ ap (λ (ks : List ℕ). known_numbers groups (take i (values names)) ++ ks) (one_known groups r (get_or (values names) i d.now) (ap (number_of groups) (get_or-map (λ (n : Bor (List ℕ)). n.now) names i d) ∙ e))

pub known-whole : (groups : Groups) (names : List (List ℕ)) (i : ℕ) → known_numbers groups names ≡ known_numbers groups (take i names) ++ known_numbers groups (drop i names)
known-whole groups names i = ap (known_numbers groups) (sym (take-append-drop i names)) ∙ filter_map-append (number_of groups) (take i names) (drop i names)

none_known : (ks : List ℕ) → None ≡ first_of ks → ks ≡ []
none_known [] e = refl
none_known (k ∷ ks) e = absurd (cc)

-- the first known number
pub common-first : (new : ℕ) (ks : List ℕ) (n : ℕ) → None ≡ first_of ks → (Some n ≡ first_of (ks ++ n ∷ [])) × (common_number new (ks ++ n ∷ []) ≡ Ok n)
common-first new [] n e = (refl, refl)
common-first new (k ∷ ks) n e = absurd (cc)

found_later : (first n : ℕ) (later rest : List ℕ) → find (λ number. not (number == first)) later ≡ None → find (λ number. not (number == first)) (later ++ n ∷ rest) ≡ cond (not (n == first)) (Some n) (find (λ number. not (number == first)) rest)
found_later first n later rest e = find-append (λ number. not (number == first)) later (n ∷ rest) ∙ ap (λ o. option_or o (cond (not (n == first)) (Some n) (find (λ number. not (number == first)) rest))) e

-- the same number again
pub common-again : (new : ℕ) (ks : List ℕ) (k n : ℕ) → Some k ≡ first_of ks → common_number new ks ≡ Ok k → k ≡ n → (Some k ≡ first_of (ks ++ n ∷ [])) × (common_number new (ks ++ n ∷ []) ≡ Ok k)
common-again new [] k n e c same = absurd (cc)
common-again new (first ∷ later) k n e c same =
    let parts = agreed first k (find (λ number. not (number == first)) later) c in
    let equal : eqb n first ≡ true = (Decides-eqb n first).1 (sym same ∙ sym parts.0) in
    (e, ap (unless_other first) (found_later first n later [] parts.1 ∙ ap (λ b. cond (not b) (Some n) None) equal) ∙ ap Ok parts.0)

-- another number
pub common-other : (new : ℕ) (ks : List ℕ) (k n : ℕ) (rest : List ℕ) → Some k ≡ first_of ks → common_number new ks ≡ Ok k → (k ≡ n → ⊥) → common_number new (ks ++ n ∷ rest) ≡ Err (Conflict k n)
common-other new [] k n rest e c other = absurd (cc)
common-other new (first ∷ later) k n rest e c other =
    let parts = agreed first k (find (λ number. not (number == first)) later) c in
    let differ : eqb n first ≡ false = ⊎_elim (λ y. absurd (other (sym parts.0 ∙ sym ((Decides-eqb n first).0 y)))) (λ no. no) (cases_Bool (eqb n first)) in
    ap (unless_other first) (found_later first n later rest parts.1 ∙ ap (λ b. cond (not b) (Some n) (find (λ number. not (number == first)) rest)) differ) ∙ ap (λ f. Err (Conflict f n)) parts.0

pub none_from_not : {X : Type 0} (o : Option X) → ((x : X) → o ≡ Some x → ⊥) → o ≡ None
none_from_not None h = refl
none_from_not (Some x) h = absurd (h x refl)
