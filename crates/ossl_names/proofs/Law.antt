-- A number once given stays that of its names, and its group keeps them.
use Rattle.std.proofs.Common.{◌≡◌, ℕ, ◌+◌, ◌-◌, ◌<◌, ◌≤◌, Bool, true, false, ◌||◌, eqb, cond, List, [], ◌∷◌, ◌++◌, length, set, get_or, fold, Option, None, Some, is_some, Result, Ok, Err, refl, sym, ap, ◌∙◌, ⊎_elim, subst, arith}
use Rattle.std.specs.List.{list_any, position_from}
use Rattle.std.specs.Str.{bytes_eq}
use Rattle.std.proofs.lemmas.Bool.{cases_Bool, cases_lt, false≢true}
use Rattle.std.proofs.lemmas.Bool.Decides.{Decides-eqb}
use Rattle.std.proofs.lemmas.List.{get_or-set_same, get_or-set_other, append-nil}
use Rattle.std.proofs.lemmas.Grind.{common_steps}
use Rattle.ossl_names.specs.declared.refusal.AddRefused.{AddRefused}
use Rattle.ossl_names.specs.Name.{folded}
use Rattle.ossl_names.specs.Groups.{Group, Groups, has_name, number_of, group_of, with_names, KeepsNumbers}
use Rattle.ossl_names.specs.Addition.{number_for, groups_by}
use Rattle.ossl_names.specs.Index.{with_new, new_names}
use Rattle.ossl_names.proofs.Finds.{push_cases, none_from}
use Rattle.ossl_names.proofs.Groups.{number_of-extend, number_of-new}
use Rattle.ossl_names.proofs.Addition.{TellsKnown, number_for-positive, with_names-joined, with_names-added}

-- whether a group has the name in lower case
abbrev knows : Groups → List ℕ → Bool
knows groups name = is_some (position_from (λ group. list_any (bytes_eq name) group) 1 groups)

knows-tells : (groups : Groups) → TellsKnown groups (knows groups)
unfolding number_of
knows-tells groups name = refl

neither : (a b : Bool) → (a || b) ≡ false → a ≡ false
neither true b e = e
neither false b e = refl

-- names that are new are not known
new_from : (known : List ℕ → Bool) (fresh : Group) (names : List (List ℕ)) → ((f : List ℕ) → list_any (bytes_eq f) fresh ≡ true → known f ≡ false) → (f : List ℕ) → list_any (bytes_eq f) (fold (with_new known) fresh names) ≡ true → known f ≡ false
new_from known fresh [] h f e = h f e
new_from known fresh (name ∷ names) h f e =
    ⊎_elim
    (λ y. new_from known fresh names h f (sym (ap (λ b. list_any (bytes_eq f) (fold (with_new known) (cond b fresh (fresh ++ folded name ∷ [])) names)) y) ∙ e))
    (λ n. new_from known (fresh ++ folded name ∷ []) names (λ g m. ⊎_elim (h g) (λ same. ap known same ∙ neither (known (folded name)) (has_name fresh name) n) (push_cases g (folded name) fresh m)) f
    (sym (ap (λ b. list_any (bytes_eq f) (fold (with_new known) (cond b fresh (fresh ++ folded name ∷ [])) names)) n) ∙ e))
    (cases_Bool (known (folded name) || has_name fresh name))

new_unknown : (groups : Groups) (names : List (List ℕ)) (name : List ℕ) → list_any (bytes_eq (folded name)) (new_names (knows groups) names) ≡ true → number_of groups name ≡ None
new_unknown groups names name e = none_from (number_of groups name) (sym (knows-tells groups name) ∙ new_from (knows groups) [] names (λ f m. absurd (false≢true m)) (folded name) e)

stays : (b : Bool) (r : Option ℕ) (number k : ℕ) → (b ≡ true → r ≡ None) → r ≡ Some k → cond b (Some number) r ≡ Some k
stays true r number k h e = let nothing : None ≡ Some k = sym (h refl) ∙ e in absurd (cc)
stays false r number k h e = e

get_or-front : (groups : Groups) (group : Group) (i : ℕ) → i < length groups → get_or (groups ++ group ∷ []) i [] ≡ get_or groups i []
get_or-front groups group i lt = grind (arith, common_steps)

module _ (groups : Groups) (names : List (List ℕ)) (number : ℕ) (e : number_for groups names ≡ Ok number) where
  keeps_there : number ≤ length groups → KeepsNumbers groups (with_names groups number names)
  keeps_there le =
      let fresh = new_names (knows groups) names in
      let low = number_for-positive groups names number e in
      let after = with_names-joined groups (knows groups) (knows-tells groups) names number e le in
      subst (λ (g : Groups). KeepsNumbers groups g) (sym after) (record {
        numbers = λ name k h. number_of-extend groups number fresh name low le (new_unknown groups names name) ∙ stays (list_any (bytes_eq (folded name)) fresh) (number_of groups name) number k (new_unknown groups names name) h;
        groups = λ m there. ⊎_elim
            (λ y. let same : m ≡ number = (Decides-eqb m number).0 y in
            (fresh, ap (λ (k : ℕ). group_of (set groups (number - 1) (group_of groups number ++ fresh)) k) same ∙ get_or-set_same groups (number - 1) (group_of groups number ++ fresh) [] (omega arith) ∙ ap (λ (k : ℕ). group_of groups k ++ fresh) (sym same)))
            (λ n. ([], get_or-set_other groups (number - 1) (m - 1) (group_of groups number ++ fresh) [] (λ same. false≢true (sym n ∙ (Decides-eqb m number).1 (omega (arith, there.0)))) ∙ sym (append-nil (group_of groups m))))
            (cases_Bool (eqb m number));
      })

  keeps_new : length groups < number → KeepsNumbers groups (with_names groups number names)
  keeps_new lt =
      let fresh = new_names (knows groups) names in
      let after = with_names-added groups (knows groups) (knows-tells groups) names number e lt in
      subst (λ (g : Groups). KeepsNumbers groups g) (sym after.0) (record {
        numbers = λ name k h. number_of-new groups fresh name (new_unknown groups names name) ∙ stays (list_any (bytes_eq (folded name)) fresh) (number_of groups name) (length groups + 1) k (new_unknown groups names name) h;
        groups = λ m there. ([], get_or-front groups fresh (m - 1) (omega (arith, there.0, there.1)) ∙ sym (append-nil (group_of groups m)));
      })

pub KeepsNumbers-same : (groups : Groups) → KeepsNumbers groups groups
KeepsNumbers-same groups = record { numbers = λ name k h. h; groups = λ m there. ([], sym (append-nil (group_of groups m))) }

-- whatever names are added, and whether they are refused
pub KeepsNumbers-after : (groups : Groups) (names : List (List ℕ)) → KeepsNumbers groups (groups_by groups names (number_for groups names))
KeepsNumbers-after groups names = by (number_for groups names) refl
  where
    by : (r : Result ℕ AddRefused) → r ≡ number_for groups names → KeepsNumbers groups (groups_by groups names r)
    by (Ok number) is = ⊎_elim (keeps_new groups names number (sym is)) (keeps_there groups names number (sym is)) (cases_lt (length groups) number)
    by (Err refused) is = KeepsNumbers-same groups
