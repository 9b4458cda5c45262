-- The index of a map has the numbers of its groups.
use Rattle.std.proofs.Common.{◌≡◌, ℕ, ◌<◌, ◌≤◌, true, false, cond, List, [], length, Option, None, Some, refl, sym, ap, ◌∙◌, ⊎_elim, arith}
use Rattle.std.specs.List.{list_any}
use Rattle.std.specs.Str.{bytes_eq}
use Rattle.std.specs.BTreeMap.{is_at}
use Rattle.std.specs.Map.{lookup}
use Rattle.std.specs.Cmp.Lexicographic.{slice_cmp}
use Rattle.std.specs.Ordering.{nat_cmp}
use Rattle.std.proofs.lemmas.Bool.{cases_Bool, cases_lt, cond-false}
use Rattle.ossl_names.specs.Name.{folded}
use Rattle.ossl_names.specs.Groups.{Group, Groups, number_of}
use Rattle.ossl_names.specs.Index.{Index, found, FindsAlso, FindsSame, AreNew, IsIndexed}
use Rattle.ossl_names.proofs.Finds.{length-folded}

pub number_of-none : (name : List ℕ) → number_of [] name ≡ None
unfolding number_of
number_of-none name = refl

pub IsIndexed-none : (groups : Groups) (index : Index) → groups ≡ [] → index.entries ≡ [] → IsIndexed groups index
IsIndexed-none groups index e f = record {
  exact = λ name. ap (λ es. lookup (is_at (λ key. slice_cmp nat_cmp (folded name) key.items)) es) f ∙ sym (ap (λ g. number_of g name) e ∙ number_of-none name);
  short = λ name _. ap (λ g. number_of g name) e ∙ number_of-none name;
}

pub IsIndexed-same : (groups : Groups) (old new : Index) → IsIndexed groups old → FindsSame old new → IsIndexed groups new
IsIndexed-same groups old new h s = record { exact = λ name. s.at (folded name) ∙ h.exact name; short = h.short }

-- fresh names are unknown to the groups, and longer ones are not among them
module _ (groups : Groups) (old : Index) (fresh : Group) (h : IsIndexed groups old) (n : AreNew old fresh) where
  pub unknown_name : (name : List ℕ) → list_any (bytes_eq (folded name)) fresh ≡ true → number_of groups name ≡ None
  unknown_name name e = sym (h.exact name) ∙ n.unknown (folded name) e

  long_name : (name : List ℕ) → 99 < length name → list_any (bytes_eq (folded name)) fresh ≡ false
  long_name name lt = ⊎_elim (λ y. absurd (omega (arith, n.short (folded name) y, length-folded name))) (λ no. no) (cases_Bool (list_any (bytes_eq (folded name)) fresh))

  -- the groups after fresh names got a number, and the index after that
  pub IsIndexed-also : (after : Groups) (number : ℕ) (new : Index) → ((name : List ℕ) → number_of after name ≡ cond (list_any (bytes_eq (folded name)) fresh) (Some number) (number_of groups name)) → FindsAlso old new fresh number → IsIndexed after new
  IsIndexed-also after number new step found_also = record {
    exact = λ name. found_also.at (folded name) ∙ ap (λ v. cond (list_any (bytes_eq (folded name)) fresh) (Some number) v) (h.exact name) ∙ sym (step name);
    short = λ name lt. step name ∙ cond-false (list_any (bytes_eq (folded name)) fresh) (Some number) (number_of groups name) (long_name name lt) ∙ h.short name lt;
  }

-- a look-up in the index, which tells longer names apart by their length
pub number-looked : (groups : Groups) (index : Index) (name : List ℕ) (r : Option ℕ) → IsIndexed groups index → (99 < length name → r ≡ None) → (length name ≤ 99 → r ≡ found index (folded name)) → r ≡ number_of groups name
number-looked groups index name r h long short = ⊎_elim (λ lt. long lt ∙ sym (h.short name lt)) (λ le. short le ∙ h.exact name) (cases_lt 99 (length name))
