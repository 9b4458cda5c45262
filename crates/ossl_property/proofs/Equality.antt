-- The test of two queries holds where they are equal, and only there.
use Rattle.std.proofs.Common.{◌≡◌, ◌≢◌, refl, ap, Bool, true, false, ◌&&◌, List, [], ◌∷◌, length, arith}
use Rattle.std.specs.Bool.{Decides}
use Rattle.std.specs.List.{list_all, zip}
use Rattle.std.specs.Ordering.{int_eq}
use Rattle.std.specs.Str.{bytes_eq}
use Rattle.std.proofs.lemmas.Bool.Decides.{Decides-and, Decides-like, Decides-int_eq}
use Rattle.std.proofs.lemmas.Slice.Eq.{slice_eq-Decides, bytes_eq-Decides}
use Rattle.ossl_property.specs.declared.clause.Relation.{Relation}
use Rattle.ossl_property.specs.declared.clause.Relation.TheVariants.{Equal, Differ, Remove}
use Rattle.ossl_property.specs.declared.clause.Value.{Value}
use Rattle.ossl_property.specs.declared.clause.Value.TheVariants.{Number, Text}
use Rattle.ossl_property.specs.declared.clause.Clause.{Clause}
use Rattle.ossl_property.specs.Choosing.{is_same}
use Rattle.ossl_property.specs.Same.{same_relation, same_need, same_clause, same_query}

relation_Decides : (a b : Relation) → Decides (same_relation a b) (a ≡ b)
relation_Decides Equal Equal = ((λ _. refl), (λ _. refl))
relation_Decides Differ Differ = ((λ _. refl), (λ _. refl))
relation_Decides Remove Remove = ((λ _. refl), (λ _. refl))
relation_Decides Equal Differ = ((λ e. cc), (λ e. cc))
relation_Decides Equal Remove = ((λ e. cc), (λ e. cc))
relation_Decides Differ Equal = ((λ e. cc), (λ e. cc))
relation_Decides Differ Remove = ((λ e. cc), (λ e. cc))
relation_Decides Remove Equal = ((λ e. cc), (λ e. cc))
relation_Decides Remove Differ = ((λ e. cc), (λ e. cc))

need_Decides : (a b : Bool) → Decides (same_need a b) (a ≡ b)
need_Decides true true = ((λ _. refl), (λ _. refl))
need_Decides true false = ((λ e. cc), (λ e. cc))
need_Decides false true = ((λ e. cc), (λ e. cc))
need_Decides false false = ((λ _. refl), (λ _. refl))

value_Decides : (a b : Value) → Decides (is_same a b) (a ≡ b)
value_Decides (Number m) (Number n) = Decides-like (int_eq m n) (ap Number) (λ e. cc) (Decides-int_eq m n)
value_Decides (Text s) (Text t) = Decides-like (bytes_eq s t) (ap Text) (λ e. cc) (bytes_eq-Decides s t)
value_Decides (Number m) (Text t) = ((λ e. cc), (λ e. cc))
value_Decides (Text s) (Number n) = ((λ e. cc), (λ e. cc))

clause_Decides : (a b : Clause) → Decides (same_clause a b) (a ≡ b)
clause_Decides a b =
    let names = bytes_eq-Decides a.name b.name in
    let relations = relation_Decides a.relation b.relation in
    let values = value_Decides a.value b.value in
    let needs = need_Decides a.optional b.optional in
    let parts = Decides-and (bytes_eq a.name b.name && same_relation a.relation b.relation && is_same a.value b.value) (same_need a.optional b.optional)
    (Decides-and (bytes_eq a.name b.name && same_relation a.relation b.relation) (is_same a.value b.value)
    (Decides-and (bytes_eq a.name b.name) (same_relation a.relation b.relation) names relations) values) needs in
    Decides-like (same_clause a b)
    (λ p. λ i. record { name = p.0.0.0 i; relation = p.0.0.1 i; value = p.0.1 i; optional = p.1 i })
    (λ e. (((ap (λ c. c.name) e, ap (λ c. c.relation) e), ap (λ c. c.value) e), ap (λ c. c.optional) e)) parts

-- the test of two queries holds exactly of equal ones
pub query_Decides : (xs ys : List Clause) (r : Bool) → r ≡ same_query xs ys → Decides r (xs ≡ ys)
query_Decides = slice_eq-Decides clause_Decides

-- of lists of one length it is the test of each pair
pub same_query-zip : (xs ys : List Clause) → length xs ≡ length ys → list_all (λ p. same_clause p.0 p.1) (zip xs ys) ≡ same_query xs ys
same_query-zip [] [] e = refl
same_query-zip [] (y ∷ ys) e = absurd (omega arith)
same_query-zip (x ∷ xs) [] e = absurd (omega arith)
same_query-zip (x ∷ xs) (y ∷ ys) e = ap (λ b. same_clause x y && b) (same_query-zip xs ys (omega arith))

-- and of lists of two lengths it fails
pub same_query-lengths : (xs ys : List Clause) → length xs ≢ length ys → same_query xs ys ≡ false
same_query-lengths [] [] e = absurd (e refl)
same_query-lengths [] (y ∷ ys) e = refl
same_query-lengths (x ∷ xs) [] e = refl
same_query-lengths (x ∷ xs) (y ∷ ys) e = rw (same_query-lengths xs ys (λ q. e (omega arith))) (and_false (same_clause x y))
  where
    and_false : (b : Bool) → (b && false) ≡ false
    and_false true = refl
    and_false false = refl
