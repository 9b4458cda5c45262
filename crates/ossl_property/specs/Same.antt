-- Which queries are equal (property(7)).
use Rattle.std.specs.Prelude.{Bool, true, false, not, ◌&&◌, List, if◌then◌else◌}
use Rattle.std.specs.Cmp.Lexicographic.{pointwise}
use Rattle.std.specs.Str.{bytes_eq}
use Rattle.ossl_property.specs.declared.clause.Relation.{Relation}
use Rattle.ossl_property.specs.declared.clause.Relation.TheVariants.{Equal, Differ, Remove}
use Rattle.ossl_property.specs.declared.clause.Clause.{Clause}
use Rattle.ossl_property.specs.Choosing.{is_same}

-- the same operator
abbrev pub same_relation : Relation → Relation → Bool
same_relation Equal Equal = true
same_relation Differ Differ = true
same_relation Remove Remove = true
same_relation a b = false

-- both optional, or both mandatory
abbrev pub same_need : Bool → Bool → Bool
same_need a b = if a then b else not b

-- the same name, operator and value, and both optional or both mandatory
abbrev pub same_clause : Clause → Clause → Bool
same_clause a b = bytes_eq a.name b.name && same_relation a.relation b.relation && is_same a.value b.value && same_need
    a.optional b.optional

-- the same clauses in the same order
abbrev pub same_query : List Clause → List Clause → Bool
same_query = pointwise same_clause
