-- Merging and scores, after property(7).
use Rattle.std.specs.Prelude.{◌≡◌, ℕ, Bool, true, false, not, ◌&&◌, Option, Some, None, List, [], ◌∷◌, ◌++◌, filter}
use Rattle.std.specs.Prelude.{count_by, find, if◌then◌else◌}
use Rattle.std.specs.List.{list_any, AllByRecursion}
use Rattle.std.specs.Option.{option_map}
use Rattle.std.specs.Ordering.{int_eq}
use Rattle.std.specs.Str.{bytes_eq}
use Rattle.ossl_property.specs.declared.clause.Value.{Value}
use Rattle.ossl_property.specs.declared.clause.Value.TheVariants.{Number, Text}
use Rattle.ossl_property.specs.declared.clause.Relation.{Relation}
use Rattle.ossl_property.specs.declared.clause.Relation.TheVariants.{Equal, Differ, Remove}
use Rattle.ossl_property.specs.declared.clause.Property.{Property}
use Rattle.ossl_property.specs.declared.clause.Clause.{Clause}
use Rattle.ossl_property.specs.Grammar.{mentions}

abbrev pub is_kept : Relation → Bool
is_kept Remove = false
is_kept relation = true

-- a clause that is no removal
abbrev pub asks : Clause → Bool
asks clause = is_kept clause.relation

-- the given clauses that ask, and then the default's that ask and whose name the given query does not mention, in a
-- clause or a removal
abbrev pub merged : List Clause → List Clause → List Clause
merged given defaults = filter asks given ++ filter (λ clause. asks clause && not (mentions given clause.name)) defaults

-- numbers are equal as numbers, strings byte by byte, and a number and a string never
abbrev pub is_same : Value → Value → Bool
is_same (Number m) (Number n) = int_eq m n
is_same (Text s) (Text t) = bytes_eq s t
is_same v w = false

-- the operator, where the two values are equal or not
abbrev pub holds : Relation → Bool → Bool
holds Equal equal = equal
holds Differ equal = not equal
holds Remove equal = false

-- a definition's value of a name
abbrev pub value_of : List Property → List ℕ → Option Value
value_of definition name =
    option_map (λ property. property.value) (find (λ property. bytes_eq property.name name) definition)

-- an absent property counts as `no` for a string; a number on it is met under neither operator
abbrev pub is_met_by : Relation → Value → Option Value → Bool
is_met_by relation wanted (Some value) = holds relation (is_same value wanted)
is_met_by relation (Text wanted) None = holds relation (bytes_eq (110 ∷ 111 ∷ []) wanted)
is_met_by relation (Number wanted) None = false

-- the definition meets the clause
abbrev pub is_met : List Property → Clause → Bool
is_met definition clause = is_met_by clause.relation clause.value (value_of definition clause.name)

-- a mandatory clause that is not met
abbrev pub refuses : List Property → Clause → Bool
refuses definition clause = asks clause && not clause.optional && not (is_met definition clause)

-- an optional clause that is met
abbrev pub counts : List Property → Clause → Bool
counts definition clause = asks clause && clause.optional && is_met definition clause

-- none where a mandatory clause is not met, and else the number of optional clauses that are; removals are passed over
abbrev pub score_of : List Property → List Clause → Option ℕ
score_of definition query =
    if list_any (refuses definition) query then None else Some (count_by (counts definition) query)

-- the given clauses that ask are all kept, and what is added to them has names that the given query does not mention
abbrev pub KeepsGiven : List Clause → List Clause → Type 0
KeepsGiven given result =
    (added : List Clause) × AllByRecursion (λ clause. mentions given clause.name ≡ false) added
    × (result ≡ filter asks given ++ added)
