-- The marks of keys: what a hasher of std makes of a key's number and its query's clauses. Equal keys have equal marks.
use Rattle.std.specs.Prelude.{ℕ, ◌+◌, List, fold, if◌then◌else◌}
use Rattle.std.specs.Hash as fed
use Rattle.std.specs.Hash.FoldHasher as folding
use Rattle.std.specs.declared.hash.FoldHasher.{FoldHasher}
use Rattle.ossl_property.specs.declared.clause.Clause.{Clause}
use Rattle.ossl_property.specs.declared.clause.Relation.{Relation}
use Rattle.ossl_property.specs.declared.clause.Relation.TheVariants.{Equal, Differ, Remove}
use Rattle.ossl_property.specs.declared.clause.Value.{Value}
use Rattle.ossl_property.specs.declared.clause.Value.TheVariants.{Number, Text}
use Rattle.ossl_cache.specs.declared.key.Key.{Key}

abbrev pub with_value : FoldHasher → Value → FoldHasher
with_value h (Number n) = fold folding.write h (fed.i64 n)
with_value h (Text bytes) = folding.write h bytes

abbrev pub relation_number : Relation → ℕ
relation_number Equal = 0
relation_number Differ = 1
relation_number Remove = 2

-- a number for the relation and whether the clause is optional
abbrev pub sign_of : Clause → ℕ
sign_of c = if c.optional then relation_number c.relation + 3 else relation_number c.relation

-- the name, the value, and the sign
abbrev pub with_clause : FoldHasher → Clause → FoldHasher
with_clause h c = fold folding.write (with_value (folding.write h c.name) c.value) (fed.u8 (sign_of c))

-- of a number and a query
unfoldable pub mark : ℕ → List Clause → ℕ
mark number query = folding.finish (fold with_clause (fold folding.write folding.initial (fed.u64 number)) query)

-- the mark of a key
abbrev pub mark_of : Key → ℕ
mark_of key = mark key.number key.query
