-- The printed form of a list, which is this project's own: its items in order, joined by `,` without spaces.
use Rattle.std.specs.Prelude.{ℕ, ◌==◌, Bool, false, not, ◌&&◌, ◌||◌, List, [], ◌∷◌, ◌++◌, map, if◌then◌else◌}
use Rattle.std.specs.Char.{is_ascii_lowercase, is_ascii_uppercase}
use Rattle.std.specs.Fmt.{signed_decimal}
use Rattle.std.specs.List.{list_all, join_with_byte}
use Rattle.ossl_property.specs.declared.clause.Value.{Value}
use Rattle.ossl_property.specs.declared.clause.Value.TheVariants.{Number, Text}
use Rattle.ossl_property.specs.declared.clause.Relation.{Relation}
use Rattle.ossl_property.specs.declared.clause.Relation.TheVariants.{Remove}
use Rattle.ossl_property.specs.declared.clause.Property.{Property}
use Rattle.ossl_property.specs.declared.clause.Clause.{Clause}
use Rattle.ossl_property.specs.Bytes.{is_space, is_comma}
use Rattle.ossl_property.specs.Grammar.{operator, asked}

-- no space, comma or upper-case letter, which a string without quotes would not keep
abbrev pub keeps : ℕ → Bool
keeps byte = not (is_space byte || is_comma byte || is_ascii_uppercase byte)

-- a string that begins with a lower-case letter and has only such bytes stands without quotes
abbrev pub stands_bare : List ℕ → Bool
stands_bare [] = false
stands_bare (byte ∷ text) = is_ascii_lowercase byte && list_all keeps (byte ∷ text)

-- `'`, or `"` where the string holds a `'`
abbrev pub quote_of : List ℕ → ℕ
quote_of text = if list_all (λ byte. not (byte == 39)) text then 39 else 34

abbrev pub printed_string : List ℕ → List ℕ
printed_string text = if stands_bare text then text else quote_of text ∷ text ++ quote_of text ∷ []

-- a number is printed in decimal
abbrev pub printed_value : Value → List ℕ
printed_value (Number n) = signed_decimal n
printed_value (Text text) = printed_string text

-- `?` where optional, the name, the operator, the value; a removal is `-name`
abbrev pub printed_parts : Bool → List ℕ → Relation → Value → List ℕ
printed_parts optional name Remove value = operator Remove ++ name
printed_parts optional name relation value =
    (if optional then 63 ∷ [] else []) ++ name ++ operator relation ++ printed_value value

abbrev pub printed_clause : Clause → List ℕ
printed_clause clause = printed_parts clause.optional clause.name clause.relation clause.value

abbrev pub printed_query : List Clause → List ℕ
printed_query clauses = join_with_byte 44 (map printed_clause clauses)

abbrev pub printed_definition : List Property → List ℕ
printed_definition properties = join_with_byte 44 (map (λ property. printed_clause (asked property)) properties)
