-- What holds of the tables as they stand, by computation.
use Rattle.std.proofs.Common.{◌≡◌, ℕ, Bool, true, ◌&&◌, ◌==◌, nat_le, List, [], ◌∷◌, ◌++◌, length, map, refl}
use Rattle.std.specs.Prelude.{◌||◌, not, codes, filter, replicate}
use Rattle.std.specs.List.{slice_split, list_all, flat_map}
use Rattle.std.specs.Str.{bytes_eq, str_to_ascii_lowercase}
use Rattle.ossl_base.specs.Members.{is_distinct_by}
use Rattle.ossl_codes.specs.declared.code.Operation.{Operation}
use Rattle.ossl_codes.specs.declared.code.Operation.TheVariants.{Digest, Cipher, Mac, Kdf}
use Rattle.ossl_codes.specs.Code.{operation_of}
use Rattle.ossl_provider.specs.declared.table.TableRow.{TableRow}
use Rattle.ossl_rows.specs.declared.kind.Builtin.TheVariants.{Default, Legacy, Fips}
use Rattle.ossl_rows.specs.Tables.{Named, table_of}

-- the names of a row, in lower case
abbrev names_in : TableRow → List (List ℕ)
names_in row = map str_to_ascii_lowercase (slice_split (λ byte. byte == 58) row.names)

-- 1 to 99 visible bytes
abbrev is_name : List ℕ → Bool
is_name name = nat_le 1 (length name) && nat_le (length name) 99 && list_all (λ byte. nat_le 33 byte && nat_le byte 126) name

abbrev all_names : List TableRow → List (List ℕ)
all_names rows = flat_map names_in rows

-- `default` and `legacy` together: each name may be a name, and none stands twice, whatever its case.
-- So each row's names make a group of their own, no row conflicts with another, and loading both in either order leaves no row out
names_are_apart : (list_all is_name (all_names ((table_of Default).rows ++ (table_of Legacy).rows)) && is_distinct_by bytes_eq (all_names ((table_of Default).rows ++ (table_of Legacy).rows))) ≡ true
names_are_apart = refl

-- a row without its property definition
abbrev offer_of : TableRow → Named
offer_of row = (row.names, row.code)

-- `fips` offers what `default` offers but MD5 and ChaCha20, under the same names and in the same order,
-- so its names join the groups of those of `default`, and no row of the one conflicts with a row of the other
fips_is_default_without : map offer_of (table_of Fips).rows ≡ map offer_of (filter (λ row. not (bytes_eq row.names (codes "MD5") || bytes_eq row.names (codes "ChaCha20"))) (table_of Default).rows)
fips_is_default_without = refl

-- which operations the rows serve
abbrev operations : List TableRow → List Operation
operations rows = map (λ row. operation_of row.code) rows

default_serves : operations (table_of Default).rows ≡ replicate 8 Digest ++ replicate 16 Cipher ++ Mac ∷ Mac ∷ Kdf ∷ []
default_serves = refl

fips_serves : operations (table_of Fips).rows ≡ replicate 7 Digest ++ replicate 15 Cipher ++ Mac ∷ Mac ∷ Kdf ∷ []
fips_serves = refl
