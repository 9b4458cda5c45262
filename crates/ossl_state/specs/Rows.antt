-- The rows that an instance offers, and which of them a fetch looks at (OSSL_PROVIDER(3), EVP_MD_fetch(3)).
use Rattle.std.specs.Prelude.{ℕ, ◌+◌, Bool, true, false, ◌&&◌, nat_eq, List, [], ◌∷◌, ◌++◌, Ok, Err, slice_index_or}
use Rattle.std.specs.declared.result.Result.{Result}
use Rattle.ossl_codes.specs.declared.code.Code.TheVariants.{Sha256}
use Rattle.ossl_codes.specs.declared.code.Operation.{Operation}
use Rattle.ossl_codes.specs.declared.code.Operation.TheVariants.{Digest, Cipher, Mac, Kdf}
use Rattle.ossl_codes.specs.Code.{operation_of}
use Rattle.ossl_names.specs.declared.refusal.AddRefused.{AddRefused}
use Rattle.ossl_names.specs.Addition.{addition, groups_after}
use Rattle.ossl_names.specs.Groups.{Groups}
use Rattle.ossl_property.specs.declared.clause.Property.{Property}
use Rattle.ossl_property.specs.Said.{definition_said}
use Rattle.ossl_provider.specs.declared.table.TableRow.{TableRow}
use Rattle.ossl_state.specs.declared.offer.Offer.{Offer}
use Rattle.ossl_state.specs.declared.state.Offered.{Offered}

-- the row at an index of a table
abbrev pub row_at : List TableRow → ℕ → TableRow
row_at rows i = slice_index_or rows i (record { names = []; definition = []; code = Sha256 })

-- a row is offered with the number of its names and its definition
abbrev pub offered_row : ℕ → TableRow → List Property → ℕ → Offered
offered_row i row definition number =
    record { index = i; op = operation_of row.code; number = number; code = row.code; definition = definition }

-- a row that is left out is counted, and its names do not join
abbrev pub without_row : Offer → Offer
without_row offer = record offer { skipped = offer.skipped + 1 }

-- a row that is offered, whose names join the groups
abbrev pub with_offered : Offer → Offered → List ℕ → Offer
with_offered offer o names = record offer { rows = offer.rows ++ o ∷ []; groups = groups_after offer.groups names }

-- a row whose names are none, or lie in two groups, is left out
abbrev pub with_named : ℕ → TableRow → List Property → Result ℕ AddRefused → Offer → Offer
with_named i row definition (Ok number) offer = with_offered offer (offered_row i row definition number) row.names
with_named i row definition (Err refused) offer = without_row offer

-- a row whose definition is none is left out
abbrev pub with_defined : ℕ → TableRow → Result (List Property) ℕ → Offer → Offer
with_defined i row (Err place) offer = without_row offer
with_defined i row (Ok definition) offer = with_named i row definition (addition offer.groups row.names) offer

abbrev pub with_row : ℕ → TableRow → Offer → Offer
with_row i row offer = with_defined i row (definition_said row.definition) offer

-- the rows are taken in order, the first of them with this index
abbrev pub with_rows : ℕ → List TableRow → Offer → Offer
with_rows i [] offer = offer
with_rows i (row ∷ rows) offer = with_rows (i + 1) rows (with_row i row offer)

-- what an instance offers that starts where these are the groups of names
abbrev pub offered : Groups → List TableRow → Offer
offered groups rows = with_rows 0 rows (record { rows = []; skipped = 0; groups = groups })

abbrev pub is_operation : Operation → Operation → Bool
is_operation Digest Digest = true
is_operation Cipher Cipher = true
is_operation Mac Mac = true
is_operation Kdf Kdf = true
is_operation a b = false

-- a row of this operation whose names have this number
abbrev pub is_wanted : Operation → ℕ → Offered → Bool
is_wanted op number row = is_operation row.op op && nat_eq row.number number
