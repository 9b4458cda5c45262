-- The rows that an instance offers, one row after another.
use Rattle.std.proofs.Common.{◌≡◌, ◌≤◌, ℕ, ◌+◌, ◌<◌, List, [], ◌∷◌, length, map, drop, refl, sym, ◌∙◌, ap, arith, add-one, drop-cons}
use Rattle.std.specs.Prelude.{slice_get, Some, Ok, Err}
use Rattle.std.specs.declared.result.Result.{Result}
use Rattle.std.proofs.lemmas.List.{get_or-map}
use Rattle.std.proofs.lemmas.Option.{get_or_from_slice_get}
use Rattle.ossl_codes.specs.declared.code.Code.TheVariants.{Sha256}
use Rattle.ossl_names.specs.declared.refusal.AddRefused.{AddRefused}
use Rattle.ossl_names.specs.Addition.{addition}
use Rattle.ossl_property.specs.declared.clause.Property.{Property}
use Rattle.ossl_property.specs.Said.{definition_said}
use Rattle.ossl_provider.specs.declared.table.TableRow.{TableRow}
use Rattle.ossl_state.specs.declared.offer.Offer.{Offer}
use Rattle.ossl_state.specs.Rows.{row_at, with_defined, with_named, with_row, with_rows}

abbrev no_row : TableRow
no_row = record { names = []; definition = []; code = Sha256 }

-- a part of a row, read from the list of these parts
pub part_at : {X : Type 0} (part : TableRow → X) (rows : List TableRow) (i : ℕ) (x : X) → i < length rows → slice_get (map part rows) i ≡ Some x → part (row_at rows i) ≡ x
part_at part rows i x within e = sym (get_or-map part rows i no_row (part no_row) within) ∙ get_or_from_slice_get (map part rows) i x (part no_row) e

-- the row at the head of what is left is taken in
pub with_rows-next : (rows : List TableRow) (i : ℕ) (offer : Offer) → i < length rows → with_rows i (drop i rows) offer ≡ with_rows (i + 1) (drop (i + 1) rows) (with_row i (row_at rows i) offer)
with_rows-next rows i offer within = ap (λ rest. with_rows i rest offer) split
  where
    split : drop i rows ≡ row_at rows i ∷ drop (i + 1) rows
    split = rw (add-one, drop-cons rows i no_row) refl

-- a row leaves at most itself out
pub skipped-more : (i : ℕ) (row : TableRow) (offer : Offer) → (with_row i row offer).skipped ≤ offer.skipped + 1
skipped-more i row offer = of_definition (definition_said row.definition)
  where
    of_names : (definition : List Property) (r : Result ℕ AddRefused) → (with_named i row definition r offer).skipped ≤ offer.skipped + 1
    of_names definition (Ok number) = omega arith
    of_names definition (Err refused) = omega arith

    of_definition : (o : Result (List Property) ℕ) → (with_defined i row o offer).skipped ≤ offer.skipped + 1
    of_definition (Err place) = omega arith
    of_definition (Ok definition) = of_names definition (addition offer.groups row.names)
