use Rattle.std.proofs.Common.{◌≡◌, ℕ, List, [], ◌∷◌, ◌∙◌, ap}
use Rattle.std.specs.Prelude.{codes}
use Rattle.ossl_codes.specs.declared.code.Code.TheVariants.{Sha256}
use Rattle.ossl_provider.specs.Sheet.{Facts}
use Rattle.ossl_provider.specs.Table.{table_admits, table_facts}
use Rattle.ossl_provider.specs.declared.table.TableRow.{TableRow}
use Rattle.print_tests.specs.Worked.{box, sha256_row}
use Rattle.print_tests.proofs.tests.provider.Goals as goal

abbrev facts_with : List ℕ → List TableRow → Facts
facts_with name rows = record { name = name; rows = rows; admits = table_admits 0 }

abbrev row_with : List ℕ → List ℕ → TableRow
row_with names definition = record { names = names; definition = definition; code = Sha256 }

pub returns : goal.returns
returns c =
    ap table_facts c.in_ok-table.ensures.made
    ∙ ap (λ rs. facts_with c.in_ok-name.name rs) (c.in_ok-rows.ensures.items
    ∙ ap (λ n. row_with n c.in_ok-definition.definition ∷ []) c.in_ok-names.ensures ∙ ap (λ d. row_with (codes "SHA2-256") d ∷ []) c.in_ok-definition.ensures)
    ∙ ap (λ n. facts_with n (sha256_row ∷ [])) c.in_ok-name.ensures
