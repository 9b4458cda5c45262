-- The worked histories are legal, by computation.
use Rattle.std.proofs.Common.{◌≡◌, List, [], ◌∷◌, map, refl, sym, ◌∙◌, ap, subst}
use Rattle.std.specs.Prelude.{codes}
use Rattle.ossl_base.specs.declared.entry.Entry.{Entry}
use Rattle.ossl_names.specs.Addition.{number_for}
use Rattle.ossl_names.specs.Groups.{number_of, with_names}
use Rattle.ossl_property.specs.Reading.{list_at}
use Rattle.ossl_property.specs.Said.{definition_said}
use Rattle.ossl_provider.specs.Sheet.{Facts}
use Rattle.ossl_provider.specs.Table.{TableView, table_facts}
use Rattle.ossl_state.specs.declared.call.Call.{Call}
use Rattle.ossl_state.specs.declared.call.Reply.{Reply}
use Rattle.ossl_watch.specs.Changes.{IsHistory}
use Rattle.print_tests.specs.Worked.{box, outlived, shared}

pub shared_legal : IsHistory (box (codes "A") ∷ box (codes "B") ∷ []) 1 shared
unfolding definition_said list_at number_of number_for with_names
shared_legal = (
  record { allowed = record { lib = refl; tokens = refl }; answers = (refl, refl) },
  (
    record { allowed = record { lib = refl; tokens = refl }; answers = (refl, refl) },
    (
      record { allowed = record { lib = refl; tokens = refl }; answers = (refl, refl) },
      (
        record { allowed = record { lib = refl; tokens = refl }; answers = refl },
        (
          record { allowed = record { lib = refl; tokens = refl }; answers = (refl, refl) },
          (
            record { allowed = record { lib = refl; tokens = refl }; answers = (refl, refl) },
            (
              record { allowed = record { lib = refl; tokens = refl }; answers = tt },
              (
                record { allowed = record { lib = refl; tokens = refl }; answers = tt },
                (
                  record { allowed = record { lib = refl; tokens = refl }; answers = refl },
                  (
                    record { allowed = record { lib = refl; tokens = refl }; answers = refl },
                    (
                      record { allowed = record { lib = refl; tokens = refl }; answers = refl },
                      tt,
                    ),
                  ),
                ),
              ),
            ),
          ),
        ),
      ),
    ),
  ),
)

pub outlived_legal : IsHistory (box (codes "default") ∷ []) 1 outlived
unfolding definition_said list_at number_of number_for with_names
outlived_legal = (
  record { allowed = record { lib = refl; tokens = refl }; answers = (refl, refl) },
  (
    record { allowed = record { lib = refl; tokens = refl }; answers = (refl, refl) },
    (
      record { allowed = record { lib = refl; tokens = refl }; answers = (refl, refl) },
      (
        record { allowed = record { lib = refl; tokens = refl }; answers = tt },
        (
          record { allowed = record { lib = refl; tokens = refl }; answers = refl },
          (
            record { allowed = record { lib = refl; tokens = refl }; answers = (refl, refl) },
            (
              record { allowed = record { lib = refl; tokens = refl }; answers = tt },
              (
                record { allowed = record { lib = refl; tokens = refl }; answers = refl },
                (
                  record { allowed = record { lib = refl; tokens = refl }; answers = refl },
                  tt,
                ),
              ),
            ),
          ),
        ),
      ),
    ),
  ),
)

-- equal boxes have equal histories
legal_here : (facts these : List Facts) (history entries : List (Entry Call Reply)) → these ≡ facts → entries ≡ history → IsHistory facts 1 history → IsHistory these 1 entries
legal_here facts these history entries f h legal =
    let P : List Facts → Type 0 = λ fs. IsHistory fs 1 entries in
    let Q : List (Entry Call Reply) → Type 0 = λ es. IsHistory facts 1 es in
    subst P (sym f) (subst Q (sym h) legal)

pub shared_here : (first second : TableView) (boxes : List TableView) (entries : List (Entry Call Reply)) → table_facts first ≡ box (codes "A") → table_facts second ≡ box (codes "B") →
    boxes ≡ first ∷ second ∷ [] → entries ≡ shared → IsHistory (map table_facts boxes) 1 entries
shared_here first second boxes entries f s b h =
    legal_here (box (codes "A") ∷ box (codes "B") ∷ []) (map table_facts boxes) shared entries
    (ap (map table_facts) b ∙ ap (λ x. x ∷ table_facts second ∷ []) f ∙ ap (λ y. box (codes "A") ∷ y ∷ []) s) h shared_legal

pub outlived_here : (first : TableView) (boxes : List TableView) (entries : List (Entry Call Reply)) → table_facts first ≡ box (codes "default") → boxes ≡ first ∷ [] → entries ≡ outlived →
    IsHistory (map table_facts boxes) 1 entries
outlived_here first boxes entries f b h =
    legal_here (box (codes "default") ∷ []) (map table_facts boxes) outlived entries (ap (map table_facts) b ∙ ap (λ x. x ∷ []) f) h outlived_legal
