-- The settings of sections, step by step.
use Rattle.std.proofs.Common.{◌≡◌, ℕ, ◌+◌, Option, None, Some, Result, Ok, Err, List, [], ◌∷◌, ◌++◌, codes, drop, slice_get, refl, ap, sym, ◌∙◌, append_assoc}
use Rattle.std.proofs.lemmas.Bool.{eq-eqb, ne_eqb}
use Rattle.std.proofs.lemmas.List.{drop_more}
use Rattle.std.proofs.lemmas.Option.{get_or_from_slice_get, slice_get_within}
use Rattle.smallvec.specs.SmallVec.{SmallVec}
use Rattle.ossl_property.specs.declared.clause.Clause.{Clause}
use Rattle.ossl_conf.specs.declared.refusal.ConfRefused.{ConfRefused}
use Rattle.ossl_conf.specs.Sections.{Entries, Sections, default_section, found, value_in}
use Rattle.ossl_conf.specs.Reading.{◌>>=◌}
use Rattle.ossl_conf.specs.Rows.{of_section, rows_of}
use Rattle.ossl_conf.specs.Settings.{activation, activations, default_query, named, properties, providers, settings_in}

module _ (sections : Sections) where
  -- nothing is asked for
  pub settings_in-none : value_in sections default_section (codes "openssl_conf") ≡ None → settings_in sections ≡ Ok (record { activations = []; default_query = None })
  settings_in-none e = rw e refl

  module _ (name : List ℕ) (asked : value_in sections default_section (codes "openssl_conf") ≡ Some name) where
    pub named_refused : (refusal : ConfRefused) → named sections name ≡ Err refusal → settings_in sections ≡ Err refusal
    named_refused refusal e = rw (asked, e) refl

    module _ (init : Entries) (opened : named sections name ≡ Ok init) where
      pub providers_refused : (refusal : ConfRefused) → providers sections (found (codes "providers") init) ≡ Err refusal → settings_in sections ≡ Err refusal
      providers_refused refusal e = rw (asked, opened, e) refl

      module _ (names : List (List ℕ)) (listed : providers sections (found (codes "providers") init) ≡ Ok names) where
        pub properties_refused : (refusal : ConfRefused) → properties sections (found (codes "alg_section") init) ≡ Err refusal → settings_in sections ≡ Err refusal
        properties_refused refusal e = rw (asked, opened, listed, e) refl

        module _ (text : Option (List ℕ)) (told : properties sections (found (codes "alg_section") init) ≡ Ok text) where
          pub query_refused : (refusal : ConfRefused) → default_query text ≡ Err refusal → settings_in sections ≡ Err refusal
          query_refused refusal e = rw (asked, opened, listed, told, e) refl

          pub settings_in-all : (query : Option (List Clause)) → default_query text ≡ Ok query → settings_in sections ≡ Ok (record { activations = names; default_query = query })
          settings_in-all query e = rw (asked, opened, listed, told, e) refl

-- one more provider
module _ (sections : Sections) (entry : List ℕ × List ℕ) (entries : Entries) (done first : List (List ℕ)) where
  pub activations-more : activation sections entry ≡ Ok first
      → (activations sections (entry ∷ entries) >>= λ rest. Ok (done ++ rest)) ≡ (activations sections entries >>= λ rest. Ok ((done ++ first) ++ rest))
  activations-more e = rw e (by (activations sections entries))
    where
      by : (rest : Result (List (List ℕ)) ConfRefused) → ((rest >>= λ rest. Ok (first ++ rest)) >>= λ rest. Ok (done ++ rest)) ≡ (rest >>= λ rest. Ok ((done ++ first) ++ rest))
      by (Ok rest) = ap Ok (sym (append_assoc done first rest))
      by (Err refusal) = refl

  pub activations-refused : (refusal : ConfRefused) → activation sections entry ≡ Err refusal → (activations sections (entry ∷ entries) >>= λ rest. Ok (done ++ rest)) ≡ Err refusal
  activations-refused refusal e = rw e refl

-- nothing is activated yet
pub activations-begun : (said : Result (List (List ℕ)) ConfRefused) → (said >>= λ rest. Ok ([] ++ rest)) ≡ said
activations-begun (Ok rest) = refl
activations-begun (Err refusal) = refl

-- the list from a place on, by what stands there
pub drop_found : {A : Type 0} (xs : List A) (i : ℕ) (x : A) → slice_get xs i ≡ Some x → drop i xs ≡ x ∷ drop (i + 1) xs
drop_found xs i x e = drop_more xs i x (slice_get_within xs i x e) ∙ ap (λ y. y ∷ drop (i + 1) xs) (get_or_from_slice_get xs i x x e)

-- the providers from a row on
module _ (sections : Sections) (at : ℕ) (rows : List ((ℕ × SmallVec ℕ) × List ℕ)) where
  abbrev pub whole_from : ℕ → List (List ℕ) → Result (List (List ℕ)) ConfRefused
  whole_from index done = activations sections (of_section at (rows_of (drop index rows))) >>= λ rest. Ok (done ++ rest)

  module _ (index : ℕ) (key : ℕ × SmallVec ℕ) (value : List ℕ) (there : slice_get rows index ≡ Some (key, value)) (done : List (List ℕ)) where
    by_entries : (entries : Entries) → of_section at (rows_of ((key, value) ∷ drop (index + 1) rows)) ≡ entries
        → whole_from index done ≡ (activations sections entries >>= λ rest. Ok (done ++ rest))
    by_entries entries e =
        ap (λ (rows : List ((ℕ × SmallVec ℕ) × List ℕ)). activations sections (of_section at (rows_of rows)) >>= λ rest. Ok (done ++ rest)) (drop_found rows index (key, value) there)
        ∙ ap (λ entries. activations sections entries >>= λ rest. Ok (done ++ rest)) e

    -- it is one of another section
    pub other_row : (at ≡ key.0 → ⊥) → whole_from index done ≡ whole_from (index + 1) done
    other_row other = by_entries (of_section at (rows_of (drop (index + 1) rows))) (rw (ne_eqb at key.0 other) refl)

    module _ (same : at ≡ key.0) where
      here : of_section at (rows_of ((key, value) ∷ drop (index + 1) rows)) ≡ (key.1.items, value) ∷ of_section at (rows_of (drop (index + 1) rows))
      here = rw (eq-eqb at key.0 same) refl

      pub more_row : (first : List (List ℕ)) → activation sections (key.1.items, value) ≡ Ok first → whole_from index done ≡ whole_from (index + 1) (done ++ first)
      more_row first e = by_entries ((key.1.items, value) ∷ of_section at (rows_of (drop (index + 1) rows))) here ∙ activations-more sections (key.1.items, value) (of_section at (rows_of (drop (index + 1) rows))) done first e

      pub refused_row : (refusal : ConfRefused) → activation sections (key.1.items, value) ≡ Err refusal → whole_from index done ≡ Err refusal
      refused_row refusal e = by_entries ((key.1.items, value) ∷ of_section at (rows_of (drop (index + 1) rows))) here ∙ activations-refused sections (key.1.items, value) (of_section at (rows_of (drop (index + 1) rows))) done done refusal e
