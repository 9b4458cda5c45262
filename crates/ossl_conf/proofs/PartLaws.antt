-- The parts of a value, one by one.
use Rattle.std.proofs.Common.{◌≡◌, ℕ, zero, suc, Option, Result, Ok, Err, List, [], ◌∷◌, ◌++◌, drop, refl, ap, sym, ◌∙◌, append_assoc}
use Rattle.ossl_conf.specs.Values.{Part, Taken, joined, part_at, parts, parts_past, replaced, text_of}

-- the parts behind so many bytes are those of what stands there
pub parts_past-drop : (count : ℕ) (text : List ℕ) → parts_past count text ≡ parts (drop count text)
parts_past-drop zero [] = refl
parts_past-drop zero (b ∷ text) = refl
parts_past-drop (suc count) [] = refl
parts_past-drop (suc count) (b ∷ text) = parts_past-drop count text

-- a part that was replaced joins what was read before it
pub joined-joined : (done piece : List ℕ) (rest : Result (List ℕ) (List ℕ)) → joined (Ok done) (joined (Ok piece) rest) ≡ joined (Ok (done ++ piece)) rest
joined-joined done piece (Err written) = refl
joined-joined done piece (Ok rest) = ap Ok (sym (append_assoc done piece rest))

-- what is read of a value, by its first part
module _ (value_of : List ℕ → Option (List ℕ)) (done : List ℕ) (first : ℕ) (behind : List ℕ) (part : Part) (count : ℕ) (taken : (part, count) ≡ part_at first behind) where
  cut : parts (first ∷ behind) ≡ part ∷ parts (drop count behind)
  cut = sym (ap (λ (t : Taken). t.0 ∷ parts_past t.1 behind) taken) ∙ ap (λ (rest : List Part). part ∷ rest) (parts_past-drop count behind)

  -- it is replaced
  pub joined-part : (piece : List ℕ) → text_of value_of part ≡ Ok piece
      → joined (Ok done) (replaced value_of (parts (first ∷ behind))) ≡ joined (Ok (done ++ piece)) (replaced value_of (parts (drop count behind)))
  joined-part piece e =
      let rest = replaced value_of (parts (drop count behind)) in
      ap (λ ps. joined (Ok done) (replaced value_of ps)) cut ∙ ap (λ t. joined (Ok done) (joined t rest)) e ∙ joined-joined done piece rest

  -- it has no value
  pub joined-refused : (written : List ℕ) → text_of value_of part ≡ Err written → joined (Ok done) (replaced value_of (parts (first ∷ behind))) ≡ Err written
  joined-refused written e =
      let rest = replaced value_of (parts (drop count behind)) in
      ap (λ ps. joined (Ok done) (replaced value_of ps)) cut ∙ ap (λ t. joined (Ok done) (joined t rest)) e
