-- A text's tokens, one after the other, are the only ones; so a fault's place is the only one.
use Rattle.std.proofs.Common.{◌≡◌, ℕ, ◌≤◌, Bool, true, false, not, cond, ◌&&◌, ◌||◌, ◌⊎◌, inl, inr, List, [], ◌∷◌, ◌++◌, length, bytes_eq, Some, refl, sym, ap, subst, ◌∙◌, append_assoc, append-nil, arith}
use Rattle.std.proofs.lemmas.Bool.{or_parts}
use Rattle.std.proofs.lemmas.List.{length-append}
use Rattle.ossl_property.specs.declared.reader.Language.{Language}
use Rattle.ossl_property.specs.Bytes.{is_space, folded, past}
use Rattle.ossl_property.specs.Grammar.{is_name}
use Rattle.ossl_property.specs.Tokens.{is_operator, token, Begins, expects_value, names_in}
use Rattle.ossl_property.specs.Fault.{is_among, AreApart, MayStand, CannotGoOn, IsFault}
use Rattle.ossl_property.proofs.Runs.{past_twice, length_past}
use Rattle.ossl_property.proofs.Course.{State, Start, run, step, passes, no_step, AreWhole, whole_any, any_ends}

-- ---- tokens that are put together

begins_trimmed : (is_value : Bool) (words : List (List ℕ)) (text rest : List ℕ) → Begins is_value words (past is_space text) rest → Begins is_value words text rest
begins_trimmed is_value [] text rest h = sym (past_twice is_space text) ∙ h
begins_trimmed is_value (word ∷ words) text rest h = (h.0, sym (past_twice is_space text) ∙ h.1, h.2 ∙ ap (token is_value) (past_twice is_space text), h.3)

pub begins_past : (is_value : Bool) (words : List (List ℕ)) (text rest : List ℕ) → Begins is_value words text rest → Begins is_value words (past is_space text) rest
begins_past is_value [] text rest h = past_twice is_space text ∙ h
begins_past is_value (word ∷ words) text rest h = (h.0, past_twice is_space text ∙ h.1, h.2 ∙ ap (token is_value) (sym (past_twice is_space text)), h.3)

pub begins_append : (is_value : Bool) (words more : List (List ℕ)) (text behind rest : List ℕ) → Begins is_value words text behind → Begins (expects_value is_value words) more behind rest → Begins is_value (words ++ more) text rest
begins_append is_value [] more text behind rest h k = begins_trimmed is_value more text rest (subst (λ (t : List ℕ). Begins is_value more t rest) (sym h) k)
begins_append is_value (word ∷ words) more text behind rest h k = (h.0, h.1, h.2, begins_append (is_operator word) words more h.0 behind rest h.3 k)

pub begins_shorter : (is_value : Bool) (words : List (List ℕ)) (text rest : List ℕ) → Begins is_value words text rest → length rest ≤ length text
begins_shorter is_value [] text rest h = omega (arith, ap length h, length_past is_space text)
begins_shorter is_value (word ∷ words) text rest h =
    let shorter = begins_shorter (is_operator word) words h.0 rest h.3 in
    omega (arith, shorter, ap length h.1, length-append word h.0, length_past is_space text)

pub expects_append : (is_value : Bool) (words more : List (List ℕ)) → expects_value is_value (words ++ more) ≡ expects_value (expects_value is_value words) more
expects_append is_value [] more = refl
expects_append is_value (word ∷ words) more = expects_append (is_operator word) words more

pub names_append : (is_value : Bool) (words more : List (List ℕ)) → names_in is_value (words ++ more) ≡ names_in is_value words ++ names_in (expects_value is_value words) more
names_append is_value [] more = refl
names_append is_value (word ∷ words) more = cases (names_append (is_operator word) words more) (not is_value && is_name word)
  where
    cases : names_in (is_operator word) (words ++ more) ≡ names_in (is_operator word) words ++ names_in (expects_value (is_operator word) words) more → (t : Bool)
        → cond t (folded word ∷ names_in (is_operator word) (words ++ more)) (names_in (is_operator word) (words ++ more)) ≡ cond t (folded word ∷ names_in (is_operator word) words) (names_in (is_operator word) words) ++ names_in (expects_value (is_operator word) words) more
    cases h true = ap (λ (names : List (List ℕ)). folded word ∷ names) h
    cases h false = h

-- ---- names that stand once

pub among_append : (names more : List (List ℕ)) (name : List ℕ) → is_among (names ++ more) name ≡ (is_among names name || is_among more name)
among_append [] more name = refl
among_append (first ∷ names) more name = cases (among_append names more name) (bytes_eq first name)
  where
    cases : is_among (names ++ more) name ≡ (is_among names name || is_among more name) → (t : Bool) → (t || is_among (names ++ more) name) ≡ ((t || is_among names name) || is_among more name)
    cases h true = refl
    cases h false = h

apart_before : (names more : List (List ℕ)) → AreApart (names ++ more) → AreApart names
apart_before [] more h = tt
apart_before (name ∷ names) more h = ((or_parts (is_among names name) (is_among more name) (sym (among_append names more name) ∙ h.0)).0, apart_before names more h.1)

-- ---- the tokens of one text

-- further tokens that begin with the one that comes next
abbrev Ahead : Bool → List (List ℕ) → List ℕ → List (List ℕ) → Type 0
Ahead is_value words rest others = (word : List ℕ) × (more : List (List ℕ)) × (others ≡ words ++ word ∷ more) × (word ≡ token (expects_value is_value words) rest)

ahead_more : (is_value : Bool) (word : List ℕ) (words : List (List ℕ)) (rest : List ℕ) (first : List ℕ) (others : List (List ℕ)) → word ≡ first → Ahead (is_operator word) words rest others → Ahead is_value (word ∷ words) rest (first ∷ others)
ahead_more is_value word words rest first others same h = (h.0, h.1, (λ i. sym same i ∷ h.2 i), h.3)

-- two texts with one front
pub cut_same : (word behind other : List ℕ) → word ++ behind ≡ word ++ other → behind ≡ other
cut_same [] behind other e = e
cut_same (byte ∷ word) behind other e = cut_same word behind other (ap tail e)
  where
    tail : List ℕ → List ℕ
    tail [] = []
    tail (byte ∷ rest) = rest

compare : (is_value : Bool) (words others : List (List ℕ)) (text rest last : List ℕ) → Begins is_value words text rest → Begins is_value others text last
    → ((words ≡ others) × (rest ≡ last)) ⊎ (Ahead is_value words rest others ⊎ Ahead is_value others last words)
compare is_value [] [] text rest last h k = inl (refl, sym h ∙ k)
compare is_value [] (word ∷ others) text rest last h k = inr (inl (word, others, refl, k.2 ∙ ap (token is_value) h))
compare is_value (word ∷ words) [] text rest last h k = inr (inr (word, words, refl, h.2 ∙ ap (token is_value) k))
compare is_value (word ∷ words) (first ∷ others) text rest last h k =
    let same : word ≡ first = h.2 ∙ sym k.2 in
    let behind : h.0 ≡ k.0 = cut_same word h.0 k.0 (sym h.1 ∙ k.1 ∙ ap (λ (w : List ℕ). w ++ k.0) (sym same)) in
    let moved : Begins (is_operator word) others h.0 last = subst (λ (t : List ℕ). Begins (is_operator word) others t last) (sym behind) (subst (λ (w : List ℕ). Begins (is_operator w) others k.0 last) (sym same) k.3) in
    elim (compare (is_operator word) words others h.0 rest last h.3 moved) [
      | inl p ↦ inl (λ i. same i ∷ p.0 i, p.1)
      | inr p ↦ elim p [
        | inl a ↦ inr (inl (ahead_more is_value word words rest first others same a))
        | inr a ↦ inr (inr (ahead_more is_value first others last word words (sym same) (subst (λ (w : List ℕ). Ahead (is_operator w) others last words) same a)))
      ]
    ]

-- ---- tokens that may stand

module _ (language : Language) where
  pub stand_before : (words more : List (List ℕ)) → MayStand (AreWhole language) (words ++ more) → MayStand (AreWhole language) words
  stand_before words more h = (more ++ h.0, subst (AreWhole language) (append_assoc words more h.0) h.1, apart_before (names_in false words) (names_in (expects_value false words) more) (subst AreApart (names_append false words more) h.2))

  -- a token of those that may stand, and where it comes
  pub stands_at : (words more : List (List ℕ)) (word : List ℕ) → MayStand (AreWhole language) (words ++ word ∷ more) → (s : State) × (run language Start words ≡ Some s) × (m : State) × (step language s word ≡ Some m)
  stands_at words more word h =
      let ends = any_ends language ((words ++ word ∷ more) ++ h.0) (whole_any language ((words ++ word ∷ more) ++ h.0) h.1) in
      passes language Start words (more ++ h.0) word ends.0 (ap (run language Start) (sym (append_assoc words (word ∷ more) h.0)) ∙ ends.1)

  -- what stands is nowhere no token
  no_hole : (words more : List (List ℕ)) (word : List ℕ) → word ≡ [] → MayStand (AreWhole language) (words ++ word ∷ more) → ⊥
  no_hole words more word e h =
      let at = stands_at words more word h in
      no_step language at.0 at.2 (ap (step language at.0) (sym e) ∙ at.3)

  -- a text whose tokens cannot go on has no further ones that may stand
  overtaken : (words others : List (List ℕ)) (rest : List ℕ) → CannotGoOn (AreWhole language) words rest → Ahead false words rest others → MayStand (AreWhole language) others → ⊥
  overtaken words others [] stops a h = no_hole words a.1 a.0 a.3 (subst (MayStand (AreWhole language)) a.2 h)
  overtaken words others (byte ∷ rest) stops a h =
      let moved : others ≡ (words ++ token (expects_value false words) (byte ∷ rest) ∷ []) ++ a.1 = a.2 ∙ sym (append_assoc words (a.0 ∷ []) a.1) ∙ ap (λ (w : List ℕ). (words ++ w ∷ []) ++ a.1) a.3 in
      stops (stand_before (words ++ token (expects_value false words) (byte ∷ rest) ∷ []) a.1 (subst (MayStand (AreWhole language)) moved h))

  -- a text whose tokens are a whole list's
  pub record IsSaid (text : List ℕ) : Type 0 where
    pub words : List (List ℕ)
    pub begins : Begins false words text []
    pub whole : AreWhole language words
    pub apart : AreApart (names_in false words)

  pub said_stands : (words : List (List ℕ)) → AreWhole language words → AreApart (names_in false words) → MayStand (AreWhole language) words
  said_stands words whole apart = ([], subst (AreWhole language) (sym (append-nil words)) whole, apart)

  pub no_fault_said : (text : List ℕ) (place : ℕ) → IsSaid text → IsFault (AreWhole language) text place → ⊥
  no_fault_said text place said fault = elim (compare false said.words fault.0 text [] fault.1 said.begins fault.2) [
    | inl p ↦
        let stops : CannotGoOn (AreWhole language) fault.0 [] = subst (CannotGoOn (AreWhole language) fault.0) (sym p.1) fault.4 in
        stops (subst (AreWhole language) p.0 said.whole)
    | inr p ↦ elim p [
      | inl a ↦ no_hole said.words a.1 a.0 a.3 (subst (MayStand (AreWhole language)) a.2 fault.3)
      | inr a ↦ overtaken fault.0 said.words fault.1 fault.4 a (said_stands said.words said.whole said.apart)
    ]
  ]

  pub one_fault : (text : List ℕ) (place other : ℕ) → IsFault (AreWhole language) text place → IsFault (AreWhole language) text other → place ≡ other
  one_fault text place other fault second = elim (compare false fault.0 second.0 text fault.1 second.1 fault.2 second.2) [
    | inl p ↦ omega (arith, fault.5, second.5, ap length p.1)
    | inr p ↦ elim p [
      | inl a ↦ absurd (overtaken fault.0 second.0 fault.1 fault.4 a second.3)
      | inr a ↦ absurd (overtaken second.0 fault.0 second.1 second.4 a fault.3)
    ]
  ]
