-- Places of sections, and what stands at them.
use Rattle.std.proofs.Common.{◌≡◌, ℕ, zero, suc, ◌+◌, ◌<◌, Bool, true, false, cond, nat_lt, if◌then◌else◌, Option, None, Some, List, [], ◌∷◌, ◌++◌, length, slice_get, refl, ap, sym, ◌∙◌, arith}
use Rattle.std.proofs.lemmas.Bool.{lt-ltb}
use Rattle.std.specs.List.{list_any, position, position_or_len}
use Rattle.std.proofs.lemmas.Slice.Eq.{bytes_eq-Decides}
use Rattle.std.specs.Option.{option_map, option_and_then}
use Rattle.std.specs.Str.{bytes_eq}
use Rattle.ossl_conf.specs.Sections.{Entries, Sections, changed, found, value_in, with_section, with_value}
use Rattle.ossl_conf.specs.Places.{entries_at, first_place, name_at, place_of, value_at}

-- a place that is one further, or none
pub next_place : {P : Type 0} (place : Option ℕ) (at : ℕ) → option_map (λ at. suc at) place ≡ Some at → ((before : ℕ) → place ≡ Some before → at ≡ suc before → P) → P
next_place None at h go = absurd (let e : None ≡ Some at = h in cc)
next_place (Some before) at h go = go before refl (let e : Some (suc before) ≡ Some at = h in cc)

pub no_place : (place : Option ℕ) → option_map (λ at. suc at) place ≡ None → place ≡ None
no_place None h = refl
no_place (Some at) h = absurd (let e : Some (suc at) ≡ None = h in cc)

module _ {A : Type 0} (test : A → Bool) where
  -- the first place is the one that is found by an index
  pub first_place-position : (xs : List A) → first_place test xs ≡ position test xs
  first_place-position [] = refl
  first_place-position (x ∷ xs) = by (test x) refl (first_place-position xs)
    where
      shift : (n l : ℕ) → option_map (λ at. suc at) (cond (nat_lt n l) (Some n) None) ≡ cond (nat_lt (1 + n) (suc l)) (Some (1 + n)) None
      shift n l = grind arith

      by : (b : Bool) → test x ≡ b → first_place test xs ≡ position test xs → first_place test (x ∷ xs) ≡ position test (x ∷ xs)
      by true e go = rw e (ap (λ b. cond b (Some 0) None) (sym (lt-ltb 0 (length (x ∷ xs)) (omega arith))))
      by false e go = rw (e, go) (shift (position_or_len test xs) (length xs))

  pub first_place-lt : (xs : List A) (at : ℕ) → first_place test xs ≡ Some at → at < length xs
  first_place-lt [] at h = absurd (let e : None ≡ Some at = h in cc)
  first_place-lt (x ∷ xs) at h = by (test x) refl (first_place-lt xs)
    where
      by : (b : Bool) → test x ≡ b → ((before : ℕ) → first_place test xs ≡ Some before → before < length xs) → at < length (x ∷ xs)
      by true e go = let e' : Some 0 ≡ Some at = sym (rw e refl) ∙ h in let z : 0 ≡ at = cc in omega arith
      by false e go = next_place (first_place test xs) at (sym (rw e refl) ∙ h) (λ before f g. omega (arith, go before f, g))

  -- it stays where more follow
  pub first_place-append : (xs ys : List A) (at : ℕ) → first_place test xs ≡ Some at → first_place test (xs ++ ys) ≡ Some at
  first_place-append [] ys at h = absurd (let e : None ≡ Some at = h in cc)
  first_place-append (x ∷ xs) ys at h = by (test x) refl (first_place-append xs ys)
    where
      by : (b : Bool) → test x ≡ b → ((before : ℕ) → first_place test xs ≡ Some before → first_place test (xs ++ ys) ≡ Some before) → first_place test (x ∷ (xs ++ ys)) ≡ Some at
      by true e go = rw e (rw e at h)
      by false e go = rw e (next_place (first_place test xs) at (rw e at h) (λ before f g. ap (option_map (λ at. suc at)) (go before f) ∙ ap Some (sym g)))

  -- one that is new comes last
  pub first_place-push : (xs : List A) (x : A) → first_place test xs ≡ None → test x ≡ true → first_place test (xs ++ x ∷ []) ≡ Some (length xs)
  first_place-push [] x none h = rw h refl
  first_place-push (y ∷ ys) x none h = by (test y) refl (first_place-push ys x)
    where
      by : (b : Bool) → test y ≡ b → (first_place test ys ≡ None → test x ≡ true → first_place test (ys ++ x ∷ []) ≡ Some (length ys)) → first_place test (y ∷ (ys ++ x ∷ [])) ≡ Some (length (y ∷ ys))
      by true e go = absurd (let e' : Some 0 ≡ None = rw e at none in cc)
      by false e go = rw e (ap (option_map (λ at. suc at)) (go (no_place _ (rw e at none)) h))

-- what is there is opened as it stands
pub with_section-there : (sections : Sections) (name : List ℕ) (at : ℕ) → place_of sections name ≡ Some at → with_section name sections ≡ sections
with_section-there [] name at h = absurd (let e : None ≡ Some at = h in cc)
with_section-there (section ∷ sections) name at h = by (bytes_eq name section.0) refl (with_section-there sections name)
  where
    by : (b : Bool) → bytes_eq name section.0 ≡ b → ((before : ℕ) → place_of sections name ≡ Some before → with_section name sections ≡ sections) → with_section name (section ∷ sections) ≡ section ∷ sections
    by true e go = rw e refl
    by false e go = rw e (next_place (place_of sections name) at (rw e at h) (λ before f g. ap (λ (s : Sections). section ∷ s) (go before f)))

-- what is not there comes last
pub changed-absent : {A : Type 0} (change : A → A) (new : A) (name : List ℕ) (entries : List (List ℕ × A)) → first_place (λ entry. bytes_eq name entry.0) entries ≡ None → changed change new name entries ≡ entries ++ (name, change new) ∷ []
changed-absent change new name [] h = refl
changed-absent {A} change new name (entry ∷ entries) h = by (bytes_eq name entry.0) refl (changed-absent change new name entries)
  where
    by : (b : Bool) → bytes_eq name entry.0 ≡ b → (first_place (λ entry. bytes_eq name entry.0) entries ≡ None → changed change new name entries ≡ entries ++ (name, change new) ∷ []) → changed change new name (entry ∷ entries) ≡ entry ∷ (entries ++ (name, change new) ∷ [])
    by true e go = absurd (let e' : Some 0 ≡ None = rw e at h in cc)
    by false e go = rw e (ap (λ (s : List (List ℕ × A)). entry ∷ s) (go (no_place _ (rw e at h))))

-- equal texts are one
pub bytes_eq-same : (a b : List ℕ) → bytes_eq a b ≡ true → a ≡ b
bytes_eq-same a b h = (bytes_eq-Decides a b).0 h

pub bytes_eq-itself : (a : List ℕ) → bytes_eq a a ≡ true
bytes_eq-itself a = (bytes_eq-Decides a a).1 refl

-- the section at a name's place has that name
pub name_at-place_of : (sections : Sections) (name : List ℕ) (at : ℕ) → place_of sections name ≡ Some at → name_at sections at ≡ name
name_at-place_of [] name at h = absurd (let e : None ≡ Some at = h in cc)
name_at-place_of (section ∷ sections) name at h = by (bytes_eq name section.0) refl (name_at-place_of sections name)
  where
    by : (b : Bool) → bytes_eq name section.0 ≡ b → ((before : ℕ) → place_of sections name ≡ Some before → name_at sections before ≡ name) → name_at (section ∷ sections) at ≡ name
    by true e go =
        let e' : Some 0 ≡ Some at = rw e at h in
        let z : 0 ≡ at = cc in
        rw (← z) (sym (bytes_eq-same name section.0 e))
    by false e go = next_place (place_of sections name) at (rw e at h) (λ before f g. rw g (go before f))

-- the value of a name is that in the section at its place
pub value_in-place : (sections : Sections) (section name : List ℕ) → value_in sections section name ≡ value_at sections (place_of sections section) name
value_in-place [] section name = refl
value_in-place (one ∷ sections) section name = by (bytes_eq section one.0) refl (value_in-place sections section name)
  where
    next : (place : Option ℕ) → value_at sections place name ≡ value_at (one ∷ sections) (option_map (λ at. suc at) place) name
    next None = refl
    next (Some at) = refl

    by : (b : Bool) → bytes_eq section one.0 ≡ b → value_in sections section name ≡ value_at sections (place_of sections section) name → value_in (one ∷ sections) section name ≡ value_at (one ∷ sections) (place_of (one ∷ sections) section) name
    by true e go = rw e refl
    by false e go = rw e (go ∙ next (place_of sections section))

-- a section is the one at its place
pub found-place : (sections : Sections) (name : List ℕ) → found name sections ≡ option_map (entries_at sections) (place_of sections name)
found-place [] name = refl
found-place (one ∷ sections) name = by (bytes_eq name one.0) refl (found-place sections name)
  where
    next : (place : Option ℕ) → option_map (entries_at sections) place ≡ option_map (entries_at (one ∷ sections)) (option_map (λ at. suc at) place)
    next None = refl
    next (Some at) = refl

    by : (b : Bool) → bytes_eq name one.0 ≡ b → found name sections ≡ option_map (entries_at sections) (place_of sections name) → found name (one ∷ sections) ≡ option_map (entries_at (one ∷ sections)) (place_of (one ∷ sections) name)
    by true e go = rw e refl
    by false e go = rw e (go ∙ next (place_of sections name))

-- a section that is set into need not be opened before
pub with_value-opened : (sections : Sections) (section name value : List ℕ) → with_value section name value (with_section section sections) ≡ with_value section name value sections
with_value-opened [] section name value = rw (bytes_eq-itself section) refl
with_value-opened (one ∷ sections) section name value = by (bytes_eq section one.0) refl (with_value-opened sections section name value)
  where
    by : (b : Bool) → bytes_eq section one.0 ≡ b → with_value section name value (with_section section sections) ≡ with_value section name value sections → with_value section name value (with_section section (one ∷ sections)) ≡ with_value section name value (one ∷ sections)
    by true e go = rw e (rw e refl)
    by false e go = rw e (rw e (ap (λ (s : Sections). one ∷ s) go))

-- where none passes, the list is gone over
pub position_or_len-none : {A : Type 0} (test : A → Bool) (xs : List A) → first_place test xs ≡ None → position_or_len test xs ≡ length xs
position_or_len-none test [] h = refl
position_or_len-none test (x ∷ xs) h = by (test x) refl (position_or_len-none test xs)
  where
    by : (b : Bool) → test x ≡ b → (first_place test xs ≡ None → position_or_len test xs ≡ length xs) → position_or_len test (x ∷ xs) ≡ length (x ∷ xs)
    by true e go = absurd (let e' : Some 0 ≡ None = rw e at h in cc)
    by false e go = let rest = go (no_place _ (rw e at h)) in rw e (omega (arith, rest))

pub list_any-none : {A : Type 0} (test : A → Bool) (xs : List A) → first_place test xs ≡ None → list_any test xs ≡ false
list_any-none test [] h = refl
list_any-none test (x ∷ xs) h = by (test x) refl (list_any-none test xs)
  where
    by : (b : Bool) → test x ≡ b → (first_place test xs ≡ None → list_any test xs ≡ false) → list_any test (x ∷ xs) ≡ false
    by true e go = absurd (let e' : Some 0 ≡ None = rw e at h in cc)
    by false e go = rw e (go (no_place _ (rw e at h)))
