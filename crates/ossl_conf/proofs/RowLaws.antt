-- Sections by rows: what a new name and a new row change.
use Rattle.std.proofs.Common.{◌≡◌, ℕ, zero, suc, ◌+◌, ◌<◌, ◌≤◌, ◌==◌, nat_eq, nat_lt, Bool, true, false, ◌&&◌, if◌then◌else◌, Option, None, Some, Vec, List, [], ◌∷◌, ◌++◌, length, map, slice_get, refl, ap, sym, ◌∙◌, arith}
use Rattle.std.specs.declared.alloc.Global.{Global}
use Rattle.std.specs.Cmp.Lexicographic.{pointwise}
use Rattle.std.specs.List.{list_all}
use Rattle.std.specs.Map.{lookup}
use Rattle.std.specs.Str.{bytes_eq}
use Rattle.std.proofs.lemmas.Bool.{and_from, and_parts, eq-eqb, eqb-true, ltb-true, lt-ltb, ne_eqb}
use Rattle.indexmap.specs.IndexMap.{insert_entry}
use Rattle.smallvec.specs.SmallVec.{SmallVec}
use Rattle.ossl_conf.specs.Sections.{Entries, Sections, changed, found, with_section, with_value}
use Rattle.ossl_conf.specs.Places.{entries_at, first_place, place_of}
use Rattle.ossl_conf.specs.Rows.{Rows, are_placed, names_of, of_section, row_of, rows_of, sections_by}
use Rattle.ossl_conf.proofs.PlaceLaws.{next_place}

-- the places of sections are those of their names
pub place_of-sections_by : (at : ℕ) (names : List (List ℕ)) (rows : Rows) (name : List ℕ) → place_of (sections_by at names rows) name ≡ first_place (bytes_eq name) names
place_of-sections_by at [] rows name = refl
place_of-sections_by at (first ∷ names) rows name = rw (place_of-sections_by (at + 1) names rows name) refl

-- the places of names are those of the keys
pub first_place-names_of : (name : List ℕ) (keys : List (Vec ℕ Global)) → first_place (bytes_eq name) (names_of keys) ≡ first_place (λ key. bytes_eq name key.items) keys
first_place-names_of name [] = refl
first_place-names_of name (key ∷ keys) = rw (first_place-names_of name keys) refl

-- each row is of a section below a place
abbrev pub are_below : ℕ → Rows → Bool
are_below most rows = list_all (λ row. nat_lt row.0.0 most) rows

pub are_below-more : (most more : ℕ) (rows : Rows) → most ≤ more → are_below most rows ≡ true → are_below more rows ≡ true
are_below-more most more [] le placed = refl
are_below-more most more (row ∷ rows) le placed =
    let both = and_parts (nat_lt row.0.0 most) (are_below most rows) placed in
    let lt = ltb-true row.0.0 most both.0 in
    and_from (nat_lt row.0.0 more) (are_below more rows) (lt-ltb row.0.0 more (omega arith)) (are_below-more most more rows le both.1)

-- no row is of a section behind all names
pub of_section-none : (at most : ℕ) (rows : Rows) → are_below most rows ≡ true → most ≤ at → of_section at rows ≡ []
of_section-none at most [] placed le = refl
of_section-none at most (row ∷ rows) placed le =
    let both = and_parts (nat_lt row.0.0 most) (are_below most rows) placed in
    let lt = ltb-true row.0.0 most both.0 in
    rw (ne_eqb at row.0.0 (λ e. omega (arith, e, lt, le))) (of_section-none at most rows both.1 le)

-- a new name comes last, without entries
pub sections_by-push : (at : ℕ) (names : List (List ℕ)) (name : List ℕ) (rows : Rows) → are_below (at + length names) rows ≡ true
    → sections_by at (names ++ name ∷ []) rows ≡ sections_by at names rows ++ (name, []) ∷ []
sections_by-push at [] name rows placed = ap (λ (entries : Entries). (name, entries) ∷ []) (of_section-none at (at + 0) rows placed (omega arith))
sections_by-push at (first ∷ names) name rows placed =
    ap (λ (s : Sections). (first, of_section at rows) ∷ s) (sections_by-push (at + 1) names name rows (are_below-more _ _ rows (omega arith) placed))

-- the entries at a place are those of its rows
pub entries_at-sections_by : (first at : ℕ) (names : List (List ℕ)) (rows : Rows) → are_below (first + length names) rows ≡ true
    → entries_at (sections_by first names rows) at ≡ of_section (first + at) rows
entries_at-sections_by first at [] rows placed = sym (of_section-none (first + at) (first + 0) rows placed (omega arith))
entries_at-sections_by first zero (name ∷ names) rows placed = ap (λ at. of_section at rows) (let e : first ≡ first + 0 = omega arith in e)
entries_at-sections_by first (suc at) (name ∷ names) rows placed =
    entries_at-sections_by (first + 1) at names rows (are_below-more _ _ rows (omega arith) placed)
    ∙ ap (λ at. of_section at rows) (let e : (first + 1) + at ≡ first + suc at = omega arith in e)

-- rows with a value set: where it stood it keeps its place, and a new one comes last
abbrev pub insert_row : ℕ → List ℕ → List ℕ → Rows → Rows
insert_row at name value [] = ((at, name), value) ∷ []
insert_row at name value (row ∷ rows) =
    if at == row.0.0 && bytes_eq name row.0.1 then (row.0, value) ∷ rows else row ∷ insert_row at name value rows

-- equal keys of the code's map
abbrev pub same_key : ℕ × SmallVec ℕ → ℕ × SmallVec ℕ → Bool
same_key one other = nat_eq one.0 other.0 && pointwise nat_eq one.1.items other.1.items

pub rows_of-insert_entry : (entries : List ((ℕ × SmallVec ℕ) × List ℕ)) (key : ℕ × SmallVec ℕ) (value : List ℕ)
    → rows_of (insert_entry same_key entries key value) ≡ insert_row key.0 key.1.items value (rows_of entries)
rows_of-insert_entry [] key value = refl
rows_of-insert_entry (entry ∷ entries) key value = by (same_key key entry.0) refl (rows_of-insert_entry entries key value)
  where
    by : (b : Bool) → same_key key entry.0 ≡ b → rows_of (insert_entry same_key entries key value) ≡ insert_row key.0 key.1.items value (rows_of entries) → rows_of (insert_entry same_key (entry ∷ entries) key value) ≡ insert_row key.0 key.1.items value (rows_of (entry ∷ entries))
    by true e go = rw e refl
    by false e go = rw e (ap (λ (rows : Rows). row_of entry ∷ rows) go)

-- what the code's map has at a key
pub lookup-found : (entries : List ((ℕ × SmallVec ℕ) × List ℕ)) (key : ℕ × SmallVec ℕ) → lookup (same_key key) entries ≡ found key.1.items (of_section key.0 (rows_of entries))
lookup-found [] key = refl
lookup-found (entry ∷ entries) key = by (nat_eq key.0 entry.0.0) refl (lookup-found entries key)
  where
    by : (b : Bool) → nat_eq key.0 entry.0.0 ≡ b → lookup (same_key key) entries ≡ found key.1.items (of_section key.0 (rows_of entries)) → lookup (same_key key) (entry ∷ entries) ≡ found key.1.items (of_section key.0 (rows_of (entry ∷ entries)))
    by true e go = rw (e, go) refl
    by false e go = rw (e, go) refl

-- each row is still of a section below a place
pub are_below-insert_row : (most at : ℕ) (name value : List ℕ) (rows : Rows) → at < most → are_below most rows ≡ true → are_below most (insert_row at name value rows) ≡ true
are_below-insert_row most at name value [] lt placed = and_from (nat_lt at most) true (lt-ltb at most lt) refl
are_below-insert_row most at name value (row ∷ rows) lt placed = by (at == row.0.0 && bytes_eq name row.0.1) refl (are_below-insert_row most at name value rows lt)
  where
    by : (b : Bool) → (at == row.0.0 && bytes_eq name row.0.1) ≡ b → (are_below most rows ≡ true → are_below most (insert_row at name value rows) ≡ true) → are_below most (insert_row at name value (row ∷ rows)) ≡ true
    by true e go = rw e placed
    by false e go =
        let both = and_parts (nat_lt row.0.0 most) (are_below most rows) placed in
        rw e (and_from (nat_lt row.0.0 most) (are_below most (insert_row at name value rows)) both.0 (go both.1))

-- a value that is set changes the entries of its section
pub of_section-insert_row : (at : ℕ) (name value : List ℕ) (rows : Rows) → of_section at (insert_row at name value rows) ≡ changed (λ old. value) [] name (of_section at rows)
of_section-insert_row at name value [] = rw (eq-eqb at at refl) refl
of_section-insert_row at name value (row ∷ rows) = by (at == row.0.0) (bytes_eq name row.0.1) refl refl (of_section-insert_row at name value rows)
  where
    by : (b n : Bool) → (at == row.0.0) ≡ b → bytes_eq name row.0.1 ≡ n → of_section at (insert_row at name value rows) ≡ changed (λ old. value) [] name (of_section at rows) → of_section at (insert_row at name value (row ∷ rows)) ≡ changed (λ old. value) [] name (of_section at (row ∷ rows))
    by true true e f go = simp (e, f) refl
    by true false e f go = simp (e, f) (ap (λ (entries : Entries). (row.0.1, row.1) ∷ entries) go)
    by false n e f go = simp e go

-- and those of no other
pub of_section-other : (other at : ℕ) (name value : List ℕ) (rows : Rows) → (other == at) ≡ false → of_section other (insert_row at name value rows) ≡ of_section other rows
of_section-other other at name value [] apart = rw apart refl
of_section-other other at name value (row ∷ rows) apart = by (at == row.0.0 && bytes_eq name row.0.1) refl (of_section-other other at name value rows apart)
  where
    by : (b : Bool) → (at == row.0.0 && bytes_eq name row.0.1) ≡ b → of_section other (insert_row at name value rows) ≡ of_section other rows → of_section other (insert_row at name value (row ∷ rows)) ≡ of_section other (row ∷ rows)
    by true e go =
        let same = eqb-true at row.0.0 (and_parts (at == row.0.0) (bytes_eq name row.0.1) e).0 in
        let apart' : (other == row.0.0) ≡ false = sym (ap (λ n. other == n) same) ∙ apart in
        simp (e, apart') refl
    by false e go = rw (e, go) refl

-- sections behind its section stay
pub sections_by-behind : (first at : ℕ) (name value : List ℕ) (names : List (List ℕ)) (rows : Rows) → at < first → sections_by first names (insert_row at name value rows) ≡ sections_by first names rows
sections_by-behind first at name value [] rows lt = refl
sections_by-behind first at name value (section ∷ names) rows lt =
    rw (of_section-other first at name value rows (ne_eqb first at (λ e. omega (arith, e, lt))), sections_by-behind (first + 1) at name value names rows (omega arith)) refl

-- a value that is set changes its section in its place
pub sections_by-insert_row : (first at : ℕ) (section name value : List ℕ) (names : List (List ℕ)) (rows : Rows) → first_place (bytes_eq section) names ≡ Some at
    → sections_by first names (insert_row (first + at) name value rows) ≡ with_value section name value (sections_by first names rows)
sections_by-insert_row first at section name value [] rows h = absurd (let e : None ≡ Some at = h in cc)
sections_by-insert_row first at section name value (one ∷ names) rows h = by (bytes_eq section one) refl (λ before. sections_by-insert_row (first + 1) before section name value names rows)
  where
    by : (b : Bool) → bytes_eq section one ≡ b
        → ((before : ℕ) → first_place (bytes_eq section) names ≡ Some before → sections_by (first + 1) names (insert_row (first + 1 + before) name value rows) ≡ with_value section name value (sections_by (first + 1) names rows))
        → sections_by first (one ∷ names) (insert_row (first + at) name value rows) ≡ with_value section name value (sections_by first (one ∷ names) rows)
    by true e go =
        let e' : Some 0 ≡ Some at = rw e at h in
        let z : 0 ≡ at = cc in
        let here : first + at ≡ first = omega arith in
        rw (e, here, of_section-insert_row first name value rows, sections_by-behind (first + 1) first name value names rows (omega arith)) refl
    by false e go = next_place (first_place (bytes_eq section) names) at (rw e at h) (λ before f g.
        let there : first + at ≡ (first + 1) + before = omega (arith, g) in
        rw (e, there, of_section-other first ((first + 1) + before) name value rows (ne_eqb first ((first + 1) + before) (λ h. omega (arith, h))), go before f) refl)

-- the entries of the section at a place, by all rows
pub entries_at-rows : (at : ℕ) (names : List (List ℕ)) (rows : Rows) → are_below (length names) rows ≡ true → entries_at (sections_by 0 names rows) at ≡ of_section at rows
entries_at-rows at names rows placed =
    entries_at-sections_by 0 at names rows (are_below-more (length names) _ rows (omega arith) placed)
    ∙ ap (λ at. of_section at rows) (let e : 0 + at ≡ at = omega arith in e)
