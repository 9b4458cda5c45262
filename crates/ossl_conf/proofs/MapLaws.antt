-- The sections of the code's map: what its calls say of them.
use Rattle.std.proofs.Common.{◌≡◌, ℕ, zero, ◌+◌, ◌<◌, ◌≤◌, nat_eq, Bool, true, false, ◌&&◌, if◌then◌else◌, Option, None, Some, Vec, List, [], ◌∷◌, ◌++◌, length, map, refl, ap, sym, subst, ◌∙◌, arith, length-append, Result, Ok, Err, IfOk, OnErr, ◌⊎◌, inl, inr}
use Rattle.std.specs.declared.alloc.Global.{Global}
use Rattle.std.specs.Cmp.Lexicographic.{pointwise}
use Rattle.std.specs.List.{list_any, position, position_or_len}
use Rattle.std.specs.Map.{lookup}
use Rattle.std.specs.Str.{bytes_eq}
use Rattle.std.proofs.lemmas.List.{map-append}
use Rattle.indexmap.specs.IndexMap.{insert_entry}
use Rattle.indexmap.specs.IndexSet.{insert_key}
use Rattle.smallvec.specs.SmallVec.{SmallVec}
use Rattle.ossl_conf.specs.Sections.{Entries, Sections, found, with_section, with_value}
use Rattle.ossl_conf.specs.Places.{entries_at, first_place, name_at, place_of, Stays}
use Rattle.ossl_conf.specs.Rows.{Rows, are_placed, names_of, of_section, rows_of, sections_by}
use Rattle.ossl_conf.proofs.PlaceLaws.{bytes_eq-itself, changed-absent, first_place-append, first_place-lt, first_place-position, first_place-push, list_any-none, position_or_len-none, with_section-there}
use Rattle.ossl_conf.proofs.RowLaws.{are_below, are_below-insert_row, are_below-more, entries_at-sections_by, first_place-names_of, insert_row, lookup-found, place_of-sections_by, rows_of-insert_entry, same_key, sections_by-insert_row, sections_by-push}

-- the code's keys that equal a name
abbrev pub is_key : List ℕ → Vec ℕ Global → Bool
is_key name key = pointwise nat_eq name key.items

module _ (keys : List (Vec ℕ Global)) (rows : Rows) where
  -- the sections
  abbrev pub sections : Sections
  sections = sections_by 0 (names_of keys) rows

  pub place_of-first : (name : List ℕ) → place_of sections name ≡ first_place (is_key name) keys
  place_of-first name = place_of-sections_by 0 (names_of keys) rows name ∙ first_place-names_of name keys

  -- the place that the code finds
  pub place_of-keys : (name : List ℕ) → position (is_key name) keys ≡ place_of sections name
  place_of-keys name = sym (place_of-first name ∙ first_place-position (is_key name) keys)

  module _ (placed : are_placed (names_of keys) rows ≡ true) (value : Vec ℕ Global) (none : place_of sections value.items ≡ None) where
    absent : first_place (is_key value.items) keys ≡ None
    absent = sym (place_of-first value.items) ∙ none

    -- a new key comes last
    pub insert_key-new : insert_key (λ one other. pointwise nat_eq one.items other.items) keys value ≡ keys ++ value ∷ []
    insert_key-new = ap (λ b. if b then keys else keys ++ value ∷ []) (list_any-none (is_key value.items) keys absent)

    names-new : names_of (keys ++ value ∷ []) ≡ names_of keys ++ value.items ∷ []
    names-new = map-append _ keys (value ∷ [])

    -- and so does its section
    pub sections-new : sections_by 0 (names_of (keys ++ value ∷ [])) rows ≡ with_section value.items sections
    sections-new =
        ap (λ names. sections_by 0 names rows) names-new
        ∙ sections_by-push 0 (names_of keys) value.items rows (are_below-more (length (names_of keys)) _ rows (omega arith) placed)
        ∙ sym (changed-absent (λ entries. entries) [] value.items sections none)

    pub place-new : place_of (sections_by 0 (names_of (keys ++ value ∷ [])) rows) value.items ≡ Some (position_or_len (is_key value.items) keys)
    place-new =
        place_of-sections_by 0 (names_of (keys ++ value ∷ [])) rows value.items ∙ first_place-names_of value.items (keys ++ value ∷ [])
        ∙ first_place-push (is_key value.items) keys value absent (bytes_eq-itself value.items)
        ∙ ap Some (sym (position_or_len-none (is_key value.items) keys absent))

    pub placed-new : are_placed (names_of (keys ++ value ∷ [])) rows ≡ true
    placed-new = are_below-more (length (names_of keys)) (length (names_of (keys ++ value ∷ []))) rows (simp (names-new, length-append) (omega arith)) placed

  -- every section stays where a key is new
  pub stays-new : (value : Vec ℕ Global) → Stays sections (sections_by 0 (names_of (keys ++ value ∷ [])) rows)
  stays-new value name at h =
      place_of-sections_by 0 (names_of (keys ++ value ∷ [])) rows name ∙ first_place-names_of name (keys ++ value ∷ [])
      ∙ first_place-append (is_key name) keys (value ∷ []) at (sym (place_of-first name) ∙ h)

  -- and where rows change
  pub stays-rows : (other : Rows) → Stays sections (sections_by 0 (names_of keys) other)
  stays-rows other name at h = place_of-sections_by 0 (names_of keys) other name ∙ sym (place_of-sections_by 0 (names_of keys) rows name) ∙ h

module _ (keys : List (Vec ℕ Global)) (entries : List ((ℕ × SmallVec ℕ) × List ℕ)) (placed : are_placed (names_of keys) (rows_of entries) ≡ true) where
  -- what the code's map has at a key
  pub lookup-entries : (key : ℕ × SmallVec ℕ) → lookup (same_key key) entries ≡ found key.1.items (entries_at (sections keys (rows_of entries)) key.0)
  lookup-entries key =
      lookup-found entries key
      ∙ ap (found key.1.items) (sym (entries_at-sections_by 0 key.0 (names_of keys) (rows_of entries) (are_below-more _ _ (rows_of entries) (omega arith) placed) ∙ ap (λ at. of_section at (rows_of entries)) (let e : 0 + key.0 ≡ key.0 = omega arith in e)))

  module _ (key : ℕ × SmallVec ℕ) (value section : List ℕ) (there : place_of (sections keys (rows_of entries)) section ≡ Some key.0) where
    first : first_place (bytes_eq section) (names_of keys) ≡ Some key.0
    first = sym (place_of-sections_by 0 (names_of keys) (rows_of entries) section) ∙ there

    -- a value that is set
    pub sections-set : sections_by 0 (names_of keys) (rows_of (insert_entry same_key entries key value)) ≡ with_value section key.1.items value (sections keys (rows_of entries))
    sections-set =
        ap (λ rows. sections_by 0 (names_of keys) rows) (rows_of-insert_entry entries key value)
        ∙ ap (λ at. sections_by 0 (names_of keys) (insert_row at key.1.items value (rows_of entries))) (let e : key.0 ≡ 0 + key.0 = omega arith in e)
        ∙ sections_by-insert_row 0 key.0 section key.1.items value (names_of keys) (rows_of entries) first

    pub placed-set : are_placed (names_of keys) (rows_of (insert_entry same_key entries key value)) ≡ true
    placed-set =
        ap (are_below (length (names_of keys))) (rows_of-insert_entry entries key value)
        ∙ are_below-insert_row (length (names_of keys)) key.0 key.1.items value (rows_of entries) (first_place-lt (bytes_eq section) (names_of keys) key.0 first) placed

-- what holds after a call that changed the list or left it
pub either_way : {T E : Type 0} (result : Result T E) (P Q : Type 0) → IfOk result (λ _. P) → OnErr result Q → P ⊎ Q
either_way (Ok x) P Q changed left = inl changed
either_way (Err e) P Q changed left = inr left

-- a call that left the keys moves no section
pub stays-left : (keys other : List (Vec ℕ Global)) (rows : Rows) → other ≡ keys → Stays (sections keys rows) (sections other rows)
stays-left keys other rows e = rw e (λ name at h. h)
