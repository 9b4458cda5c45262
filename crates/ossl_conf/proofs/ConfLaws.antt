-- What was read so far, as sections are opened and set.
use Rattle.std.proofs.Common.{◌≡◌, ℕ, ◌+◌, ◌<◌, ◌≤◌, Option, None, Some, Result, Ok, Err, List, length, if◌then◌else◌, refl, ap, sym, subst, ◌∙◌}
use Rattle.std.proofs.lemmas.Bool.{lt-ltb, le-ltb}
use Rattle.ossl_conf.specs.declared.kind.ConfKind.TheVariants.{Growth}
use Rattle.ossl_conf.specs.declared.refusal.ConfRefused.TheVariants.{Line}
use Rattle.ossl_conf.specs.Reading.{Conf, after_opening, after_setting, most_values}
use Rattle.ossl_conf.specs.Sections.{Sections, default_section, value_in, variable_value, with_section, with_value}
use Rattle.ossl_conf.specs.Places.{current_name, name_at, place_of, value_at, value_at_or_default, IsPlace, Stays}
use Rattle.ossl_conf.proofs.PlaceLaws.{name_at-place_of, value_in-place, with_section-there, with_value-opened}

-- a place stays one, with its name
pub name_at-Stays : (old new : Sections) (at : ℕ) → Stays old new → place_of old (name_at old at) ≡ Some at → name_at new at ≡ name_at old at
name_at-Stays old new at stays there = name_at-place_of new (name_at old at) at (stays (name_at old at) at there)

pub IsPlace-Stays : (old new : Sections) (place : Option ℕ) → Stays old new → IsPlace old place → IsPlace new place
IsPlace-Stays old new place stays there = λ at e. ap (place_of new) (name_at-Stays old new at stays (there at e)) ∙ stays (name_at old at) at (there at e)

pub current_name-Stays : (old new : Sections) (place : Option ℕ) → Stays old new → IsPlace old place → current_name new place ≡ current_name old place
current_name-Stays old new None stays there = refl
current_name-Stays old new (Some at) stays there = name_at-Stays old new at stays (there at refl)

-- the place of a name is one
pub IsPlace-place_of : (sections : Sections) (name : List ℕ) (at : ℕ) → place_of sections name ≡ Some at → place_of sections (name_at sections at) ≡ Some at
IsPlace-place_of sections name at there = ap (place_of sections) (name_at-place_of sections name at there) ∙ there

-- a name that is set in a section that was opened for it
pub with_value-place : (old new : Sections) (section name value : List ℕ) (at : ℕ) → new ≡ with_section section old → place_of new section ≡ Some at
    → with_value (name_at new at) name value new ≡ with_value section name value old
with_value-place old new section name value at opened there =
    ap (λ s. with_value s name value new) (name_at-place_of new section at there)
    ∙ ap (with_value section name value) opened ∙ with_value-opened old section name value

-- a variable by the place of its section
pub variable_value-place : (sections : Sections) (section name : List ℕ) → variable_value sections section name ≡ value_at_or_default sections (place_of sections section) name
variable_value-place sections section name = rw (value_in-place sections section name, value_in-place sections default_section name) refl

-- a name was set
pub set_done : (old new : Conf) (number : ℕ) (section name value : List ℕ) → old.total + length value ≤ most_values
    → new.current ≡ old.current → new.sections ≡ with_value section name value old.sections → new.total ≡ old.total + length value → new.left ≡ old.left
    → after_setting old number section name value ≡ Ok new
set_done old new number section name value fits current sections total left =
    ap (λ long. if long then Err (Line number Growth) else Ok (record old { sections = with_value section name value old.sections; total = old.total + length value })) (le-ltb most_values (old.total + length value) fits)
    ∙ (λ i. Ok (record { current = sym current i; sections = sym sections i; total = sym total i; left = sym left i }))

pub set_refused : (old : Conf) (number : ℕ) (section name value : List ℕ) → most_values < old.total + length value → after_setting old number section name value ≡ Err (Line number Growth)
set_refused old number section name value above =
    ap (λ long. if long then Err (Line number Growth) else Ok (record old { sections = with_value section name value old.sections; total = old.total + length value })) (lt-ltb most_values (old.total + length value) above)

-- a section was opened
pub opened_done : (old new : Conf) (name : List ℕ) → new.current ≡ name → new.sections ≡ with_section name old.sections → new.total ≡ old.total → new.left ≡ old.left → after_opening old name ≡ new
opened_done old new name current sections total left = λ i. record { current = sym current i; sections = sym sections i; total = sym total i; left = sym left i }

-- a place among the same sections
pub IsPlace-same : (old new : Sections) (was is : Option ℕ) → new ≡ old → is ≡ was → IsPlace old was → IsPlace new is
IsPlace-same old new was is sections place h = subst (λ all. IsPlace all is) (sym sections) (subst (λ at. IsPlace old at) (sym place) h)
