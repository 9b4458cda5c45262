-- Names that are set.
use Rattle.std.proofs.Common.{◌≡◌, ℕ, suc, ◌==◌, Bool, true, false, ◌||◌, Option, Some, List, [], ◌∷◌, length, refl, ap, sym, ◌∙◌, arith, inl, inr}
use Rattle.std.proofs.lemmas.Bool.{eqb-true, ne_eqb, or_cases, or_parts}
use Rattle.ossl_conf.specs.declared.kind.ConfKind.TheVariants.{Name}
use Rattle.ossl_conf.specs.Values.{cut_at_colons}
use Rattle.ossl_conf.specs.Said.{faulty, sets, sets_cut, sets_in, sets_named}

full : {P : Type 0} (b : ℕ) (text : List ℕ) → (length (b ∷ text) == 0) ≡ true → P
full b text h = absurd (let e = eqb-true (length (b ∷ text)) 0 h in omega (arith, e))

-- a name is cut where it is not empty
pub sets_named-full : (name value : List ℕ) → (length name == 0) ≡ false → sets_named name value ≡ sets_cut (cut_at_colons name) name value
sets_named-full [] value h = absurd (let e : true ≡ false = h in cc)
sets_named-full (b ∷ name) value h = refl

-- its parts are not empty
pub sets_in-empty : (section name value : List ℕ) → ((length section == 0) || (length name == 0)) ≡ true → sets_in section name value ≡ faulty Name
sets_in-empty [] name value h = refl
sets_in-empty (s ∷ section) [] value h = refl
sets_in-empty (s ∷ section) (n ∷ name) value h =
    elim (or_cases (length (s ∷ section) == 0) (length (n ∷ name) == 0) h) [ inl e ↦ full s section e | inr e ↦ full n name e ]

pub sets_in-full : (section name value : List ℕ) → ((length section == 0) || (length name == 0)) ≡ false → sets_in section name value ≡ sets (Some section) name value
sets_in-full [] name value h = absurd (let e : true ≡ false = (or_parts (0 == 0) (length name == 0) h).0 in cc)
sets_in-full (s ∷ section) [] value h = absurd (let e : true ≡ false = (or_parts (length (s ∷ section) == 0) (0 == 0) h).1 in cc)
sets_in-full (s ∷ section) (n ∷ name) value h = refl
