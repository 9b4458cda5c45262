-- A caller's lines by their places.
use Rattle.std.proofs.Common.{◌≡◌, ℕ, zero, suc, ◌+◌, Bool, true, false, nat_eq, List, [], ◌∷◌, ◌++◌, length, refl, sym, ap, ◌∙◌, append_assoc, Option, None}
use Rattle.std.specs.Prelude.{if◌then◌else◌, Some, IfSome, option_and_then, slice_get}
use Rattle.std.proofs.lemmas.List.{length-append}
use Rattle.ossl_commands.specs.declared.command.Line.{Line}
use Rattle.ossl_commands.specs.Counts.{lines_of, own_places}

-- the first behind some
here : {A : Type 0} (before : List A) (x : A) (behind : List A) → slice_get (before ++ x ∷ behind) (length before) ≡ Some x
here [] x behind = refl
here (y ∷ before) x behind = here before x behind

-- the lines behind some
own_behind : (caller : ℕ) (before lines : List Line) (index : ℕ)
    → slice_get (lines_of caller lines) index ≡ option_and_then (λ place. slice_get (before ++ lines) place) (slice_get (own_places caller (length before) lines) index)
own_behind caller before [] index = refl
own_behind caller before (line ∷ lines) index = at (nat_eq line.caller caller) index (λ i. own_behind caller (before ++ line ∷ []) lines i)
  where
    longer : length (before ++ line ∷ []) ≡ length before + 1
    longer = length-append before (line ∷ [])

    -- the same with this line among those before
    moved : (i : ℕ) → option_and_then (λ place. slice_get ((before ++ line ∷ []) ++ lines) place) (slice_get (own_places caller (length (before ++ line ∷ [])) lines) i)
        ≡ option_and_then (λ place. slice_get (before ++ line ∷ lines) place) (slice_get (own_places caller (length before + 1) lines) i)
    moved i =
        ap (λ all. option_and_then (λ place. slice_get all place) (slice_get (own_places caller (length (before ++ line ∷ [])) lines) i)) (append_assoc before (line ∷ []) lines)
        ∙ ap (λ n. option_and_then (λ place. slice_get (before ++ line ∷ lines) place) (slice_get (own_places caller n lines) i)) longer

    at : (b : Bool) (index : ℕ)
        → ((i : ℕ) → slice_get (lines_of caller lines) i ≡ option_and_then (λ place. slice_get ((before ++ line ∷ []) ++ lines) place) (slice_get (own_places caller (length (before ++ line ∷ [])) lines) i))
        → slice_get (if b then line ∷ lines_of caller lines else lines_of caller lines) index
        ≡ option_and_then (λ place. slice_get (before ++ line ∷ lines) place)
        (slice_get (if b then length before ∷ own_places caller (length before + 1) lines else own_places caller (length before + 1) lines) index)
    at true zero behind = sym (here before line lines)
    at true (suc index) behind = behind index ∙ moved index
    at false index behind = behind index ∙ moved index

-- a caller's lines, by their places among all
pub own_line : (caller : ℕ) (lines : List Line) (index : ℕ)
    → slice_get (lines_of caller lines) index ≡ option_and_then (λ place. slice_get lines place) (slice_get (own_places caller 0 lines) index)
own_line caller lines index = own_behind caller [] lines index

-- as many places as lines
pub as_many : (caller place : ℕ) (lines : List Line) → length (own_places caller place lines) ≡ length (lines_of caller lines)
as_many caller place [] = refl
as_many caller place (line ∷ lines) = at (nat_eq line.caller caller) (as_many caller (place + 1) lines)
  where
    at : (b : Bool) → length (own_places caller (place + 1) lines) ≡ length (lines_of caller lines)
        → length (if b then place ∷ own_places caller (place + 1) lines else own_places caller (place + 1) lines)
        ≡ length (if b then line ∷ lines_of caller lines else lines_of caller lines)
    at true same = ap (λ n. suc n) same
    at false same = same

-- what holds whatever the answer is
pub for_some : {A : Type 0} (P : Type 0) (o : Option A) → P → IfSome o (λ x. P)
for_some P None p = tt
for_some P (Some x) p = p
