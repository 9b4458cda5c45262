-- Items that are joined one by one.
use Rattle.std.proofs.Common.{◌≡◌, ℕ, suc, ◌+◌, ◌<◌, eqb, Bool, cond, List, [], ◌∷◌, ◌++◌, length, get_or, take, map, refl, sym, ap, ◌∙◌, append_assoc, arith}
use Rattle.std.specs.List.{join_with_byte}
use Rattle.std.proofs.lemmas.Bool.{cond-false, ne_eqb}
use Rattle.std.proofs.lemmas.List.{take_more, map-append, length-map, length-take-le}

apart_by : (n : ℕ) → cond {A = List ℕ} (eqb (suc n) 0) [] (44 ∷ []) ≡ 44 ∷ []
apart_by n = cond-false {A = List ℕ} (eqb (suc n) 0) [] (44 ∷ []) (ne_eqb (suc n) 0 (λ e. omega arith))

joined_push : (xs : List (List ℕ)) (y : List ℕ) → join_with_byte 44 (xs ++ y ∷ []) ≡ (join_with_byte 44 xs ++ cond (eqb (length xs) 0) [] (44 ∷ [])) ++ y
joined_push [] y = refl
joined_push (x ∷ []) y = sym (append_assoc x (44 ∷ []) y)
joined_push (x ∷ z ∷ xs) y =
    let rest : List ℕ = join_with_byte 44 (z ∷ xs) in
    ap (λ (t : List ℕ). x ++ 44 ∷ t) (joined_push (z ∷ xs) y ∙ ap (λ (s : List ℕ). (rest ++ s) ++ y) (apart_by (length xs)) ∙ append_assoc rest (44 ∷ []) y)
    ∙ sym (append_assoc x (44 ∷ rest) (44 ∷ y)) ∙ sym (append_assoc (x ++ 44 ∷ rest) (44 ∷ []) y) ∙ ap (λ (s : List ℕ). ((x ++ 44 ∷ rest) ++ s) ++ y) (sym (apart_by (suc (length xs))))

-- one item more
pub joined_more : {X : Type 0} (f : X → List ℕ) (items : List X) (i : ℕ) (item : X) (before after : List ℕ) (is_first : Bool) → i < length items → item ≡ get_or items i item → before ≡ join_with_byte 44 (map f (take i items)) → is_first ≡ eqb i 0
    → after ≡ (before ++ cond is_first [] (44 ∷ [])) ++ f item → after ≡ join_with_byte 44 (map f (take (i + 1) items))
joined_more {X} f items i item before after is_first lt is text first h =
    let size : length (map f (take i items)) ≡ i = length-map (take i items) f ∙ length-take-le i items (omega arith) in
    let more : map f (take (i + 1) items) ≡ map f (take i items) ++ f (get_or items i item) ∷ [] = ap (λ (t : List X). map f t) (take_more items i item lt) ∙ map-append f (take i items) (get_or items i item ∷ []) in
    h ∙ ap (λ (b : Bool). (before ++ cond b [] (44 ∷ [])) ++ f item) (first ∙ ap (λ (n : ℕ). eqb n 0) (sym size))
    ∙ ap (λ (t : List ℕ). (t ++ cond (eqb (length (map f (take i items))) 0) [] (44 ∷ [])) ++ f item) text
    ∙ sym (joined_push (map f (take i items)) (f item)) ∙ ap (λ (x : X). join_with_byte 44 (map f (take i items) ++ f x ∷ [])) is ∙ ap (join_with_byte 44) (sym more)
