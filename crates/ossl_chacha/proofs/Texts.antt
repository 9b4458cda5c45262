-- A text goes on from byte to byte, from block to block, and from piece to piece.
use Rattle.std.proofs.Common.{◌≡◌, ℕ, zero, suc, ◌+◌, ◌-◌, ◌*◌, ◌/◌, ◌%◌, ◌<◌, ◌≤◌, List, [], ◌∷◌, ◌++◌, length, get_or, set, take, drop, bit_xor, refl, sym, ap, ◌∙◌, min, append_assoc, length-append, arith, inl, inr}
use Rattle.std.proofs.lemmas.List.{drop_more, take_more_set, drop-set-lt, append-nil, take_all, take_at, drop_at, drop_all, take-append-drop, length-take, length-take-le, length-drop}
use Rattle.std.proofs.lemmas.Bool.{cases_lt}
use borrow.Rule.Slice.PartMut.{put_mid}
use Rattle.ossl_chacha.specs.KeyStream.{block_at, key_byte, text_from, xored}
use Rattle.ossl_chacha.proofs.Refill.{blocks_at, length-block_at}

-- one byte further in a text that is xored in place
pub xored_more : (text stream : List ℕ) (i : ℕ) → i < length text → i < length stream
    → take i text ++ xored (drop i text) (drop i stream)
    ≡ take (i + 1) (set text i (bit_xor (get_or text i 0) (get_or stream i 0)))
    ++ xored (drop (i + 1) (set text i (bit_xor (get_or text i 0) (get_or stream i 0)))) (drop (i + 1) stream)
unfolding xored
xored_more text stream i h k =
    let y = bit_xor (get_or text i 0) (get_or stream i 0) in
    rw (take_more_set text i y h, drop-set-lt (i + 1) text i y (omega arith), drop_more text i 0 h, drop_more stream i 0 k)
    (sym (append_assoc (take i text) (y ∷ []) (xored (drop (i + 1) text) (drop (i + 1) stream))))

-- bytes xored with what is left of the current block are the text from there on
pub xored-block : (key iv text : List ℕ) (n at place : ℕ) → length (block_at key iv n) ≡ 64 → place ≡ 64 * n + at → at + length text ≤ 64
    → xored text (drop at (block_at key iv n)) ≡ text_from key iv place text
unfolding xored text_from
xored-block key iv [] n at place size is fits = refl
xored-block key iv (x ∷ xs) n at place size is fits =
    let block : place / 64 ≡ n = omega arith in
    let byte : place % 64 ≡ at = omega arith in
    rw (block, byte, drop_more (block_at key iv n) at 0 (omega arith))
    (ap (λ (t : List ℕ). bit_xor x (get_or (block_at key iv n) at 0) ∷ t) (xored-block key iv xs n (at + 1) (place + 1) size (omega arith) (omega arith)))

-- a text has as many bytes as it is made of
pub length-text_from : (key iv : List ℕ) (place : ℕ) (xs : List ℕ) → length (text_from key iv place xs) ≡ length xs
unfolding text_from
length-text_from key iv place [] = refl
length-text_from key iv place (x ∷ xs) = ap suc (length-text_from key iv (place + 1) xs)

-- the text of a message in two parts
pub text_from-append : (key iv : List ℕ) (place : ℕ) (xs ys : List ℕ)
    → text_from key iv place (xs ++ ys) ≡ text_from key iv place xs ++ text_from key iv (place + length xs) ys
unfolding text_from
text_from-append key iv place [] ys = ap (λ (p : ℕ). text_from key iv p ys) (omega arith)
text_from-append key iv place (x ∷ xs) ys =
    let further : place + 1 + length xs ≡ place + suc (length xs) = omega arith in
    ap (λ (t : List ℕ). bit_xor x (key_byte key iv place) ∷ t)
    (text_from-append key iv (place + 1) xs ys ∙ ap (λ (p : ℕ). text_from key iv (place + 1) xs ++ text_from key iv p ys) further)

-- two parts xored with two parts
xored-append : (a b c d : List ℕ) → length a ≡ length c → xored (a ++ b) (c ++ d) ≡ xored a c ++ xored b d
unfolding xored
xored-append [] b [] d h = refl
xored-append [] b (y ∷ c) d h = absurd (omega (arith, h))
xored-append (x ∷ a) b [] d h = absurd (omega (arith, h))
xored-append (x ∷ a) b (y ∷ c) d h = ap (λ (t : List ℕ). bit_xor x y ∷ t) (xored-append a b c d (omega (arith, h)))

-- bytes xored with at least as many as they are
xored-front : (xs c d : List ℕ) → length xs ≤ length c → xored xs (c ++ d) ≡ xored xs c
unfolding xored
xored-front [] [] d h = refl
xored-front [] (y ∷ c) d h = refl
xored-front (x ∷ xs) [] d h = absurd (omega (arith, h))
xored-front (x ∷ xs) (y ∷ c) d h = ap (λ (t : List ℕ). bit_xor x y ∷ t) (xored-front xs c d (omega (arith, h)))

-- bytes xored with whole blocks that reach as far are the text from there on
pub xored-blocks : (key iv text : List ℕ) (n m : ℕ) → length text ≤ 64 * m → xored text (blocks_at key iv n m) ≡ text_from key iv (64 * n) text
unfolding xored text_from blocks_at
xored-blocks key iv [] n zero size = refl
xored-blocks key iv (x ∷ xs) n zero size = absurd (omega (arith, size))
xored-blocks key iv text n (suc m) size =
    elim (cases_lt 64 (length text)) [
      | inl more ↦
          let first = take 64 text in
          let rest = drop 64 text in
          let front : length first ≡ 64 = length-take-le 64 text (omega (arith, more)) in
          let next : 64 * (n + 1) ≡ 64 * n + length first = omega (arith, front) in
          ap (λ (t : List ℕ). xored t (block_at key iv n ++ blocks_at key iv (n + 1) m)) (sym (take-append-drop 64 text))
          ∙ xored-append first rest (block_at key iv n) (blocks_at key iv (n + 1) m) (front ∙ sym (length-block_at key iv n))
          ∙ (λ i. xored-block key iv first n 0 (64 * n) (length-block_at key iv n) (omega arith) (omega (arith, front)) i
          ++ xored-blocks key iv rest (n + 1) m (omega (arith, size, length-drop 64 text)) i)
          ∙ ap (λ (p : ℕ). text_from key iv (64 * n) first ++ text_from key iv p rest) next
          ∙ sym (text_from-append key iv (64 * n) first rest)
          ∙ ap (text_from key iv (64 * n)) (take-append-drop 64 text)
      | inr less ↦
          xored-front text (block_at key iv n) (blocks_at key iv (n + 1) m) (omega (arith, less, length-block_at key iv n))
          ∙ xored-block key iv text n 0 (64 * n) (length-block_at key iv n) (omega arith) (omega (arith, less))
    ]

-- no bytes, nothing xored
pub xored-nil : (ys : List ℕ) → xored [] ys ≡ []
unfolding xored
xored-nil ys = refl

-- bytes xored with as many as they are
pub xored-take : (xs ys : List ℕ) → xored xs (take (length xs) ys) ≡ xored xs ys
unfolding xored
xored-take [] ys = refl
xored-take (x ∷ xs) [] = refl
xored-take (x ∷ xs) (y ∷ ys) = ap (λ (t : List ℕ). bit_xor x y ∷ t) (xored-take xs ys)

-- the text of the front, written over it, and the text of the rest
pub front_more : (key iv first text new : List ℕ) (used used' done count : ℕ) → done ≤ length text → count ≤ length text - done → used' ≡ used + count
    → new ≡ text_from key iv used (take count (drop done text)) ++ drop count (drop done text)
    → first ≡ take done text ++ text_from key iv used (drop done text)
    → first ≡ take (done + count) (take done text ++ new) ++ text_from key iv used' (drop (done + count) (take done text ++ new))
front_more key iv first text new used used' done count hd hc next is before =
    let rest = drop done text in
    let part = text_from key iv used (take count rest) in
    let size : length part ≡ count = length-text_from key iv used (take count rest) ∙ length-take-le count rest (omega (arith, length-drop done text)) in
    let front : length (take done text ++ part) ≡ done + count = length-append (take done text) part ∙ (λ i. length-take-le done text hd i + size i) in
    let split : take done text ++ new ≡ (take done text ++ part) ++ drop count rest =
    ap (λ (t : List ℕ). take done text ++ t) is ∙ sym (append_assoc (take done text) part (drop count rest)) in
    let whole : text_from key iv used rest ≡ part ++ text_from key iv used' (drop count rest) =
    ap (text_from key iv used) (sym (take-append-drop count rest))
    ∙ text_from-append key iv used (take count rest) (drop count rest)
    ∙ ap (λ (p : ℕ). part ++ text_from key iv p (drop count rest))
    (ap (λ (n : ℕ). used + n) (length-take-le count rest (omega (arith, length-drop done text))) ∙ sym next) in
    rw (split, take_at (take done text ++ part) (drop count rest) (done + count) front, drop_at (take done text ++ part) (drop count rest) (done + count) front)
    (before ∙ ap (λ (t : List ℕ). take done text ++ t) whole ∙ sym (append_assoc (take done text) part (text_from key iv used' (drop count rest))))

-- the first bytes of a message in two parts
take_past : (n : ℕ) (xs ys : List ℕ) → take n (xs ++ ys) ≡ take n xs ++ take (n - length xs) ys
take_past n [] ys =
    let none : take n [] ≡ [] = take_all n [] (omega arith) in
    let same : n ≡ n - 0 = omega arith in
    λ i. sym none i ++ take (same i) ys
take_past zero (x ∷ xs) ys =
    let same : 0 ≡ 0 - suc (length xs) = omega arith in ap (λ (k : ℕ). take k ys) same
take_past (suc n) (x ∷ xs) ys =
    let same : n - length xs ≡ suc n - suc (length xs) = omega arith in
    ap (λ (t : List ℕ). x ∷ t) (take_past n xs ys ∙ ap (λ (k : ℕ). take n xs ++ take k ys) same)

-- a piece longer than what is left counts only that far
pub text_from-rest : (key iv bytes rest : List ℕ) (used left count : ℕ) → count ≡ min left (length bytes)
    → text_from key iv used (take left (bytes ++ rest))
    ≡ text_from key iv used (take left bytes) ++ text_from key iv (used + count) (take (left - count) rest)
text_from-rest key iv bytes rest used left count is =
    let size : length (take left bytes) ≡ count = length-take left bytes ∙ sym is in
    let over : left - length bytes ≡ left - count = omega arith in
    ap (text_from key iv used) (take_past left bytes rest)
    ∙ text_from-append key iv used (take left bytes) (take (left - length bytes) rest)
    ∙ ap (λ (p : ℕ). text_from key iv used (take left bytes) ++ text_from key iv (used + p) (take (left - length bytes) rest)) size
    ∙ ap (λ (p : ℕ). text_from key iv used (take left bytes) ++ text_from key iv (used + count) (take p rest)) over

-- no bytes, no text
pub text_from-nil : (key iv : List ℕ) (place : ℕ) → text_from key iv place [] ≡ []
unfolding text_from
text_from-nil key iv place = refl

-- the end of a slice written over
pub put_end : (done : ℕ) (text new : List ℕ) → done ≤ length text → put_mid done (length text - done) text new ≡ take done text ++ new
put_end done text new h =
    let none : drop (length text - done) (drop done text) ≡ [] = drop_all _ (drop done text) (omega (arith, length-drop done text)) in
    ap (λ (t : List ℕ). take done text ++ (new ++ t)) none ∙ ap (λ (t : List ℕ). take done text ++ t) (append-nil new)
