-- Texts of no bytes, and the last bytes of a text that goes on.
use Rattle.std.proofs.Common.{◌≡◌, ℕ, ◌+◌, ◌-◌, List, [], ◌++◌, length, take, drop, refl, sym, ap, ◌∙◌, append_assoc, length-append, arith, Result, Ok, Err, OnOk}
use Rattle.std.proofs.lemmas.List.{take_all, take-append-drop, length-take-le, length-drop}
use Rattle.std.proofs.Math.Seq.{drop-append-add}
use Rattle.ossl_chacha.specs.KeyStream.{ChaChaState, text_from}
use Rattle.ossl_legacy.specs.Rc4State.{Rc4State}
use Rattle.ossl_legacy.specs.Rc4State as R
use Rattle.ossl_speed.specs.Streams.{chacha_text, rc4_text}
use Rattle.ossl_speed.specs.Values.{last}

pub chacha-none : (state : ChaChaState) → chacha_text state [] ≡ []
unfolding text_from
chacha-none state = let none : take _ [] ≡ [] = take_all _ [] (omega arith) in ap (text_from state.key state.iv state.used) none

pub rc4-none : (state : Rc4State) → rc4_text state [] ≡ []
unfolding R.text_of
rc4-none state = refl

-- bytes before the last n do not matter
pub last-last : (n : ℕ) (xs ys : List ℕ) → last n (last n xs ++ ys) ≡ last n (xs ++ ys)
last-last n xs ys =
    let k = length xs - n in
    let tail = drop k xs in
    let size : length (take k xs) ≡ k = length-take-le k xs (omega arith) in
    let after = length (tail ++ ys) - n in
    let place : length (take k xs) + after ≡ length (xs ++ ys) - n =
    omega (arith, size, length-append tail ys, length-append xs ys, length-drop k xs) in
    let whole : take k xs ++ (tail ++ ys) ≡ xs ++ ys = sym (append_assoc (take k xs) tail ys) ∙ ap (λ (t : List ℕ). t ++ ys) (take-append-drop k xs) in
    sym (drop-append-add (take k xs) (tail ++ ys) after) ∙ (λ i. drop (place i) (whole i))

-- what follows from a fact that an answer gives
pub on_ok : {A E P Q : Type 0} (answer : Result A E) → (P → Q) → OnOk answer P → OnOk answer Q
on_ok (Ok a) follows fact = follows fact
on_ok (Err e) follows fact = tt
