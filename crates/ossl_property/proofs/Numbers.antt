-- A number only grows by more digits.
use Rattle.std.proofs.Common.{◌≡◌, ℕ, ◌+◌, ◌*◌, ◌<◌, ◌≤◌, Bool, true, false, cond, List, [], ◌∷◌, length, get_or, drop, Option, Some, None, arith}
use Rattle.std.proofs.lemmas.List.{drop_more}
use Rattle.ossl_property.specs.Grammar.{digit_of, number_behind}

chosen : {A : Type 0} (t : Bool) (x : Option A) (y : A) → cond t x None ≡ Some y → x ≡ Some y
chosen true x y e = e
chosen false x y e = absurd cc

grows : (n base digit : ℕ) → 0 < base → n ≤ n * base + digit
grows n base digit h = grind arith

some_is : (m n : ℕ) → Some m ≡ Some n → m ≤ n
some_is m n e = let same : m ≡ n = cc in omega arith

number_grows : (base n : ℕ) (text : List ℕ) (m : ℕ) → 0 < base → number_behind base n text ≡ Some m → n ≤ m
number_grows base n [] m h e = some_is n m e
number_grows base n (byte ∷ text) m h e =
    let rest = number_grows base (n * base + digit_of byte) text m h (chosen _ (number_behind base (n * base + digit_of byte) text) m e) in
    let here = grows n base (digit_of byte) h in
    omega arith

-- with one more digit the number is no larger than the whole
pub below_whole : (base n : ℕ) (text : List ℕ) (i m : ℕ) → 0 < base → i < length text → number_behind base n (drop i text) ≡ Some m → n * base + digit_of (get_or text i 0) ≤ m
below_whole base n text i m h lt e =
    let at : number_behind base n (get_or text i 0 ∷ drop (i + 1) text) ≡ Some m = rw (drop_more text i 0 lt) at e in
    number_grows base (n * base + digit_of (get_or text i 0)) (drop (i + 1) text) m h (chosen _ (number_behind base (n * base + digit_of (get_or text i 0)) (drop (i + 1) text)) m at)
