-- Texts cut into whole blocks and a rest.
use Rattle.std.proofs.Common.{◌≡◌, ℕ, zero, ◌+◌, ◌-◌, ◌*◌, ◌/◌, ◌%◌, ◌<◌, ◌≤◌, List, [], ◌++◌, length, length-append, take, drop, sym, ap, ◌∙◌, append_assoc, arith, refl}
use Rattle.std.proofs.lemmas.List.{append-nil, drop_all, length-drop, length-take-le, take-append-drop, take_rest}
use Rattle.std.proofs.Math.Nat.{add-div_left, add-mul, div-eq_of_lt, div-mul-le_self, mul-mod_left}
use Rattle.ossl_blocks.specs.Cut.{IsSize, IsCut, whole_len}
use borrow.Rule.Slice.PartMut.{put_mid, post_of}

-- the whole blocks in front of a text
pub length-whole : (size m : ℕ) (xs : List ℕ) → m ≤ length xs → length (take (m / size * size) xs) ≡ m / size * size
length-whole size m xs low = let fits = div-mul-le_self m size in length-take-le (m / size * size) xs (omega (arith, fits))

pub are_whole : (size m : ℕ) (xs : List ℕ) → m ≤ length xs → length (take (m / size * size) xs) % size ≡ 0
are_whole size m xs low = ap (λ (n : ℕ). n % size) (length-whole size m xs low) ∙ mul-mod_left (m / size) size

-- a text too short for a block that is handed on
pub none_whole : (size kept n : ℕ) → n < size + kept → 0 < size → whole_len size kept n ≡ 0
none_whole size kept n short some =
    let none : (n - kept) / size ≡ 0 = div-eq_of_lt (omega arith) in
    let times = ap (λ (q : ℕ). q * size) none in
    omega (arith, times)

-- a block and a text
pub whole_more : (size kept n : ℕ) → 0 < size → kept ≤ n → size + (n - kept) / size * size ≡ whole_len size kept (size + n)
whole_more size kept n some low =
    let all : size + (n - kept) ≡ size + n - kept = omega arith in
    let one = add-mul ((n - kept) / size) 1 size in
    let next = ap (λ (q : ℕ). q * size) (sym (add-div_left (n - kept) some) ∙ ap (λ (m : ℕ). m / size) all) in
    omega (arith, one, next)

-- a begun block that is completed
pub completed : (held front : List ℕ) (count k : ℕ) → count ≤ length held → length held ≤ count + k
    → put_mid count k held front ≡ take count held ++ front
completed held front count k low high =
    let past : post_of count k held ≡ [] = drop_all k (drop count held) (omega (arith, length-drop count held)) in
    rw (past, append-nil) refl

-- a text whose first block is begun already
pub cut_begun : (size kept : ℕ) (text begun rest done held : List ℕ) → 0 < size → text ≡ begun ++ rest → length begun ≡ size → kept ≤ length rest
    → done ≡ begun ++ take ((length rest - kept) / size * size) rest → held ≡ drop ((length rest - kept) / size * size) rest
    → IsCut size kept text done held
cut_begun size kept text begun rest done held some et eb low ed eh =
    let m : ℕ = (length rest - kept) / size * size in
    let len : length text ≡ size + length rest = ap length et ∙ length-append begun rest ∙ ap (λ (n : ℕ). n + length rest) eb in
    record {
      joined = et ∙ ap (λ (x : List ℕ). begun ++ x) (sym (take-append-drop m rest)) ∙ sym (append_assoc begun (take m rest) (drop m rest))
          ∙ sym (λ i. ed i ++ eh i);
      len = ap length ed ∙ length-append begun (take m rest) ∙ (λ i. eb i + length-whole size (length rest - kept) rest (omega arith) i)
          ∙ whole_more size kept (length rest) some low ∙ ap (whole_len size kept) (sym len);
    }
