-- The schedule, word after word.
use Rattle.std.proofs.Common.{◌≡◌, ℕ, suc, ◌+◌, ◌-◌, ◌*◌, ◌/◌, ◌<◌, ◌≤◌, List, [], ◌∷◌, ◌++◌, length, slice_index, take, bit_xor, refl, sym, ap, ◌∙◌, arith}
use Rattle.std.proofs.Math.ListN.{set}
use Rattle.std.proofs.lemmas.List.{take_more_set, length-take-le, get_or-take}
use Rattle.std.proofs.Math.Nat.{div-lt_iff_lt-mul}
use Rattle.ossl_aes.specs.Cipher.{word_at, key_words, schedule, temp_word, next_word}

pub keyed_none : (w key : List ℕ) → [] ≡ key_words key 0
unfolding key_words
keyed_none w key = refl

key_words_more : (key : List ℕ) (i : ℕ) → key_words key (i + 1) ≡ key_words key i ++ word_at key (4 * i) ∷ []
unfolding key_words
key_words_more key i = let e : i + 1 ≡ suc i = omega arith in ap (key_words key) e

pub keyed_more : (w key : List ℕ) (i v : ℕ) → i < length w → take i w ≡ key_words key i → v ≡ word_at key (4 * i)
    → take (i + 1) (set w i v) ≡ key_words key (i + 1)
keyed_more w key i v h e ev = take_more_set w i v h ∙ (λ j. e j ++ ev j ∷ []) ∙ sym (key_words_more key i)

pub scheduled_none : (w key : List ℕ) (nk i : ℕ) → i ≡ nk → take i w ≡ key_words key nk → take nk w ≡ schedule nk key (nk - nk)
unfolding schedule
scheduled_none w key nk i ei e =
    let z : nk - nk ≡ 0 = omega arith in
    ap (λ (j : ℕ). take j w) (sym ei) ∙ e ∙ sym (ap (schedule nk key) z)

pub scheduled_more : (w key : List ℕ) (nk i t : ℕ) → 0 < nk → nk ≤ i → i < length w → take i w ≡ schedule nk key (i - nk)
    → t ≡ temp_word nk i (slice_index w (i - 1))
    → take (i + 1) (set w i (bit_xor (slice_index w (i - nk)) t)) ≡ schedule nk key (i + 1 - nk)
unfolding schedule
scheduled_more w key nk i t pos le h e et =
    let next : i + 1 - nk ≡ suc (i - nk) = omega arith in
    let len : length (take i w) ≡ i = length-take-le i w (omega arith) in
    let old = get_or-take i w (i - nk) 0 (omega arith) in
    let last = get_or-take i w (i - 1) 0 (omega arith) in
    let n : next_word nk (take i w) ≡ bit_xor (slice_index w (i - nk)) t = rw (len, old, last, et) refl in
    take_more_set w i _ h ∙ (λ j. e j ++ sym n j ∷ []) ∙ ap (λ (x : List ℕ). schedule nk key (i - nk) ++ next_word nk x ∷ []) e ∙ sym (ap (schedule nk key) next)

-- no more than ten round constants are read
pub few : (i nk : ℕ) → 4 ≤ nk → i < 4 * nk + 28 → i / nk ≤ 10
few i nk le h =
    let small : i / nk < 11 = (div-lt_iff_lt-mul {k = nk} {x = i} {y = 11} (omega arith)).1 (omega arith) in
    omega arith
