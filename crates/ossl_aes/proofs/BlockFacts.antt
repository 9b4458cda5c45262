-- A block as four words, and the rounds by words.
use Rattle.std.proofs.Common.{◌≡◌, ℕ, suc, ◌+◌, ◌-◌, ◌*◌, ◌/◌, ◌%◌, ◌^◌, ◌<◌, ◌≤◌, List, [], ◌∷◌, ◌++◌, length, slice_index, map, bit_xor, refl, sym, ap, ◌∙◌, arith}
use Rattle.std.specs.Int.{w32, to_be_bytes, from_be_bytes}
use Rattle.std.proofs.lemmas.Nat.{be_bytes_4}
use Rattle.ossl_aes.specs.Field.{unsub}
use Rattle.ossl_aes.specs.Cipher.{add, word_at, rounds, inv_rounds, round_key, cipher, inv_cipher, column, inv_mix_columns, inv_shift_rows}
use Rattle.ossl_aes.specs.Rounds.{state_of, round, last_round, inv_round, last_inv_round, AreInvMixed}
use Rattle.ossl_aes.proofs.FieldFacts.{row-add}
use Rattle.ossl_aes.proofs.Words.{bytes-xor, four_fit}
use Rattle.ossl_aes.proofs.Lists.{rest_of}

pub upper : (x v w : ℕ) → x ≡ v * 2 ^ 32 + w → w < 2 ^ 32 → x / 2 ^ 32 ≡ v
upper x v w e h = omega arith

pub lower : (x v w : ℕ) → x ≡ v * 2 ^ 32 + w → w < 2 ^ 32 → x % 2 ^ 32 ≡ w
lower x v w e h = omega arith

pub word_fits : (x y z w : ℕ) → x < 256 → y < 256 → z < 256 → w < 256 → from_be_bytes w32 (x ∷ y ∷ z ∷ w ∷ []) < 2 ^ 32
word_fits x y z w hx hy hz hw = omega arith

pub loaded : (b : List ℕ) (w0 w1 w2 w3 : ℕ) → length b ≡ 16 → slice_index b 0 < 256 → slice_index b 1 < 256 → slice_index b 2 < 256 → slice_index b 3 < 256 → slice_index b 4 < 256 → slice_index b 5 < 256 → slice_index b 6 < 256 → slice_index b 7 < 256 → slice_index b 8 < 256 → slice_index b 9 < 256 → slice_index b 10 < 256 → slice_index b 11 < 256 → slice_index b 12 < 256 → slice_index b 13 < 256 → slice_index b 14 < 256 → slice_index b 15 < 256
    → w0 ≡ word_at b 0 → w1 ≡ word_at b 4 → w2 ≡ word_at b 8 → w3 ≡ word_at b 12
    → state_of (w0 ∷ w1 ∷ w2 ∷ w3 ∷ []) ≡ b
loaded b w0 w1 w2 w3 len f0 f1 f2 f3 f4 f5 f6 f7 f8 f9 f10 f11 f12 f13 f14 f15 h0 h1 h2 h3 =
    let e0 = be_bytes_4 (slice_index b 0 ∷ slice_index b 1 ∷ slice_index b 2 ∷ slice_index b 3 ∷ []) w0 refl (four_fit _ _ _ _ f0 f1 f2 f3) h0 in
    let e1 = be_bytes_4 (slice_index b 4 ∷ slice_index b 5 ∷ slice_index b 6 ∷ slice_index b 7 ∷ []) w1 refl (four_fit _ _ _ _ f4 f5 f6 f7) h1 in
    let e2 = be_bytes_4 (slice_index b 8 ∷ slice_index b 9 ∷ slice_index b 10 ∷ slice_index b 11 ∷ []) w2 refl (four_fit _ _ _ _ f8 f9 f10 f11) h2 in
    let e3 = be_bytes_4 (slice_index b 12 ∷ slice_index b 13 ∷ slice_index b 14 ∷ slice_index b 15 ∷ []) w3 refl (four_fit _ _ _ _ f12 f13 f14 f15) h3 in
    (λ i. e0 i ++ e1 i ++ e2 i ++ e3 i) ∙ sym (rest_of b 16 0 (sym len))

pub added : (s k : List ℕ)
    → state_of (bit_xor (slice_index s 0) (slice_index k 0) ∷ bit_xor (slice_index s 1) (slice_index k 1) ∷ bit_xor (slice_index s 2) (slice_index k 2) ∷ bit_xor (slice_index s 3) (slice_index k 3) ∷ [])
    ≡ add (state_of s) (state_of k)
unfolding add
added s k =
    let e0 = bytes-xor (slice_index s 0) (slice_index k 0) in
    let e1 = bytes-xor (slice_index s 1) (slice_index k 1) in
    let e2 = bytes-xor (slice_index s 2) (slice_index k 2) in
    let e3 = bytes-xor (slice_index s 3) (slice_index k 3) in
    λ i. e0 i ++ e1 i ++ e2 i ++ e3 i

pub bytes_of_word : (x y z w n : ℕ) → x < 256 → y < 256 → z < 256 → w < 256 → n ≡ from_be_bytes w32 (x ∷ y ∷ z ∷ w ∷ [])
    → to_be_bytes w32 n ≡ x ∷ y ∷ z ∷ w ∷ []
bytes_of_word x y z w n hx hy hz hw e = be_bytes_4 _ n refl (four_fit x y z w hx hy hz hw) e

pub round_none : (w b s : List ℕ) → s ≡ add b (round_key w 0) → s ≡ rounds w b 0
unfolding rounds
round_none w b s e = e

pub round_more : (w b s t : List ℕ) (n : ℕ) → 1 ≤ n → s ≡ rounds w b (n - 1) → t ≡ round s (round_key w n) → t ≡ rounds w b (n + 1 - 1)
unfolding rounds round
round_more w b s t n h e et =
    let m : ℕ = n - 1 in
    let en : n ≡ m + 1 = omega arith in
    let goal_n : n + 1 - 1 ≡ suc m = omega arith in
    et ∙ (λ i. round (e i) (round_key w (en i))) ∙ sym (ap (rounds w b) goal_n)

pub round_last : (w b s : List ℕ) (n nr : ℕ) → n ≡ nr → s ≡ rounds w b (n - 1) → last_round s (round_key w nr) ≡ cipher w nr b
unfolding cipher last_round
round_last w b s n nr en e = ap (λ (t : List ℕ). last_round t (round_key w nr)) (e ∙ ap (λ (k : ℕ). rounds w b (k - 1)) en)

-- ---- decryption

column-add : (m n p q a b c d e f g h : ℕ)
    → column m n p q (bit_xor a e) (bit_xor b f) (bit_xor c g) (bit_xor d h) ≡ add (column m n p q a b c d) (column m n p q e f g h)
unfolding add
column-add m n p q a b c d e f g h =
    let e0 = row-add m n p q a b c d e f g h in
    let e1 = row-add q m n p a b c d e f g h in
    let e2 = row-add p q m n a b c d e f g h in
    let e3 = row-add n p q m a b c d e f g h in
    λ i. e0 i ∷ e1 i ∷ e2 i ∷ e3 i ∷ []

unmix-add : (x k : List ℕ) → inv_mix_columns (bit_xor (slice_index x 0) (slice_index k 0)
    ∷ bit_xor (slice_index x 1) (slice_index k 1)
    ∷ bit_xor (slice_index x 2) (slice_index k 2)
    ∷ bit_xor (slice_index x 3) (slice_index k 3)
    ∷ bit_xor (slice_index x 4) (slice_index k 4)
    ∷ bit_xor (slice_index x 5) (slice_index k 5)
    ∷ bit_xor (slice_index x 6) (slice_index k 6)
    ∷ bit_xor (slice_index x 7) (slice_index k 7)
    ∷ bit_xor (slice_index x 8) (slice_index k 8)
    ∷ bit_xor (slice_index x 9) (slice_index k 9)
    ∷ bit_xor (slice_index x 10) (slice_index k 10)
    ∷ bit_xor (slice_index x 11) (slice_index k 11)
    ∷ bit_xor (slice_index x 12) (slice_index k 12)
    ∷ bit_xor (slice_index x 13) (slice_index k 13)
    ∷ bit_xor (slice_index x 14) (slice_index k 14)
    ∷ bit_xor (slice_index x 15) (slice_index k 15) ∷ [])
    ≡ add (inv_mix_columns x) (inv_mix_columns k)
unfolding add
unmix-add x k =
    let e0 = column-add 14 11 13 9 (slice_index x 0) (slice_index x 1) (slice_index x 2) (slice_index x 3) (slice_index k 0) (slice_index k 1) (slice_index k 2) (slice_index k 3) in
    let e1 = column-add 14 11 13 9 (slice_index x 4) (slice_index x 5) (slice_index x 6) (slice_index x 7) (slice_index k 4) (slice_index k 5) (slice_index k 6) (slice_index k 7) in
    let e2 = column-add 14 11 13 9 (slice_index x 8) (slice_index x 9) (slice_index x 10) (slice_index x 11) (slice_index k 8) (slice_index k 9) (slice_index k 10) (slice_index k 11) in
    let e3 = column-add 14 11 13 9 (slice_index x 12) (slice_index x 13) (slice_index x 14) (slice_index x 15) (slice_index k 12) (slice_index k 13) (slice_index k 14) (slice_index k 15) in
    λ i. e0 i ++ e1 i ++ e2 i ++ e3 i

pub inv_mixed_key : (w us : List ℕ) (m n : ℕ) → 4 * m + 4 ≤ n → AreInvMixed n w us → round_key us m ≡ inv_mix_columns (round_key w m)
inv_mixed_key w us m n h e =
    let e0 = e (4 * m) (omega arith) in
    let e1 = e (4 * m + 1) (omega arith) in
    let e2 = e (4 * m + 2) (omega arith) in
    let e3 = e (4 * m + 3) (omega arith) in
    λ i. e0 i ++ e1 i ++ e2 i ++ e3 i

pub inv_round_none : (w : List ℕ) (nr : ℕ) (b s : List ℕ) → s ≡ add b (round_key w nr) → s ≡ inv_rounds w nr b 0
unfolding inv_rounds
inv_round_none w nr b s e = e

inv_round_is : (s w : List ℕ) (m : ℕ) → inv_round s (inv_mix_columns (round_key w m)) ≡ inv_mix_columns (add (map unsub (inv_shift_rows s)) (round_key w m))
unfolding inv_round add
inv_round_is s w m = sym (unmix-add (map unsub (inv_shift_rows s)) (round_key w m))

pub inv_round_more : (w us b s t : List ℕ) (n nr : ℕ) → 1 ≤ n → n < nr → round_key us (nr - n) ≡ inv_mix_columns (round_key w (nr - n))
    → s ≡ inv_rounds w nr b (n - 1) → t ≡ inv_round s (round_key us (nr - n)) → t ≡ inv_rounds w nr b (n + 1 - 1)
unfolding inv_rounds
inv_round_more w us b s t n nr h below ek e et =
    let m : ℕ = n - 1 in
    let en : n ≡ m + 1 = omega arith in
    let goal_n : n + 1 - 1 ≡ suc m = omega arith in
    et ∙ ap (inv_round s) ek ∙ inv_round_is s w (nr - n) ∙ (λ i. inv_mix_columns (add (map unsub (inv_shift_rows (e i))) (round_key w (nr - en i)))) ∙ sym (ap (inv_rounds w nr b) goal_n)

pub inv_round_last : (w b s : List ℕ) (n nr : ℕ) → n ≡ nr → s ≡ inv_rounds w nr b (n - 1) → last_inv_round s (round_key w 0) ≡ inv_cipher w nr b
unfolding inv_cipher last_inv_round
inv_round_last w b s n nr en e = ap (λ (t : List ℕ). last_inv_round t (round_key w 0)) (e ∙ ap (λ (k : ℕ). inv_rounds w nr b (k - 1)) en)
