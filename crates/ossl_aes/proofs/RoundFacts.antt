-- The rounds on words are those of the standard.
use Rattle.std.proofs.Common.{◌≡◌, ℕ, List, [], ◌∷◌, ◌++◌, slice_index, bit_xor, ap, ◌∙◌}
use Rattle.std.specs.Int.{w32, to_be_bytes}
use Rattle.ossl_aes.specs.Field.{sub, unsub}
use Rattle.ossl_aes.specs.Cipher.{add, column}
use Rattle.ossl_aes.specs.Rounds.{state_of, round, inv_round, last_round, last_inv_round}
use Rattle.ossl_aes.proofs.Words.{bytes-xor}

abbrev pub bytes_at : List ℕ → ℕ → List ℕ
bytes_at s j = to_be_bytes w32 (slice_index s j)

-- a column with a key's word added
keyed : (r k : ℕ) (x : List ℕ) → to_be_bytes w32 r ≡ x → to_be_bytes w32 (bit_xor r k) ≡ add x (to_be_bytes w32 k)
keyed r k x e = bytes-xor r k ∙ ap (λ (y : List ℕ). add y (to_be_bytes w32 k)) e

pub enc_round_is : (s k a b c d : List ℕ) (r0 r1 r2 r3 : ℕ)
    → a ≡ bytes_at s 0 → b ≡ bytes_at s 1 → c ≡ bytes_at s 2 → d ≡ bytes_at s 3
    → to_be_bytes w32 r0 ≡ column 2 3 1 1 (sub (slice_index a 0)) (sub (slice_index b 1)) (sub (slice_index c 2)) (sub (slice_index d 3))
    → to_be_bytes w32 r1 ≡ column 2 3 1 1 (sub (slice_index b 0)) (sub (slice_index c 1)) (sub (slice_index d 2)) (sub (slice_index a 3))
    → to_be_bytes w32 r2 ≡ column 2 3 1 1 (sub (slice_index c 0)) (sub (slice_index d 1)) (sub (slice_index a 2)) (sub (slice_index b 3))
    → to_be_bytes w32 r3 ≡ column 2 3 1 1 (sub (slice_index d 0)) (sub (slice_index a 1)) (sub (slice_index b 2)) (sub (slice_index c 3))
    → state_of (bit_xor r0 (slice_index k 0) ∷ bit_xor r1 (slice_index k 1) ∷ bit_xor r2 (slice_index k 2) ∷ bit_xor r3 (slice_index k 3) ∷ [])
    ≡ round (state_of s) (state_of k)
unfolding add round
enc_round_is s k a b c d r0 r1 r2 r3 ea eb ec ed h0 h1 h2 h3 =
    let e0 = keyed r0 (slice_index k 0) _ h0 in
    let e1 = keyed r1 (slice_index k 1) _ h1 in
    let e2 = keyed r2 (slice_index k 2) _ h2 in
    let e3 = keyed r3 (slice_index k 3) _ h3 in
    (λ i. e0 i ++ e1 i ++ e2 i ++ e3 i)
    ∙ (λ i. add (column 2 3 1 1 (sub (slice_index (ea i) 0)) (sub (slice_index (eb i) 1)) (sub (slice_index (ec i) 2)) (sub (slice_index (ed i) 3))) (bytes_at k 0) ++ add (column 2 3 1 1 (sub (slice_index (eb i) 0)) (sub (slice_index (ec i) 1)) (sub (slice_index (ed i) 2)) (sub (slice_index (ea i) 3))) (bytes_at k 1) ++ add (column 2 3 1 1 (sub (slice_index (ec i) 0)) (sub (slice_index (ed i) 1)) (sub (slice_index (ea i) 2)) (sub (slice_index (eb i) 3))) (bytes_at k 2) ++ add (column 2 3 1 1 (sub (slice_index (ed i) 0)) (sub (slice_index (ea i) 1)) (sub (slice_index (eb i) 2)) (sub (slice_index (ec i) 3))) (bytes_at k 3))

pub enc_last_is : (s k a b c d : List ℕ) (r0 r1 r2 r3 : ℕ)
    → a ≡ bytes_at s 0 → b ≡ bytes_at s 1 → c ≡ bytes_at s 2 → d ≡ bytes_at s 3
    → to_be_bytes w32 r0 ≡ sub (slice_index a 0) ∷ sub (slice_index b 1) ∷ sub (slice_index c 2) ∷ sub (slice_index d 3) ∷ []
    → to_be_bytes w32 r1 ≡ sub (slice_index b 0) ∷ sub (slice_index c 1) ∷ sub (slice_index d 2) ∷ sub (slice_index a 3) ∷ []
    → to_be_bytes w32 r2 ≡ sub (slice_index c 0) ∷ sub (slice_index d 1) ∷ sub (slice_index a 2) ∷ sub (slice_index b 3) ∷ []
    → to_be_bytes w32 r3 ≡ sub (slice_index d 0) ∷ sub (slice_index a 1) ∷ sub (slice_index b 2) ∷ sub (slice_index c 3) ∷ []
    → state_of (bit_xor r0 (slice_index k 0) ∷ bit_xor r1 (slice_index k 1) ∷ bit_xor r2 (slice_index k 2) ∷ bit_xor r3 (slice_index k 3) ∷ [])
    ≡ last_round (state_of s) (state_of k)
unfolding add last_round
enc_last_is s k a b c d r0 r1 r2 r3 ea eb ec ed h0 h1 h2 h3 =
    let e0 = keyed r0 (slice_index k 0) _ h0 in
    let e1 = keyed r1 (slice_index k 1) _ h1 in
    let e2 = keyed r2 (slice_index k 2) _ h2 in
    let e3 = keyed r3 (slice_index k 3) _ h3 in
    (λ i. e0 i ++ e1 i ++ e2 i ++ e3 i)
    ∙ (λ i. add (sub (slice_index (ea i) 0) ∷ sub (slice_index (eb i) 1) ∷ sub (slice_index (ec i) 2) ∷ sub (slice_index (ed i) 3) ∷ []) (bytes_at k 0) ++ add (sub (slice_index (eb i) 0) ∷ sub (slice_index (ec i) 1) ∷ sub (slice_index (ed i) 2) ∷ sub (slice_index (ea i) 3) ∷ []) (bytes_at k 1) ++ add (sub (slice_index (ec i) 0) ∷ sub (slice_index (ed i) 1) ∷ sub (slice_index (ea i) 2) ∷ sub (slice_index (eb i) 3) ∷ []) (bytes_at k 2) ++ add (sub (slice_index (ed i) 0) ∷ sub (slice_index (ea i) 1) ∷ sub (slice_index (eb i) 2) ∷ sub (slice_index (ec i) 3) ∷ []) (bytes_at k 3))

pub dec_round_is : (s k a b c d : List ℕ) (r0 r1 r2 r3 : ℕ)
    → a ≡ bytes_at s 0 → b ≡ bytes_at s 1 → c ≡ bytes_at s 2 → d ≡ bytes_at s 3
    → to_be_bytes w32 r0 ≡ column 14 11 13 9 (unsub (slice_index a 0)) (unsub (slice_index d 1)) (unsub (slice_index c 2)) (unsub (slice_index b 3))
    → to_be_bytes w32 r1 ≡ column 14 11 13 9 (unsub (slice_index b 0)) (unsub (slice_index a 1)) (unsub (slice_index d 2)) (unsub (slice_index c 3))
    → to_be_bytes w32 r2 ≡ column 14 11 13 9 (unsub (slice_index c 0)) (unsub (slice_index b 1)) (unsub (slice_index a 2)) (unsub (slice_index d 3))
    → to_be_bytes w32 r3 ≡ column 14 11 13 9 (unsub (slice_index d 0)) (unsub (slice_index c 1)) (unsub (slice_index b 2)) (unsub (slice_index a 3))
    → state_of (bit_xor r0 (slice_index k 0) ∷ bit_xor r1 (slice_index k 1) ∷ bit_xor r2 (slice_index k 2) ∷ bit_xor r3 (slice_index k 3) ∷ [])
    ≡ inv_round (state_of s) (state_of k)
unfolding add inv_round
dec_round_is s k a b c d r0 r1 r2 r3 ea eb ec ed h0 h1 h2 h3 =
    let e0 = keyed r0 (slice_index k 0) _ h0 in
    let e1 = keyed r1 (slice_index k 1) _ h1 in
    let e2 = keyed r2 (slice_index k 2) _ h2 in
    let e3 = keyed r3 (slice_index k 3) _ h3 in
    (λ i. e0 i ++ e1 i ++ e2 i ++ e3 i)
    ∙ (λ i. add (column 14 11 13 9 (unsub (slice_index (ea i) 0)) (unsub (slice_index (ed i) 1)) (unsub (slice_index (ec i) 2)) (unsub (slice_index (eb i) 3))) (bytes_at k 0) ++ add (column 14 11 13 9 (unsub (slice_index (eb i) 0)) (unsub (slice_index (ea i) 1)) (unsub (slice_index (ed i) 2)) (unsub (slice_index (ec i) 3))) (bytes_at k 1) ++ add (column 14 11 13 9 (unsub (slice_index (ec i) 0)) (unsub (slice_index (eb i) 1)) (unsub (slice_index (ea i) 2)) (unsub (slice_index (ed i) 3))) (bytes_at k 2) ++ add (column 14 11 13 9 (unsub (slice_index (ed i) 0)) (unsub (slice_index (ec i) 1)) (unsub (slice_index (eb i) 2)) (unsub (slice_index (ea i) 3))) (bytes_at k 3))

pub dec_last_is : (s k a b c d : List ℕ) (r0 r1 r2 r3 : ℕ)
    → a ≡ bytes_at s 0 → b ≡ bytes_at s 1 → c ≡ bytes_at s 2 → d ≡ bytes_at s 3
    → to_be_bytes w32 r0 ≡ unsub (slice_index a 0) ∷ unsub (slice_index d 1) ∷ unsub (slice_index c 2) ∷ unsub (slice_index b 3) ∷ []
    → to_be_bytes w32 r1 ≡ unsub (slice_index b 0) ∷ unsub (slice_index a 1) ∷ unsub (slice_index d 2) ∷ unsub (slice_index c 3) ∷ []
    → to_be_bytes w32 r2 ≡ unsub (slice_index c 0) ∷ unsub (slice_index b 1) ∷ unsub (slice_index a 2) ∷ unsub (slice_index d 3) ∷ []
    → to_be_bytes w32 r3 ≡ unsub (slice_index d 0) ∷ unsub (slice_index c 1) ∷ unsub (slice_index b 2) ∷ unsub (slice_index a 3) ∷ []
    → state_of (bit_xor r0 (slice_index k 0) ∷ bit_xor r1 (slice_index k 1) ∷ bit_xor r2 (slice_index k 2) ∷ bit_xor r3 (slice_index k 3) ∷ [])
    ≡ last_inv_round (state_of s) (state_of k)
unfolding add last_inv_round
dec_last_is s k a b c d r0 r1 r2 r3 ea eb ec ed h0 h1 h2 h3 =
    let e0 = keyed r0 (slice_index k 0) _ h0 in
    let e1 = keyed r1 (slice_index k 1) _ h1 in
    let e2 = keyed r2 (slice_index k 2) _ h2 in
    let e3 = keyed r3 (slice_index k 3) _ h3 in
    (λ i. e0 i ++ e1 i ++ e2 i ++ e3 i)
    ∙ (λ i. add (unsub (slice_index (ea i) 0) ∷ unsub (slice_index (ed i) 1) ∷ unsub (slice_index (ec i) 2) ∷ unsub (slice_index (eb i) 3) ∷ []) (bytes_at k 0) ++ add (unsub (slice_index (eb i) 0) ∷ unsub (slice_index (ea i) 1) ∷ unsub (slice_index (ed i) 2) ∷ unsub (slice_index (ec i) 3) ∷ []) (bytes_at k 1) ++ add (unsub (slice_index (ec i) 0) ∷ unsub (slice_index (eb i) 1) ∷ unsub (slice_index (ea i) 2) ∷ unsub (slice_index (ed i) 3) ∷ []) (bytes_at k 2) ++ add (unsub (slice_index (ed i) 0) ∷ unsub (slice_index (ec i) 1) ∷ unsub (slice_index (eb i) 2) ∷ unsub (slice_index (ea i) 3) ∷ []) (bytes_at k 3))
