-- The tag goes on from block to block.
use Rattle.std.proofs.Common.{◌≡◌, ℕ, ◌+◌, ◌*◌, ◌%◌, ◌^◌, ◌<◌, ◌≤◌, List, [], ◌∷◌, ◌++◌, length, replicate, bit_xor, nat_eq, false, refl, sym, ap, ◌∙◌, arith, append_assoc}
use Rattle.std.specs.Int.{w64, w128, from_be_bytes, to_be_bytes}
use Rattle.ossl_aes.specs.Cipher.{add}
use Rattle.ossl_ghash.specs.Ghash.{product, hash_from, filled}
use Rattle.ossl_ghash.proofs.Hashing.{hash_append, hash_one, filled-append, length-filled}
use Rattle.ossl_gcm.specs.Gcm.{first_counter, subkey, tag}
use Rattle.ossl_gcm.specs.Run.{tag_from}
use Rattle.ossl_gcm.proofs.Numbers.{pair_number}

-- whole blocks in front of the rest of a ciphertext
pub tag_more : (h : ℕ) (mask : List ℕ) (a y n : ℕ) (c r : List ℕ) → length c % 16 ≡ 0
    → tag_from h mask a y n (c ++ r) ≡ tag_from h mask a (hash_from h y c) n r
unfolding tag_from
tag_more h mask a y n c r whole =
    let l : List ℕ = to_be_bytes w64 a ++ to_be_bytes w64 (n * 8 % 2 ^ 64) in
    ap (λ (k : ℕ). add mask (to_be_bytes w128 k))
    (ap (hash_from h y) (ap (λ (x : List ℕ). x ++ l) (filled-append c r whole) ∙ append_assoc c (filled r) l) ∙ hash_append h y c (filled r ++ l) whole)

-- a whole ciphertext, where the additional data is hashed
pub tag_start : (e : List ℕ → List ℕ) (j a c : List ℕ)
    → tag_from (subkey e) (e j) (length a * 8 % 2 ^ 64) (hash_from (subkey e) 0 (filled a)) (length c) c ≡ tag e j a c
unfolding tag_from tag
tag_start e j a c =
    ap (λ (k : ℕ). add (e j) (to_be_bytes w128 k))
    (sym (hash_append (subkey e) 0 (filled a) (filled c ++ (to_be_bytes w64 (length a * 8 % 2 ^ 64) ++ to_be_bytes w64 (length c * 8 % 2 ^ 64))) (length-filled a)))

-- two numbers of 64 bits hashed as a block after a filled text
pair_hashed : (h y z s t : ℕ) (text : List ℕ) → s < 2 ^ 64 → t < 2 ^ 64 → z ≡ hash_from h y (filled text)
    → product (bit_xor z (s * 2 ^ 64 + t)) h ≡ hash_from h y (filled text ++ (to_be_bytes w64 s ++ to_be_bytes w64 t))
pair_hashed h y z s t text fs ft ez =
    let b : List ℕ = to_be_bytes w64 s ++ to_be_bytes w64 t in
    (λ i. product (bit_xor (ez i) (sym (pair_number s t fs ft) i)) h) ∙ sym (hash_one h (hash_from h y (filled text)) b refl)
    ∙ sym (hash_append h y (filled text) b (length-filled text))

pub tag_ends : (h : ℕ) (mask : List ℕ) (a y n z p : ℕ) (r b t : List ℕ) → a < 2 ^ 64 → z ≡ hash_from h y (filled r)
    → p ≡ product (bit_xor z (a * 2 ^ 64 + n * 8 % 2 ^ 64)) h → b ≡ to_be_bytes w128 p → t ≡ add mask b → t ≡ tag_from h mask a y n r
unfolding tag_from
tag_ends h mask a y n z p r b t fa ez ep eb et =
    et ∙ ap (add mask) (eb ∙ ap (to_be_bytes w128) (ep ∙ pair_hashed h y z a (n * 8 % 2 ^ 64) r fa (omega arith) ez))

-- the first counter block of an IV of 12 bytes, and of another
pub first_short : (h : ℕ) (iv : List ℕ) → length iv ≡ 12 → iv ++ 0 ∷ 0 ∷ 0 ∷ 1 ∷ [] ≡ first_counter h iv
unfolding first_counter
first_short h iv len = rw len refl

pub first_long : (h : ℕ) (iv : List ℕ) (z p : ℕ) (b : List ℕ) → nat_eq (length iv) 12 ≡ false → length iv ≤ 128 → z ≡ hash_from h 0 (filled iv)
    → p ≡ product (bit_xor z (8 * length iv)) h → b ≡ to_be_bytes w128 p → b ≡ first_counter h iv
unfolding first_counter
first_long h iv z p b other low ez ep eb =
    let same : 8 * length iv ≡ 0 * 2 ^ 64 + 8 * length iv = omega arith in
    let all = eb ∙ ap (to_be_bytes w128) (ep ∙ ap (λ (k : ℕ). product (bit_xor z k) h) same ∙ pair_hashed h 0 z 0 (8 * length iv) iv (omega arith) (omega arith) ez) in
    rw other all

-- the hash subkey
pub subkey_is : (e : List ℕ → List ℕ) (b : List ℕ) (n k : ℕ) → b ≡ e (replicate 16 0) → n ≡ from_be_bytes w128 b → k ≡ n → k ≡ subkey e
unfolding subkey
subkey_is e b n k eb en ek = ek ∙ en ∙ ap (from_be_bytes w128) eb
