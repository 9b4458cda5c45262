-- What was sealed is unsealed.
use Rattle.std.proofs.Common.{◌≡◌, ℕ, ◌+◌, ◌/◌, ◌<◌, true, nat_le, List, ◌++◌, length, Ok, refl, sym, ap, ◌∙◌, arith, length-append}
use Rattle.std.specs.List.{All}
use Rattle.std.proofs.lemmas.Bool.Decides.{nat_tests}
use Rattle.std.proofs.lemmas.List.{drop_at, take_at}
use Rattle.ossl_aes.specs.Cipher.{decrypted, encrypted}
use Rattle.ossl_aes.proofs.Undoing.{cipher_is_undone}
use Rattle.ossl_modes.specs.Return.{ComesBack}
use Rattle.ossl_modes.proofs.Returning.{text_comes_back}
use Rattle.ossl_salted.specs.File.{body_in, ciphertext, decryption, is_salted, iv_of, key_and_iv, key_of, magic, salt_in, salted_file, unsealed}
use Rattle.ossl_salted.proofs.Bytes.{last_block}

decrypts_text : (p password salt : List ℕ) (rounds bits : ℕ) → All (λ byte. byte < 256) p
    → decryption bits (key_and_iv password salt rounds bits) (ciphertext bits (key_and_iv password salt rounds bits) p) ≡ Ok p
decrypts_text p password salt rounds bits bytes =
    let material : List ℕ = key_and_iv password salt rounds bits in
    let key : List ℕ = key_of bits material in
    let back : ComesBack (encrypted (bits / 32) key) (decrypted (bits / 32) key) (iv_of bits material) p =
    text_comes_back (encrypted (bits / 32) key) (decrypted (bits / 32) key) (cipher_is_undone _ (bits / 32 + 6) (omega arith)) (iv_of bits material) p
    (last_block password salt rounds (bits / 8)) bytes in
    let same : back.encrypted ≡ ciphertext bits material p = cc back.is_encrypted in
    ap (decryption bits material) (sym same) ∙ back.comes_back

-- the text comes back (openssl-enc(1))
pub unsealed_file : (p password salt : List ℕ) (rounds bits : ℕ) → All (λ byte. byte < 256) p → length salt ≡ 8
    → unsealed (salted_file p password salt rounds bits) password rounds bits ≡ Ok p
unsealed_file p password salt rounds bits bytes len =
    let c : List ℕ = ciphertext bits (key_and_iv password salt rounds bits) p in
    let file : List ℕ = magic ++ salt ++ c in
    let size : length (salt ++ c) ≡ 8 + length c = omega (arith, length-append salt c, len) in
    let t : nat_le 16 (length file) ≡ true = grind (arith, nat_tests, size) in
    let salted : is_salted file ≡ true = rw t refl in
    let salt_is : salt_in file ≡ salt = take_at salt c 8 len in
    let body : body_in file ≡ c = drop_at salt c 8 len in
    rw (salted, salt_is, body, decrypts_text p password salt rounds bits bytes) refl
