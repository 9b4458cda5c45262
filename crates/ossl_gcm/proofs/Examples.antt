-- The examples of the GCM specification under AES-128 and a key of zeros, with an IV of 12 zero bytes: no bytes, and a block.
use Rattle.std.proofs.Common.{◌≡◌, ℕ, List, ◌∷◌, [], replicate, Ok, true, false, refl}
use Rattle.ossl_aes.specs.Field.{sub, times, power}
use Rattle.ossl_aes.specs.Cipher.{add, encrypted, cipher, rounds, schedule, key_words}
use Rattle.ossl_modes.specs.Steps.{stepped}
use Rattle.ossl_ghash.specs.Ghash.{hashed, times as multiplied}
use Rattle.ossl_gcm.specs.Gcm.{first_counter, subkey, tag, gcm}

example_1 : gcm (encrypted 4 (replicate 16 0)) (replicate 12 0) [] false []
    ≡ Ok (0x58 ∷ 0xe2 ∷ 0xfc ∷ 0xce ∷ 0xfa ∷ 0x7e ∷ 0x30 ∷ 0x61 ∷ 0x36 ∷ 0x7f ∷ 0x1d ∷ 0x57 ∷ 0xa4 ∷ 0xe7 ∷ 0x45 ∷ 0x5a ∷ [])
unfolding sub times power add cipher rounds schedule key_words stepped multiplied hashed first_counter subkey tag
example_1 = refl

abbrev sealed : List ℕ
sealed =
    0x03 ∷ 0x88 ∷ 0xda ∷ 0xce ∷ 0x60 ∷ 0xb6 ∷ 0xa3 ∷ 0x92 ∷ 0xf3 ∷ 0x28 ∷ 0xc2 ∷ 0xb9 ∷ 0x71 ∷ 0xb2 ∷ 0xfe ∷ 0x78
    ∷ 0xab ∷ 0x6e ∷ 0x47 ∷ 0xd4 ∷ 0x2c ∷ 0xec ∷ 0x13 ∷ 0xbd ∷ 0xf5 ∷ 0x3a ∷ 0x67 ∷ 0xb2 ∷ 0x12 ∷ 0x57 ∷ 0xbd ∷ 0xdf ∷ []

example_2 : gcm (encrypted 4 (replicate 16 0)) (replicate 12 0) [] false (replicate 16 0) ≡ Ok sealed
unfolding sub times power add cipher rounds schedule key_words stepped multiplied hashed first_counter subkey tag
example_2 = refl

example_2_back : gcm (encrypted 4 (replicate 16 0)) (replicate 12 0) [] true sealed ≡ Ok (replicate 16 0)
unfolding sub times power add cipher rounds schedule key_words stepped multiplied hashed first_counter subkey tag
example_2_back = refl
