-- The definitions at the standard's example with AES-128 under a key of zeros (the GCM specification's test case 2).
use Rattle.std.proofs.Common.{◌≡◌, ℕ, List, ◌∷◌, [], ◌++◌, replicate, refl}
use Rattle.ossl_ghash.specs.Ghash.{times, product, hashed, ghash}

abbrev subkey : ℕ
subkey = 0x66e94bd4ef8a2c3b884cfa59ca342b2e

abbrev text : List ℕ
text =
    0x03 ∷ 0x88 ∷ 0xda ∷ 0xce ∷ 0x60 ∷ 0xb6 ∷ 0xa3 ∷ 0x92 ∷ 0xf3 ∷ 0x28 ∷ 0xc2 ∷ 0xb9 ∷ 0x71 ∷ 0xb2 ∷ 0xfe ∷ 0x78 ∷ []

pub product_example : product 0x0388dace60b6a392f328c2b971b2fe78 subkey ≡ 0x5e2ec746917062882c85b0685353deb7
unfolding times
product_example = refl

pub ghash_example : ghash subkey (text ++ replicate 15 0 ++ 0x80 ∷ []) ≡ 0xf38cbb1ad69223dcc3457ae5b6b0f885
unfolding times hashed
ghash_example = refl
