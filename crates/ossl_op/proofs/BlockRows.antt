-- Results by computation that work out blocks of AES.
use Rattle.std.proofs.Common.{◌≡◌, ℕ, false, List, ap, Some, None, Ok, Err, Result, [], ◌++◌, replicate, codes, refl}
use Rattle.ossl_aes.specs.Field.{sub, unsub, times, power}
use Rattle.ossl_aes.specs.Cipher.{add, encrypted, decrypted, cipher, inv_cipher, rounds, inv_rounds, schedule}
use Rattle.ossl_aes.specs.Cipher.{key_words}
use Rattle.ossl_codes.specs.declared.code.Bits.TheVariants.{B128, B192}
use Rattle.ossl_codes.specs.declared.code.AesMode.TheVariants.{Ecb, Cbc, Cfb, Ofb, Ctr}
use Rattle.ossl_codes.specs.declared.code.Code.TheVariants.{Aes, Cmac}
use Rattle.ossl_codes.specs.declared.param.Direction.TheVariants.{Decrypt}
use Rattle.ossl_cmac.specs.Cmac.{mac_from, chained}
use Rattle.ossl_modes.specs.declared.kinds.FinishRefused.{FinishRefused}
use Rattle.ossl_modes.specs.declared.kinds.FinishRefused.TheVariants.{BadDecrypt}
use Rattle.ossl_modes.specs.Modes.{unpadded, checked, blocks, next_counter}
use Rattle.ossl_op.specs.Standard.{standard_result}
use Rattle.ossl_op.proofs.Examples.{unhex, keyed, with_iv}

abbrev pub key : List ℕ
key = unhex (codes "000102030405060708090a0b0c0d0e0f1011121314151617")

abbrev pub block : List ℕ
block = unhex (codes "00112233445566778899aabbccddeeff")

-- FIPS 197, C.2
block_back : decrypted 6 key (unhex (codes "dda97ca4864cdfe06eaf70a0ec0d7191")) ≡ block
unfolding sub unsub times power add inv_cipher inv_rounds schedule key_words
block_back = refl

-- what a padded message of that one block in CBC gives, by its IV
abbrev pub by_iv : List ℕ → Result (List ℕ) FinishRefused
by_iv iv = standard_result (Aes B192 Cbc) None (record (with_iv key iv) { direction = Decrypt })
    (unhex (codes "dda97ca4864cdfe06eaf70a0ec0d7191"))

through_padding : (iv : List ℕ) → by_iv iv ≡ unpadded (add block iv)
unfolding checked
through_padding iv = ap (λ block. unpadded (add block iv)) block_back

-- the last byte is 1
pub one_byte : by_iv (unhex (codes "000000000000000000000000000000fe"))
    ≡ Ok (unhex (codes "00112233445566778899aabbccddee"))
unfolding add
one_byte = through_padding (unhex (codes "000000000000000000000000000000fe"))

-- the last two are 2
pub two_bytes : by_iv (unhex (codes "0000000000000000000000000000ecfd"))
    ≡ Ok (unhex (codes "00112233445566778899aabbccdd"))
unfolding add
two_bytes = through_padding (unhex (codes "0000000000000000000000000000ecfd"))

-- all sixteen are 16
pub whole_block : by_iv (unhex (codes "10013223544576679889baabdccdfeef")) ≡ Ok []
unfolding add
whole_block = through_padding (unhex (codes "10013223544576679889baabdccdfeef"))

-- the last byte is 255
pub byte_255 : by_iv (unhex (codes "00000000000000000000000000000000")) ≡ Err BadDecrypt
unfolding add
byte_255 = through_padding (unhex (codes "00000000000000000000000000000000"))

-- the last byte is 0
pub byte_0 : by_iv (unhex (codes "000000000000000000000000000000ff")) ≡ Err BadDecrypt
unfolding add
byte_0 = through_padding (unhex (codes "000000000000000000000000000000ff"))

-- the last byte is 17
pub byte_17 : by_iv (unhex (codes "000000000000000000000000000000ee")) ≡ Err BadDecrypt
unfolding add
byte_17 = through_padding (unhex (codes "000000000000000000000000000000ee"))

-- the last byte is 2, the one before it is not
bytes_differ : by_iv (unhex (codes "000000000000000000000000000000fd")) ≡ Err BadDecrypt
unfolding add
bytes_differ = through_padding (unhex (codes "000000000000000000000000000000fd"))

-- FIPS 197, C.1, without padding
ecb_block : standard_result (Aes B128 Ecb) None
    (record (keyed (unhex (codes "000102030405060708090a0b0c0d0e0f"))) { pad = false }) block
    ≡ Ok (unhex (codes "69c4e0d86a7b0430d8cdb78070b4c55a"))
unfolding blocks sub times power add cipher rounds schedule key_words
ecb_block = refl

-- the key and the first block of SP 800-38A, F.1 to F.5
abbrev pub vector_key : List ℕ
vector_key = unhex (codes "2b7e151628aed2a6abf7158809cf4f3c")

abbrev vector_block : List ℕ
vector_block = unhex (codes "6bc1bee22e409f96e93d7e117393172a")

abbrev vector_iv : List ℕ
vector_iv = unhex (codes "000102030405060708090a0b0c0d0e0f")

cbc_block : standard_result (Aes B128 Cbc) None (record (with_iv vector_key vector_iv) { pad = false }) vector_block
    ≡ Ok (unhex (codes "7649abac8119b246cee98e9b12e9197d"))
unfolding blocks sub times power add cipher rounds schedule key_words
cbc_block = refl

iv_encrypted : encrypted 4 vector_key vector_iv ≡ unhex (codes "50fe67cc996d32b6da0937e99bafec60")
unfolding sub times power add cipher rounds schedule key_words
iv_encrypted = refl

cfb_block : standard_result (Aes B128 Cfb) None (with_iv vector_key vector_iv) vector_block
    ≡ Ok (unhex (codes "3b3fd92eb72dad20333449f8e83cfb4a"))
unfolding blocks add
cfb_block = ap (λ stream. Ok (add vector_block stream ++ [])) iv_encrypted

-- back, and the first three bytes alone
cfb_back : standard_result (Aes B128 Cfb) None (record (with_iv vector_key vector_iv) { direction = Decrypt })
    (unhex (codes "3b3fd9"))
    ≡ Ok (unhex (codes "6bc1be"))
unfolding blocks add
cfb_back = ap (λ stream. Ok (add (unhex (codes "3b3fd9")) stream ++ [])) iv_encrypted

ofb_block : standard_result (Aes B128 Ofb) None (with_iv vector_key vector_iv) vector_block
    ≡ Ok (unhex (codes "3b3fd92eb72dad20333449f8e83cfb4a"))
unfolding blocks add
ofb_block = ap (λ stream. Ok (add vector_block stream ++ [])) iv_encrypted

ctr_block : standard_result (Aes B128 Ctr) None (with_iv vector_key (unhex (codes "f0f1f2f3f4f5f6f7f8f9fafbfcfdfeff")))
    vector_block
    ≡ Ok (unhex (codes "874d6191b620e3261bef6864990db6ce"))
unfolding blocks sub times power add cipher rounds schedule key_words
ctr_block = refl

-- the counter is the whole block
counter_wraps : next_counter (replicate 16 255) ≡ replicate 16 0
counter_wraps = refl

-- SP 800-38B, D.1: no bytes, and one block
pub cmac_of_nothing : standard_result Cmac (Some (Aes B128 Cbc)) (keyed vector_key) []
    ≡ Ok (unhex (codes "bb1d6929e95937287fa37d129b756746"))
unfolding mac_from chained sub times power add cipher rounds schedule key_words
cmac_of_nothing = refl

cmac_of_a_block : standard_result Cmac (Some (Aes B128 Cbc)) (keyed vector_key) vector_block
    ≡ Ok (unhex (codes "070a16b46b4d4144f79bdd9dd04a287c"))
unfolding mac_from chained sub times power add cipher rounds schedule key_words
cmac_of_a_block = refl
