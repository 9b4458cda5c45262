-- Results by computation, where no block of AES is worked out.
use Rattle.std.proofs.Common.{◌≡◌, false, Some, None, Ok, Err, [], replicate, codes, refl}
use Rattle.rand_core.specs.Steps.{u32_at}
use Rattle.md5.specs.Md5 as Md5Text
use Rattle.sha1.specs.Sha1 as Sha1Text
use Rattle.ossl_codes.specs.declared.code.Bits.TheVariants.{B128, B192, B256}
use Rattle.ossl_codes.specs.declared.code.AesMode.TheVariants.{Ecb, Cbc, Ctr}
use Rattle.ossl_codes.specs.declared.code.Code.TheVariants.{Sha1, Sha256, Md5, Md4, Aes, ChaCha20, Rc4, Hmac, Hkdf}
use Rattle.ossl_codes.specs.declared.param.Direction.TheVariants.{Decrypt}
use Rattle.ossl_codes.specs.declared.param.KdfMode.TheVariants.{Extract}
use Rattle.ossl_digests.specs.Md4.{operation, round_1, round_2, round_3, compress, registers_after, digest_from, md4}
use Rattle.ossl_legacy.specs.Rc4State.{scheduled, text_of}
use Rattle.ossl_chacha.specs.Block as block
use Rattle.ossl_chacha.specs.KeyStream.{block_at, text_from}
use Rattle.ossl_hmac.specs.Hmac.{hmac}
use Rattle.ossl_hkdf.specs.Hkdf.{blocks}
use Rattle.ossl_modes.specs.declared.kinds.FinishRefused.TheVariants.{WrongFinalBlock, StreamEnd}
use Rattle.ossl_modes.specs.Modes.{checked, blocks as mode_blocks}
use Rattle.ossl_op.specs.Standard.{standard_result}
use Rattle.ossl_op.proofs.Examples.{unhex, plain, keyed, with_iv}

-- RFC 1320, A.5
pub md4_of_abc : standard_result Md4 None plain (codes "abc") ≡ Ok (unhex (codes "a448017aaf21d8525fc10ae87aa6729d"))
unfolding operation round_1 round_2 round_3 compress registers_after digest_from md4
md4_of_abc = refl

-- a textbook's RC4 text, and back
pub rc4_of_plaintext : standard_result Rc4 None (keyed (codes "Key")) (codes "Plaintext")
    ≡ Ok (unhex (codes "bbf316e8d940af0ad3"))
unfolding scheduled text_of
rc4_of_plaintext = refl

rc4_back : standard_result Rc4 None (record (keyed (codes "Key")) { direction = Decrypt })
    (unhex (codes "bbf316e8d940af0ad3")) ≡ Ok (codes "Plaintext")
unfolding scheduled text_of
rc4_back = refl

-- RFC 2202, section 2, case 2
pub hmac_of_jefe : standard_result Hmac (Some Md5) (keyed (codes "Jefe")) (codes "what do ya want for nothing?")
    ≡ Ok (unhex (codes "750c783e6ab0b503eaa86e310a5db738"))
unfolding Md5Text.block_words Md5Text.rounds Md5Text.compress Md5Text.hash_after Md5Text.digest_bytes Md5Text.md5 hmac
hmac_of_jefe = refl

-- an extraction of RFC 5869, A.4; what it is fed is passed over
pub extracted : standard_result Hkdf (Some Sha1)
    (record (keyed (replicate 11 11)) { salt = Some (unhex (codes "000102030405060708090a0b0c")); mode = Extract })
    (codes "abc")
    ≡ Ok (unhex (codes "9b6c18c432a7bf8f0e71c8eb88f4b30baa2ba243"))
unfolding Sha1Text.first_words Sha1Text.schedule Sha1Text.rounds Sha1Text.compress Sha1Text.hash_after
    Sha1Text.digest_bytes Sha1Text.sha1 hmac
extracted = refl

-- a length of 0 gives no bytes
pub nothing_expanded : standard_result Hkdf (Some Sha256) (record (keyed (codes "abc")) { len = Some 0 }) [] ≡ Ok []
unfolding blocks
nothing_expanded = refl

-- EVP_chacha20(3): the first bytes of the key stream of zeros
chacha_zeros : standard_result ChaCha20 None (with_iv (replicate 32 0) (replicate 16 0)) (replicate 3 0)
    ≡ Ok (unhex (codes "76b8e0"))
unfolding block.quarter_round block.column_round block.diagonal_round block.inner_blocks block.added block.block_words
    block_at text_from u32_at
chacha_zeros = refl

-- one block is left at the counter 2 ^ 32 - 1, and a byte more than that is refused
pub chacha_end : standard_result ChaCha20 None
    (with_iv (replicate 32 0) (unhex (codes "ffffffff000000000000000000000000"))) (replicate 65 0) ≡ Err (StreamEnd 1)
unfolding u32_at
chacha_end = refl

-- no bytes at all lack their padding
pub nothing_decrypted : standard_result (Aes B192 Cbc) None
    (record (with_iv (replicate 24 0) (replicate 16 0)) { direction = Decrypt }) [] ≡ Err (WrongFinalBlock 0)
unfolding checked
nothing_decrypted = refl

-- a last block of 15 bytes, with padding and without
pub short_block_decrypted : standard_result (Aes B192 Cbc) None
    (record (with_iv (replicate 24 0) (replicate 16 0)) { direction = Decrypt }) (replicate 15 0)
    ≡ Err (WrongFinalBlock 15)
short_block_decrypted = refl

short_block_unpadded : standard_result (Aes B128 Ecb) None (record (keyed (replicate 16 0)) { pad = false })
    (replicate 31 0) ≡ Err (WrongFinalBlock 15)
short_block_unpadded = refl

-- a counter takes every length, and nothing at all
no_bytes_counted : standard_result (Aes B256 Ctr) None (with_iv (replicate 32 0) (replicate 16 0)) [] ≡ Ok []
unfolding mode_blocks
no_bytes_counted = refl
