-- What an operation gives of all bytes that it is fed: the standard's text, or the refusal of its end. The parameters
-- are
-- ones with which it may begin.
use Rattle.std.specs.Prelude.{ℕ, Bool, true, false, unwrap_or, Option, Result, Ok, List, []}
use Rattle.std.specs.Option.{option_and_then, option_map_or}
use Rattle.std.specs.Result.{result_map_both}
use Rattle.ossl_codes.specs.declared.code.AesMode.{AesMode}
use Rattle.ossl_codes.specs.declared.code.Bits.{Bits}
use Rattle.ossl_codes.specs.declared.code.Code.{Code}
use Rattle.ossl_codes.specs.declared.code.Code.TheVariants.{Sha1, Sha224, Sha256, Sha384, Sha512, Sha512t224}
use Rattle.ossl_codes.specs.declared.code.Code.TheVariants.{Sha512t256, Md5, Md4, Aes, ChaCha20, Rc4, Hmac, Cmac, Hkdf}
use Rattle.ossl_codes.specs.declared.param.Direction.{Direction}
use Rattle.ossl_codes.specs.declared.param.Direction.TheVariants.{Encrypt, Decrypt}
use Rattle.ossl_digests.specs.declared.hash.Hash.{Hash}
use Rattle.ossl_digests.specs.declared.hash.Hash.TheVariants as hashes
use Rattle.ossl_digests.specs.Digest.{digest}
use Rattle.ossl_aes.specs.Cipher.{encrypted, decrypted}
use Rattle.ossl_modes.specs.declared.kinds.FinishRefused.{FinishRefused}
use Rattle.ossl_modes.specs.declared.kinds.FinishRefused.TheVariants.{StreamEnd}
use Rattle.ossl_modes.specs.Modes.{outcome, whole_blocks}
use Rattle.ossl_chacha.specs.KeyStream.{stream_of, text_of}
use Rattle.ossl_chacha.specs.Ends.{chacha20}
use Rattle.ossl_legacy.specs.Rc4State.{rc4}
use Rattle.ossl_hmac.specs.Hmac.{hmac}
use Rattle.ossl_cmac.specs.Cmac.{cmac}
use Rattle.ossl_hkdf.specs.Hkdf.{hkdf}
use Rattle.ossl_op.specs.declared.params.Params.{Params}
use Rattle.ossl_op.specs.Tables.{hash_of, cbc_bits, key_words, kind_of, hkdf_mode}
use Rattle.ossl_op.specs.Begins.{bytes_of}

-- the direction as the modes take it
abbrev pub is_decrypt : Direction → Bool
is_decrypt Encrypt = false
is_decrypt Decrypt = true

-- what runs on the inner digest; begins sees to it that there is one
abbrev pub on_hash : Option Code → (Hash → List ℕ) → List ℕ
on_hash inner f = option_map_or f (option_and_then hash_of inner) []

-- what runs on the inner cipher, likewise
abbrev pub on_cipher : Option Code → (Bits → List ℕ) → List ℕ
on_cipher inner f = option_map_or f (option_and_then cbc_bits inner) []

-- a text through a mode of AES under a key of nk words (FIPS 197, SP 800-38A)
abbrev pub aes_outcome : ℕ → AesMode → Params → List ℕ → Result (List ℕ) FinishRefused
aes_outcome nk mode params bytes =
    let key = bytes_of params.key in
    outcome (encrypted nk key) (decrypted nk key) (kind_of mode) (is_decrypt params.direction) params.pad
    (bytes_of params.iv) bytes

-- the block equations over its whole blocks, without the last check
abbrev pub aes_blocks : ℕ → AesMode → Params → List ℕ → List ℕ
aes_blocks nk mode params bytes =
    let key = bytes_of params.key in
    whole_blocks (encrypted nk key) (decrypted nk key) (kind_of mode) (is_decrypt params.direction)
    (bytes_of params.iv) bytes

-- the table, a line a code: SHA (FIPS 180-4), MD5 (RFC 1321), MD4 (RFC 1320), AES (FIPS 197) in its modes (SP 800-38A),
-- ChaCha20 (RFC 8439), RC4, HMAC (FIPS 198-1), CMAC (SP 800-38B), HKDF (RFC 5869), which passes over what it is fed
abbrev pub standard_result : Code → Option Code → Params → List ℕ → Result (List ℕ) FinishRefused
standard_result Sha1 inner params bytes = Ok (digest hashes.Sha1 bytes)
standard_result Sha224 inner params bytes = Ok (digest hashes.Sha224 bytes)
standard_result Sha256 inner params bytes = Ok (digest hashes.Sha256 bytes)
standard_result Sha384 inner params bytes = Ok (digest hashes.Sha384 bytes)
standard_result Sha512 inner params bytes = Ok (digest hashes.Sha512 bytes)
standard_result Sha512t224 inner params bytes = Ok (digest hashes.Sha512t224 bytes)
standard_result Sha512t256 inner params bytes = Ok (digest hashes.Sha512t256 bytes)
standard_result Md5 inner params bytes = Ok (digest hashes.Md5 bytes)
standard_result Md4 inner params bytes = Ok (digest hashes.Md4 bytes)
standard_result (Aes bits mode) inner params bytes = aes_outcome (key_words bits) mode params bytes
standard_result ChaCha20 inner params bytes =
    result_map_both (λ text. text) (λ end. StreamEnd end.blocks)
    (chacha20 (bytes_of params.key) (bytes_of params.iv) bytes)
standard_result Rc4 inner params bytes = Ok (rc4 (bytes_of params.key) bytes)
standard_result Hmac inner params bytes = Ok (on_hash inner (λ hash. hmac hash (bytes_of params.key) bytes))
standard_result Cmac inner params bytes =
    Ok (on_cipher inner (λ bits. cmac (encrypted (key_words bits) (bytes_of params.key)) bytes))
standard_result Hkdf inner params bytes =
    Ok (on_hash inner (λ hash. hkdf (hkdf_mode params.mode) hash (bytes_of params.key) (bytes_of params.salt)
    (bytes_of params.info) (unwrap_or params.len 0)))

-- where the end is refused, a beginning of this text was given before: the block equations over the whole blocks
-- without
-- the last check, and for ChaCha20 the message xored with the blocks that there are
abbrev pub unchecked_text : Code → Params → List ℕ → List ℕ
unchecked_text (Aes bits mode) params bytes = aes_blocks (key_words bits) mode params bytes
unchecked_text ChaCha20 params bytes = text_of (stream_of (bytes_of params.key) (bytes_of params.iv)) bytes
unchecked_text _ params bytes = []
