-- What each algorithm code stands for, as the standards list it.
use Rattle.std.specs.Prelude.{ℕ, Option, Some, None}
use Rattle.ossl_codes.specs.declared.code.Operation.{Operation}
use Rattle.ossl_codes.specs.declared.code.Operation.TheVariants.{Digest, Cipher, Mac, Kdf}
use Rattle.ossl_codes.specs.declared.code.Code.{Code}
use Rattle.ossl_codes.specs.declared.code.Code.TheVariants.{Sha1, Sha224, Sha256, Sha384, Sha512, Sha512t224}
use Rattle.ossl_codes.specs.declared.code.Code.TheVariants.{Sha512t256, Md5, Md4, Aes, ChaCha20, Rc4, Hmac, Cmac, Hkdf}

-- the operation that a code is fetched for (EVP_MD_fetch(3) and its sisters, one a kind of algorithm)
abbrev pub operation_of : Code → Operation
operation_of Sha1 = Digest
operation_of Sha224 = Digest
operation_of Sha256 = Digest
operation_of Sha384 = Digest
operation_of Sha512 = Digest
operation_of Sha512t224 = Digest
operation_of Sha512t256 = Digest
operation_of Md5 = Digest
operation_of Md4 = Digest
operation_of (Aes bits mode) = Cipher
operation_of ChaCha20 = Cipher
operation_of Rc4 = Cipher
operation_of Hmac = Mac
operation_of Cmac = Mac
operation_of Hkdf = Kdf

-- the message digest size in bytes (FIPS 180-4, figure 1; RFC 1321, section 1; RFC 1320, section 1)
abbrev pub output_len_of : Code → Option ℕ
output_len_of Sha1 = Some 20
output_len_of Sha224 = Some 28
output_len_of Sha256 = Some 32
output_len_of Sha384 = Some 48
output_len_of Sha512 = Some 64
output_len_of Sha512t224 = Some 28
output_len_of Sha512t256 = Some 32
output_len_of Md5 = Some 16
output_len_of Md4 = Some 16
output_len_of (Aes bits mode) = None
output_len_of ChaCha20 = None
output_len_of Rc4 = None
output_len_of Hmac = None
output_len_of Cmac = None
output_len_of Hkdf = None

-- the block size in bytes (FIPS 180-4, figure 1; RFC 1321, section 3.1; RFC 1320, section 3.1)
abbrev pub block_len_of : Code → Option ℕ
block_len_of Sha1 = Some 64
block_len_of Sha224 = Some 64
block_len_of Sha256 = Some 64
block_len_of Sha384 = Some 128
block_len_of Sha512 = Some 128
block_len_of Sha512t224 = Some 128
block_len_of Sha512t256 = Some 128
block_len_of Md5 = Some 64
block_len_of Md4 = Some 64
block_len_of (Aes bits mode) = None
block_len_of ChaCha20 = None
block_len_of Rc4 = None
block_len_of Hmac = None
block_len_of Cmac = None
block_len_of Hkdf = None
