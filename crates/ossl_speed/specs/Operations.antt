-- Which operation an algorithm that is timed is.
use Rattle.std.specs.Prelude.{Option, Some, None}
use Rattle.ossl_codes.specs.declared.code.AesMode.{AesMode}
use Rattle.ossl_codes.specs.declared.code.AesMode.TheVariants as mode
use Rattle.ossl_codes.specs.declared.code.Bits.{Bits}
use Rattle.ossl_codes.specs.declared.code.Bits.TheVariants.{B128, B192, B256}
use Rattle.ossl_codes.specs.declared.code.Code.{Code}
use Rattle.ossl_codes.specs.declared.code.Code.TheVariants as code
use Rattle.ossl_digests.specs.declared.hash.Hash.{Hash}
use Rattle.ossl_digests.specs.declared.hash.Hash.TheVariants as hash
use Rattle.ossl_modes.specs.declared.kinds.ModeKind.{ModeKind}
use Rattle.ossl_modes.specs.declared.kinds.ModeKind.TheVariants as kind
use Rattle.ossl_speed.specs.declared.algorithm.Algorithm.{Algorithm}
use Rattle.ossl_speed.specs.declared.algorithm.Algorithm.TheVariants.{Digest, Hmac, Hkdf, ChaCha20, Rc4, Aes}
use Rattle.ossl_speed.specs.declared.algorithm.AesWork.TheVariants.{Mode, Chain, Cmac, Gcm}
use Rattle.ossl_speed.specs.declared.algorithm.KeySize.{KeySize}
use Rattle.ossl_speed.specs.declared.algorithm.KeySize.TheVariants.{Bits128, Bits192, Bits256}

-- the code of a hash
abbrev pub hash_code : Hash → Code
hash_code hash.Sha1 = code.Sha1
hash_code hash.Sha224 = code.Sha224
hash_code hash.Sha256 = code.Sha256
hash_code hash.Sha384 = code.Sha384
hash_code hash.Sha512 = code.Sha512
hash_code hash.Sha512t224 = code.Sha512t224
hash_code hash.Sha512t256 = code.Sha512t256
hash_code hash.Md5 = code.Md5
hash_code hash.Md4 = code.Md4

abbrev pub bits_of : KeySize → Bits
bits_of Bits128 = B128
bits_of Bits192 = B192
bits_of Bits256 = B256

abbrev pub mode_of : ModeKind → AesMode
mode_of kind.Ecb = mode.Ecb
mode_of kind.Cbc = mode.Cbc
mode_of kind.Cfb = mode.Cfb
mode_of kind.Ofb = mode.Ofb
mode_of kind.Ctr = mode.Ctr

-- the code of the operation; the block function alone is nearest to ECB, and GCM, which is no operation, to CTR
abbrev pub code_of : Algorithm → Code
code_of (Digest hash) = hash_code hash
code_of (Hmac hash) = code.Hmac
code_of (Hkdf hash) = code.Hkdf
code_of ChaCha20 = code.ChaCha20
code_of Rc4 = code.Rc4
code_of (Aes size (Mode kind decrypt)) = code.Aes (bits_of size) (mode_of kind)
code_of (Aes size (Chain decrypt)) = code.Aes (bits_of size) mode.Ecb
code_of (Aes size Cmac) = code.Cmac
code_of (Aes size Gcm) = code.Aes (bits_of size) mode.Ctr

-- the code that it runs on, where it runs on one
abbrev pub inner_of : Algorithm → Option Code
inner_of (Hmac hash) = Some (hash_code hash)
inner_of (Hkdf hash) = Some (hash_code hash)
inner_of (Aes size Cmac) = Some (code.Aes (bits_of size) mode.Cbc)
inner_of _ = None
