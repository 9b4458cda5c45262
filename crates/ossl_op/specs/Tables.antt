-- What a code stands for in the crates of its algorithm, and what it takes.
use Rattle.std.specs.Prelude.{ℕ, ◌==◌, Bool, true, ◌&&◌, nat_le, is_some, Option, Some, None, List, [], ◌∷◌}
use Rattle.std.specs.Option.{option_and_then, option_map_or}
use Rattle.ossl_codes.specs.declared.code.Bits.{Bits}
use Rattle.ossl_codes.specs.declared.code.Bits.TheVariants.{B128, B192, B256}
use Rattle.ossl_codes.specs.declared.code.AesMode.{AesMode}
use Rattle.ossl_codes.specs.declared.code.AesMode.TheVariants as mode
use Rattle.ossl_codes.specs.declared.code.Code.{Code}
use Rattle.ossl_codes.specs.declared.code.Code.TheVariants.{Sha1, Sha224, Sha256, Sha384, Sha512, Sha512t224}
use Rattle.ossl_codes.specs.declared.code.Code.TheVariants.{Sha512t256, Md5, Md4, Aes, ChaCha20, Rc4, Hmac, Cmac, Hkdf}
use Rattle.ossl_codes.specs.declared.param.KdfMode.{KdfMode}
use Rattle.ossl_codes.specs.declared.param.KdfMode.TheVariants as kdf
use Rattle.ossl_codes.specs.declared.param.Param.{Param}
use Rattle.ossl_codes.specs.declared.param.Param.TheVariants.{Key, Iv, Inner, Len}
use Rattle.ossl_digests.specs.declared.hash.Hash.{Hash}
use Rattle.ossl_digests.specs.declared.hash.Hash.TheVariants as hashes
use Rattle.ossl_hkdf.specs.declared.mode.HkdfMode.{HkdfMode}
use Rattle.ossl_hkdf.specs.declared.mode.HkdfMode.TheVariants as hkdf
use Rattle.ossl_modes.specs.declared.kinds.ModeKind.{ModeKind}
use Rattle.ossl_modes.specs.declared.kinds.ModeKind.TheVariants as kind

-- the hash that a code stands for, where it is a digest (FIPS 180-4, RFC 1321, RFC 1320)
abbrev pub hash_of : Code → Option Hash
hash_of Sha1 = Some hashes.Sha1
hash_of Sha224 = Some hashes.Sha224
hash_of Sha256 = Some hashes.Sha256
hash_of Sha384 = Some hashes.Sha384
hash_of Sha512 = Some hashes.Sha512
hash_of Sha512t224 = Some hashes.Sha512t224
hash_of Sha512t256 = Some hashes.Sha512t256
hash_of Md5 = Some hashes.Md5
hash_of Md4 = Some hashes.Md4
hash_of _ = None

-- the key length of the AES code in CBC mode, where the code is one
abbrev pub cbc_bits : Code → Option Bits
cbc_bits (Aes bits mode.Cbc) = Some bits
cbc_bits _ = None

-- a key's length in words of four bytes (FIPS 197, figure 4)
abbrev pub key_words : Bits → ℕ
key_words B128 = 4
key_words B192 = 6
key_words B256 = 8

-- a key's length in bytes (FIPS 197, 1)
abbrev pub key_len : Bits → ℕ
key_len B128 = 16
key_len B192 = 24
key_len B256 = 32

-- the mode of operation (SP 800-38A, 6)
abbrev pub kind_of : AesMode → ModeKind
kind_of mode.Ecb = kind.Ecb
kind_of mode.Cbc = kind.Cbc
kind_of mode.Cfb = kind.Cfb
kind_of mode.Ofb = kind.Ofb
kind_of mode.Ctr = kind.Ctr

-- which of its steps HKDF takes (RFC 5869, 2)
abbrev pub hkdf_mode : KdfMode → HkdfMode
hkdf_mode kdf.Both = hkdf.Both
hkdf_mode kdf.Extract = hkdf.Extract
hkdf_mode kdf.Expand = hkdf.Expand

-- the parameters that a code needs, in the order Key, Iv, Inner, Len; it passes over every other one but HKDF's salt
-- and
-- info, which may be absent (EVP_EncryptInit(3), EVP_MAC(3), EVP_KDF(3))
abbrev pub needed : Code → KdfMode → List Param
needed (Aes bits mode.Ecb) steps = Key ∷ []
needed (Aes bits _) steps = Key ∷ Iv ∷ []
needed ChaCha20 steps = Key ∷ Iv ∷ []
needed Rc4 steps = Key ∷ []
needed Hmac steps = Key ∷ Inner ∷ []
needed Cmac steps = Key ∷ Inner ∷ []
needed Hkdf kdf.Extract = Key ∷ Inner ∷ []
needed Hkdf _ = Key ∷ Inner ∷ Len ∷ []
needed _ steps = []

-- HMAC and HKDF run on a digest, CMAC on AES in CBC mode (FIPS 198-1, RFC 5869, SP 800-38B)
abbrev pub takes_inner : Code → Option Code → Bool
takes_inner Hmac inner = is_some (option_and_then hash_of inner)
takes_inner Hkdf inner = is_some (option_and_then hash_of inner)
takes_inner Cmac inner = is_some (option_and_then cbc_bits inner)
takes_inner _ inner = true

-- whether a code takes a key of n bytes: AES and ChaCha20 their own length, CMAC that of its inner cipher, RC4 1 to
-- 256, HMAC and HKDF any
abbrev pub takes_key : Code → Option Code → ℕ → Bool
takes_key (Aes bits _) inner n = n == key_len bits
takes_key Cmac inner n = option_map_or (λ bits. n == key_len bits) (option_and_then cbc_bits inner) true
takes_key ChaCha20 inner n = n == 32
takes_key Rc4 inner n = nat_le 1 n && nat_le n 256
takes_key _ inner n = true

-- whether a code takes an IV of n bytes: a block for AES, the counter and the nonce for ChaCha20
abbrev pub takes_iv : Code → ℕ → Bool
takes_iv (Aes bits mode.Ecb) n = true
takes_iv (Aes bits _) n = n == 16
takes_iv ChaCha20 n = n == 16
takes_iv _ n = true
