-- The rows of the built-in providers: each algorithm's names, joined by `:`, and its code, in the order of the rows.
-- The names are those of the providers' manual pages, OSSL_PROVIDER-default(7) and its sisters, and of the pages that
-- these list.
use Rattle.std.specs.Prelude.{ℕ, List, [], ◌∷◌, ◌++◌, codes, map}
use Rattle.ossl_codes.specs.declared.code.Code.{Code}
use Rattle.ossl_codes.specs.declared.code.Code.TheVariants.{Sha1, Sha224, Sha256, Sha384, Sha512, Sha512t224}
use Rattle.ossl_codes.specs.declared.code.Code.TheVariants.{Sha512t256, Md5, Md4, Aes, ChaCha20, Rc4, Hmac, Cmac, Hkdf}
use Rattle.ossl_codes.specs.declared.code.Bits.TheVariants.{B128, B192, B256}
use Rattle.ossl_codes.specs.declared.code.AesMode.TheVariants.{Ecb, Cbc, Cfb, Ofb, Ctr}
use Rattle.ossl_provider.specs.declared.table.TableRow.{TableRow}
use Rattle.ossl_provider.specs.Table.{TableView}
use Rattle.ossl_rows.specs.declared.kind.Builtin.{Builtin}
use Rattle.ossl_rows.specs.declared.kind.Builtin.TheVariants.{Default, Legacy, Fips, Null, Base}

-- an algorithm's names and its code
abbrev pub Named : Type 0
Named = List ℕ × Code

-- SHA-2 and SHA-1 (EVP_MD-SHA2(7), EVP_MD-SHA1(7)): rows 0 to 6 of `default` and of `fips`
abbrev pub sha : List Named
sha =
    (codes "SHA2-256:SHA-256:SHA256", Sha256)
    ∷ (codes "SHA2-224:SHA-224:SHA224", Sha224)
    ∷ (codes "SHA2-384:SHA-384:SHA384", Sha384)
    ∷ (codes "SHA2-512:SHA-512:SHA512", Sha512)
    ∷ (codes "SHA2-512/224:SHA-512/224:SHA512-224", Sha512t224)
    ∷ (codes "SHA2-512/256:SHA-512/256:SHA512-256", Sha512t256)
    ∷ (codes "SHA1:SHA-1", Sha1)
    ∷ []

-- MD5 (EVP_MD-MD5(7)): row 7 of `default`
abbrev pub md5 : List Named
md5 = (codes "MD5", Md5) ∷ []

-- AES (EVP_CIPHER-AES(7)): rows 8 to 22 of `default`, 7 to 21 of `fips`
abbrev pub aes : List Named
aes =
    (codes "AES-128-ECB", Aes B128 Ecb)
    ∷ (codes "AES-128-CBC:AES128", Aes B128 Cbc)
    ∷ (codes "AES-128-CFB", Aes B128 Cfb)
    ∷ (codes "AES-128-OFB", Aes B128 Ofb)
    ∷ (codes "AES-128-CTR", Aes B128 Ctr)
    ∷ (codes "AES-192-ECB", Aes B192 Ecb)
    ∷ (codes "AES-192-CBC:AES192", Aes B192 Cbc)
    ∷ (codes "AES-192-CFB", Aes B192 Cfb)
    ∷ (codes "AES-192-OFB", Aes B192 Ofb)
    ∷ (codes "AES-192-CTR", Aes B192 Ctr)
    ∷ (codes "AES-256-ECB", Aes B256 Ecb)
    ∷ (codes "AES-256-CBC:AES256", Aes B256 Cbc)
    ∷ (codes "AES-256-CFB", Aes B256 Cfb)
    ∷ (codes "AES-256-OFB", Aes B256 Ofb)
    ∷ (codes "AES-256-CTR", Aes B256 Ctr)
    ∷ []

-- ChaCha20 (EVP_CIPHER-CHACHA(7)): row 23 of `default`
abbrev pub chacha : List Named
chacha = (codes "ChaCha20", ChaCha20) ∷ []

-- what runs on a digest or a cipher (EVP_MAC-HMAC(7), EVP_MAC-CMAC(7), EVP_KDF-HKDF(7)): rows 24 to 26 of `default`, 22
-- to 24 of `fips`
abbrev pub keyed : List Named
keyed = (codes "HMAC", Hmac) ∷ (codes "CMAC", Cmac) ∷ (codes "HKDF", Hkdf) ∷ []

-- what `legacy` keeps (EVP_MD-MD4(7), EVP_CIPHER-RC4(7)): its rows 0 and 1
abbrev pub outdated : List Named
outdated = (codes "MD4", Md4) ∷ (codes "RC4", Rc4) ∷ []

-- rows that all have one property definition (property(7))
abbrev pub rows_of : List ℕ → List Named → List TableRow
rows_of definition algorithms = map (λ a. record { names = a.0; definition = definition; code = a.1 }) algorithms

-- a provider by its name, the property definition of its rows, its least key in bytes and its algorithms, before any
-- start
abbrev pub unstarted : List ℕ → List ℕ → ℕ → List Named → TableView
unstarted name definition least_key algorithms =
    record { name = name; rows = rows_of definition algorithms; least_key = least_key; up = []; starts = 0 }

-- the built-in providers; `fips` wants keys of 14 bytes for HMAC and HKDF, the 112 bits of SP 800-131A; `null` and
-- `base` have no rows, and so no definition
abbrev pub table_of : Builtin → TableView
table_of Default = unstarted (codes "default") (codes "provider=default") 0 (sha ++ md5 ++ aes ++ chacha ++ keyed)
table_of Legacy = unstarted (codes "legacy") (codes "provider=legacy") 0 outdated
table_of Fips = unstarted (codes "fips") (codes "provider=fips,fips=yes") 14 (sha ++ aes ++ keyed)
table_of Null = unstarted (codes "null") [] 0 []
table_of Base = unstarted (codes "base") [] 0 []
