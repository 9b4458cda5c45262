-- The nine hash functions by name: what each gives of a message.
use Rattle.std.specs.Prelude.{ℕ, List}
use Rattle.ossl_digests.specs.declared.hash.Hash.{Hash}
use Rattle.ossl_digests.specs.declared.hash.Hash.TheVariants.{Sha1, Sha224, Sha256, Sha384, Sha512, Sha512t224}
use Rattle.ossl_digests.specs.declared.hash.Hash.TheVariants.{Sha512t256, Md5, Md4}
use Rattle.sha1.specs.Sha1.{sha1}
use Rattle.sha2.specs.Sha256.{sha224, sha256}
use Rattle.sha2.specs.Sha512.{sha384, sha512, sha512_224, sha512_256}
use Rattle.md5.specs.Md5.{md5}
use Rattle.ossl_digests.specs.Md4.{md4}

-- the digest of a message: FIPS 180-4 for the SHA functions, RFC 1321 for MD5, RFC 1320 for MD4
abbrev pub digest : Hash → List ℕ → List ℕ
digest Sha1 m = sha1 m
digest Sha224 m = sha224 m
digest Sha256 m = sha256 m
digest Sha384 m = sha384 m
digest Sha512 m = sha512 m
digest Sha512t224 m = sha512_224 m
digest Sha512t256 m = sha512_256 m
digest Md5 m = md5 m
digest Md4 m = md4 m

-- the bytes of a digest (FIPS 180-4, figure 1; RFC 1321, 3.5; RFC 1320, 3.5)
abbrev pub output_len : Hash → ℕ
output_len Sha1 = 20
output_len Sha224 = 28
output_len Sha256 = 32
output_len Sha384 = 48
output_len Sha512 = 64
output_len Sha512t224 = 28
output_len Sha512t256 = 32
output_len Md5 = 16
output_len Md4 = 16

-- the bytes of a block, by which the function takes a message in (FIPS 180-4, figure 1)
abbrev pub block_len : Hash → ℕ
block_len Sha1 = 64
block_len Sha224 = 64
block_len Sha256 = 64
block_len Sha384 = 128
block_len Sha512 = 128
block_len Sha512t224 = 128
block_len Sha512t256 = 128
block_len Md5 = 64
block_len Md4 = 64
