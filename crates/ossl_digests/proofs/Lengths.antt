-- The lengths of digests.
use Rattle.std.proofs.Common.{◌≡◌, ℕ, zero, suc, ◌*◌, List, length, refl, arith, length-append}
use Rattle.std.specs.Prelude.{slice_index}
use Rattle.std.specs.Int.{w32, to_be_bytes}
use Rattle.sha1.specs.Sha1.{sha1, digest_bytes}
use Rattle.sha2.proofs.Facts256.{length-sha224, length-sha256}
use Rattle.sha2.proofs.Facts512.{length-sha384, length-sha512, length-sha512_224, length-sha512_256}
use Rattle.md5.proofs.StandardFacts.{length-md5}
use Rattle.ossl_digests.specs.declared.hash.Hash.{Hash}
use Rattle.ossl_digests.specs.declared.hash.Hash.TheVariants.{Sha1, Sha224, Sha256, Sha384, Sha512, Sha512t224, Sha512t256, Md5, Md4}
use Rattle.ossl_digests.specs.Md4.{md4, digest_from}
use Rattle.ossl_digests.specs.Digest.{digest, output_len}

length-words : (h : List ℕ) (n : ℕ) → length (digest_bytes h n) ≡ n * 4
unfolding digest_bytes
length-words h zero = refl
length-words h (suc n) =
    let last : length (to_be_bytes w32 (slice_index h n)) ≡ 4 = refl in
    omega (arith, length-words h n, last, length-append (digest_bytes h n) (to_be_bytes w32 (slice_index h n)))

length-sha1 : (m : List ℕ) → length (sha1 m) ≡ 20
unfolding sha1
length-sha1 m = length-words _ 5

length-md4 : (m : List ℕ) → length (md4 m) ≡ 16
unfolding md4 digest_from
length-md4 m = refl

-- a digest has the length of its hash
pub length-digest : (hash : Hash) (m : List ℕ) → length (digest hash m) ≡ output_len hash
length-digest Sha1 m = length-sha1 m
length-digest Sha224 m = length-sha224 m
length-digest Sha256 m = length-sha256 m
length-digest Sha384 m = length-sha384 m
length-digest Sha512 m = length-sha512 m
length-digest Sha512t224 m = length-sha512_224 m
length-digest Sha512t256 m = length-sha512_256 m
length-digest Md5 m = length-md5 m
length-digest Md4 m = length-md4 m
