-- Every hash can derive as many bytes as are asked for.
use Rattle.std.proofs.Common.{◌≤◌, ◌*◌, lit≤}
use Rattle.ossl_digests.specs.declared.hash.Hash.{Hash}
use Rattle.ossl_digests.specs.declared.hash.Hash.TheVariants.{Sha1, Sha224, Sha256, Sha384, Sha512, Sha512t224, Sha512t256, Md5, Md4}
use Rattle.ossl_digests.specs.Digest.{output_len}

pub derivable : (hash : Hash) → 42 ≤ 255 * output_len hash
derivable Sha1 = lit≤ tt
derivable Sha224 = lit≤ tt
derivable Sha256 = lit≤ tt
derivable Sha384 = lit≤ tt
derivable Sha512 = lit≤ tt
derivable Sha512t224 = lit≤ tt
derivable Sha512t256 = lit≤ tt
derivable Md5 = lit≤ tt
derivable Md4 = lit≤ tt
