-- Codes of RFC 2202 and a key of RFC 6070, so that a wrong pad or order in the definitions does not check.
use Rattle.std.proofs.Common.{◌≡◌, [], ◌∷◌, codes, refl}
use Rattle.ossl_digests.specs.declared.hash.Hash.TheVariants.{Md5}
use Rattle.md5.specs.Md5.{block_words, rounds, compress, hash_after, digest_bytes, md5}
use Rattle.ossl_hmac.specs.Hmac.{hmac}
use Rattle.ossl_hmac.specs.Pbkdf2.{xored, chained_code, xored_codes, derived_block}
use Rattle.ossl_digests.specs.declared.hash.Hash.TheVariants.{Sha1}
use Rattle.sha1.specs.Sha1 as S

-- RFC 2202, section 2, case 2
pub code_of_jefe : hmac Md5 (codes "Jefe") (codes "what do ya want for nothing?") ≡ 117 ∷ 12 ∷ 120 ∷ 62 ∷ 106 ∷ 176 ∷ 181 ∷ 3 ∷ 234 ∷ 168 ∷ 110 ∷ 49 ∷ 10 ∷ 93 ∷ 183 ∷ 56 ∷ []
unfolding block_words rounds compress hash_after digest_bytes md5 hmac
code_of_jefe = refl

-- RFC 6070, section 2, case 2
pub key_of_two_rounds : derived_block Sha1 (codes "password") (codes "salt") 2 1 ≡ 234 ∷ 108 ∷ 1 ∷ 77 ∷ 199 ∷ 45 ∷ 111 ∷ 140 ∷ 205 ∷ 30 ∷ 217 ∷ 42 ∷ 206 ∷ 29 ∷ 65 ∷ 240 ∷ 216 ∷ 222 ∷ 137 ∷ 87 ∷ []
unfolding S.first_words S.schedule S.rounds S.compress S.hash_after S.digest_bytes S.sha1 hmac xored chained_code xored_codes
key_of_two_rounds = refl
