-- The worked example of RFC 5869, A.4, so that a wrong order of key, salt and info does not check.
use Rattle.std.proofs.Common.{◌≡◌, ℕ, List, [], ◌∷◌, refl}
use Rattle.ossl_digests.specs.declared.hash.Hash.TheVariants.{Sha1}
use Rattle.sha1.specs.Sha1.{first_words, schedule, rounds, compress, hash_after, digest_bytes, sha1}
use Rattle.ossl_hmac.specs.Hmac.{hmac}
use Rattle.ossl_hkdf.specs.Hkdf.{extract, block}

abbrev salt : List ℕ
salt = 0 ∷ 1 ∷ 2 ∷ 3 ∷ 4 ∷ 5 ∷ 6 ∷ 7 ∷ 8 ∷ 9 ∷ 10 ∷ 11 ∷ 12 ∷ []

abbrev material : List ℕ
material = 11 ∷ 11 ∷ 11 ∷ 11 ∷ 11 ∷ 11 ∷ 11 ∷ 11 ∷ 11 ∷ 11 ∷ 11 ∷ []

abbrev info : List ℕ
info = 240 ∷ 241 ∷ 242 ∷ 243 ∷ 244 ∷ 245 ∷ 246 ∷ 247 ∷ 248 ∷ 249 ∷ []

abbrev pseudorandom_key : List ℕ
pseudorandom_key = 155 ∷ 108 ∷ 24 ∷ 196 ∷ 50 ∷ 167 ∷ 191 ∷ 143 ∷ 14 ∷ 113 ∷ 200 ∷ 235 ∷ 136 ∷ 244 ∷ 179 ∷ 11 ∷ 170 ∷ 43 ∷ 162 ∷ 67 ∷ []

pub key_extracted : extract Sha1 salt material ≡ pseudorandom_key
unfolding first_words schedule rounds compress hash_after digest_bytes sha1 hmac
key_extracted = refl

pub first_block : block Sha1 pseudorandom_key info 1 ≡ 8 ∷ 90 ∷ 1 ∷ 234 ∷ 27 ∷ 16 ∷ 243 ∷ 105 ∷ 51 ∷ 6 ∷ 139 ∷ 86 ∷ 239 ∷ 165 ∷ 173 ∷ 129 ∷ 164 ∷ 241 ∷ 75 ∷ 130 ∷ []
unfolding first_words schedule rounds compress hash_after digest_bytes sha1 hmac block
first_block = refl
