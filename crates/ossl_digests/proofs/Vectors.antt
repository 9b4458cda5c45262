-- Digests of RFC 1320's test suite (A.5), so that a wrong constant, step or padding in the definition
-- does not check.
use Rattle.std.proofs.Common.{◌≡◌, [], ◌∷◌, codes, refl}
use Rattle.ossl_digests.specs.Md4.{operation, round_1, round_2, round_3, compress, registers_after, digest_from, md4}

pub digest_of_nothing : md4 [] ≡ 49 ∷ 214 ∷ 207 ∷ 224 ∷ 209 ∷ 106 ∷ 233 ∷ 49 ∷ 183 ∷ 60 ∷ 89 ∷ 215 ∷ 224 ∷ 192 ∷ 137 ∷ 192 ∷ []
unfolding operation round_1 round_2 round_3 compress registers_after digest_from md4
digest_of_nothing = refl

pub digest_of_abc : md4 (codes "abc") ≡ 164 ∷ 72 ∷ 1 ∷ 122 ∷ 175 ∷ 33 ∷ 216 ∷ 82 ∷ 95 ∷ 193 ∷ 10 ∷ 232 ∷ 122 ∷ 166 ∷ 114 ∷ 157 ∷ []
unfolding operation round_1 round_2 round_3 compress registers_after digest_from md4
digest_of_abc = refl

-- 62 bytes, which the padding carries into a second block
pub digest_of_two_blocks : md4 (codes "ABCDEFGHIJKLMNOPQRSTUVWXYZabcdefghijklmnopqrstuvwxyz0123456789") ≡ 4 ∷ 63 ∷ 133 ∷ 130 ∷ 242 ∷ 65 ∷ 219 ∷ 53 ∷ 28 ∷ 230 ∷ 39 ∷ 225 ∷ 83 ∷ 231 ∷ 240 ∷ 228 ∷ []
unfolding operation round_1 round_2 round_3 compress registers_after digest_from md4
digest_of_two_blocks = refl
