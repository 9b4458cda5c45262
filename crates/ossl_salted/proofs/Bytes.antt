-- What PBKDF2 with SHA-256 makes is bytes, as many as are asked for.
use Rattle.std.proofs.Common.{◌≡◌, ℕ, zero, suc, ◌+◌, ◌-◌, ◌*◌, ◌≤◌, List, [], ◌∷◌, ◌++◌, length, take, drop, slice_index, ◌∙◌, arith, lit<}
use Rattle.std.specs.Int.{w32, to_be_bytes, div_ceil}
use Rattle.std.proofs.lemmas.Nat.{xor_lt}
use Rattle.std.proofs.lemmas.Grind.{div_ceil_times}
use Rattle.std.proofs.lemmas.List.{length-drop, length-take-le}
use Rattle.sha2.specs.Sha256.{sha256, digest_bytes}
use Rattle.ossl_digests.specs.declared.hash.Hash.TheVariants.{Sha256}
use Rattle.ossl_hmac.specs.Hmac.{hmac}
use Rattle.ossl_hmac.specs.Pbkdf2.{chained_code, derived_block, derived_blocks, pbkdf2, xored, xored_codes}
use Rattle.ossl_hmac.proofs.Derivation.{length-derived_blocks}
use Rattle.ossl_aes.specs.Inverse.{IsBlock}
use Rattle.ossl_aes.proofs.Undoing.{AreBytes, bytes-append, places_of_bytes}

bytes_front : (n : ℕ) (xs : List ℕ) → AreBytes xs → AreBytes (take n xs)
bytes_front zero xs h = tt
bytes_front (suc n) [] h = tt
bytes_front (suc n) (x ∷ xs) h = (h.0, bytes_front n xs h.1)

bytes_back : (n : ℕ) (xs : List ℕ) → AreBytes xs → AreBytes (drop n xs)
bytes_back zero xs h = h
bytes_back (suc n) [] h = tt
bytes_back (suc n) (x ∷ xs) h = bytes_back n xs h.1

bytes-word : (w : ℕ) → AreBytes (to_be_bytes w32 w)
bytes-word w = (omega arith, (omega arith, (omega arith, (omega arith, tt))))

bytes-digest : (h : List ℕ) (n : ℕ) → AreBytes (digest_bytes h n)
unfolding digest_bytes
bytes-digest h zero = tt
bytes-digest h (suc n) = bytes-append (digest_bytes h n) (to_be_bytes w32 (slice_index h n)) (bytes-digest h n) (bytes-word (slice_index h n))

bytes-sha256 : (m : List ℕ) → AreBytes (sha256 m)
unfolding sha256
bytes-sha256 m = bytes-digest _ 8

bytes-hmac : (key text : List ℕ) → AreBytes (hmac Sha256 key text)
unfolding hmac
bytes-hmac key text = bytes-sha256 _

bytes-xored : (xs ys : List ℕ) → AreBytes xs → AreBytes ys → AreBytes (xored xs ys)
unfolding xored
bytes-xored [] ys h k = tt
bytes-xored (x ∷ xs) [] h k = h
bytes-xored (x ∷ xs) (y ∷ ys) h k = (xor_lt 8 x y h.0 k.0, bytes-xored xs ys h.1 k.1)

bytes-chained : (password text : List ℕ) (n : ℕ) → AreBytes (chained_code Sha256 password text n)
unfolding chained_code
bytes-chained password text zero = bytes-hmac password text
bytes-chained password text (suc n) = bytes-hmac password _

bytes-codes : (password text : List ℕ) (n : ℕ) → AreBytes (xored_codes Sha256 password text n)
unfolding xored_codes
bytes-codes password text zero = bytes-chained password text 0
bytes-codes password text (suc n) = bytes-xored _ _ (bytes-codes password text n) (bytes-chained password text (suc n))

bytes-blocks : (password salt : List ℕ) (rounds n : ℕ) → AreBytes (derived_blocks Sha256 password salt rounds n)
unfolding derived_blocks
bytes-blocks password salt rounds zero = tt
bytes-blocks password salt rounds (suc n) =
    bytes-append (derived_blocks Sha256 password salt rounds n) (derived_block Sha256 password salt rounds (suc n)) (bytes-blocks password salt rounds n)
    (bytes-codes password (salt ++ to_be_bytes w32 (suc n)) (rounds - 1))

bytes-pbkdf2 : (password salt : List ℕ) (rounds len : ℕ) → AreBytes (pbkdf2 Sha256 password salt rounds len)
bytes-pbkdf2 password salt rounds len = bytes_front len (derived_blocks Sha256 password salt rounds (div_ceil len 32)) (bytes-blocks password salt rounds (div_ceil len 32))

length-pbkdf2 : (password salt : List ℕ) (rounds len : ℕ) → length (pbkdf2 Sha256 password salt rounds len) ≡ len
length-pbkdf2 password salt rounds len =
    let enough : len ≤ div_ceil len 32 * 32 = (div_ceil_times len 32 (lit< tt)).0 in
    length-take-le len (derived_blocks Sha256 password salt rounds (div_ceil len 32)) (omega (arith, enough, length-derived_blocks Sha256 password salt rounds (div_ceil len 32)))

-- the last 16 of as many bytes are a block
pub last_block : (password salt : List ℕ) (rounds n : ℕ) → IsBlock (drop n (pbkdf2 Sha256 password salt rounds (n + 16)))
last_block password salt rounds n =
    let material : List ℕ = pbkdf2 Sha256 password salt rounds (n + 16) in (
      length-drop n material ∙ omega (arith, length-pbkdf2 password salt rounds (n + 16)),
      places_of_bytes (drop n material) (bytes_back n material (bytes-pbkdf2 password salt rounds (n + 16))),
    )
