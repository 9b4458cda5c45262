-- Keys that are filled to a block and xored with a pad.
use Rattle.std.proofs.Common.{◌≡◌, ℕ, zero, suc, ◌+◌, ◌-◌, ◌<◌, ◌≤◌, List, [], ◌∷◌, ◌++◌, length, map, take, drop, replicate, refl, sym, ap, ◌∙◌, arith, nat_lt, true, false, lit≤}
use Rattle.std.specs.Prelude.{bit_xor}
use Rattle.std.specs.Int.Bits.{xor_zero_r}
use Rattle.std.proofs.lemmas.Bool.Decides.{nat_tests}
use Rattle.std.proofs.Common.{subst, get_or, set}
use Rattle.std.proofs.lemmas.List.{append-nil, take-take, drop-take, take_more_set, map_more, drop-set-lt, drop-drop, drop-replicate, take-replicate, length-set, map-append, take_all, take-append-drop}
use Rattle.ossl_digests.specs.declared.hash.Hash.{Hash}
use Rattle.ossl_digests.specs.declared.hash.Hash.TheVariants.{Sha1, Sha224, Sha256, Sha384, Sha512, Sha512t224, Sha512t256, Md5, Md4}
use Rattle.ossl_digests.specs.Digest.{digest, block_len, output_len}
use Rattle.ossl_digests.specs.Holds as D
use Rattle.ossl_hmac.specs.declared.hmac.Hmac.{Hmac}
use Rattle.ossl_hmac.specs.Hmac.{short_key, filled_key}
use Rattle.ossl_hmac.specs.Holds.{Holds}

-- no block has more than 128 bytes
pub block_len_bound : (hash : Hash) → block_len hash ≤ 128
block_len_bound Sha1 = lit≤ tt
block_len_bound Sha224 = lit≤ tt
block_len_bound Sha256 = lit≤ tt
block_len_bound Sha384 = lit≤ tt
block_len_bound Sha512 = lit≤ tt
block_len_bound Sha512t224 = lit≤ tt
block_len_bound Sha512t256 = lit≤ tt
block_len_bound Md5 = lit≤ tt
block_len_bound Md4 = lit≤ tt

-- a digest fits in a block
pub output_len_bound : (hash : Hash) → output_len hash ≤ block_len hash
output_len_bound Sha1 = lit≤ tt
output_len_bound Sha224 = lit≤ tt
output_len_bound Sha256 = lit≤ tt
output_len_bound Sha384 = lit≤ tt
output_len_bound Sha512 = lit≤ tt
output_len_bound Sha512t224 = lit≤ tt
output_len_bound Sha512t256 = lit≤ tt
output_len_bound Md5 = lit≤ tt
output_len_bound Md4 = lit≤ tt

rest : (i : ℕ) → i < 128 → 128 - i - 1 ≡ 128 - (i + 1)
rest i h = omega arith

-- the key xored with the pad, once one more byte is
pub xored_more : (pad : ℕ) (key block : List ℕ) (i b : ℕ) → take i block ≡ map (λ byte. bit_xor pad byte) (take i key) → drop i block ≡ replicate (128 - i) pad → length block ≡ 128
    → i < length key → i < 128 → b ≡ bit_xor pad (get_or key i 0)
    → (take (i + 1) (set block i b) ≡ map (λ byte. bit_xor pad byte) (take (i + 1) key)) × (drop (i + 1) (set block i b) ≡ replicate (128 - (i + 1)) pad)
    × (length (set block i b) ≡ 128)
xored_more pad key block i b front back len in_key in_block is = (
  take_more_set block i b (omega arith)
      ∙ (λ d. front d ++ is d ∷ [])
      ∙ sym (map_more (λ byte. bit_xor pad byte) key i 0 in_key),
  drop-set-lt (i + 1) block i b (omega arith)
      ∙ sym (drop-drop 1 i block)
      ∙ ap (drop 1) back
      ∙ drop-replicate 1 (128 - i) pad
      ∙ ap (λ n. replicate n pad) (rest i in_block),
  length-set block i b ∙ len,
)

-- xoring zeros gives the pad
map-zeros : (pad n : ℕ) → map (λ byte. bit_xor pad byte) (replicate n 0) ≡ replicate n pad
map-zeros pad zero = refl
map-zeros pad (suc n) = λ d. xor_zero_r pad d ∷ map-zeros pad n d

-- the first bytes of a list, in two parts
take_parts : (xs : List ℕ) (i n : ℕ) → take i xs ++ take n (drop i xs) ≡ take (i + n) xs
take_parts xs i n =
    let e : take i (take (i + n) xs) ++ drop i (take (i + n) xs) ≡ take (i + n) xs = take-append-drop i (take (i + n) xs) in
    rw (take-take i (i + n) xs (omega arith), drop-take i n xs) at e

-- the key xored with the pad, and the pad up to a block, is the filled key xored with the pad
pub xored_all : (pad : ℕ) (hash : Hash) (key block : List ℕ) (i : ℕ) → take i block ≡ map (λ byte. bit_xor pad byte) (take i key) → drop i block ≡ replicate (128 - i) pad
    → length block ≡ 128 → i ≡ length key → length key ≤ block_len hash
    → take (block_len hash) block ≡ map (λ byte. bit_xor pad byte) (filled_key hash key)
xored_all pad hash key block i front back len end fits =
    let f : ℕ → ℕ = λ byte. bit_xor pad byte in
    let zeros : ℕ = block_len hash - length key in
    let bound : block_len hash ≤ 128 = block_len_bound hash in
    let low : i ≤ length block = omega arith in
    let sum : i + zeros ≡ block_len hash = omega arith in
    let key_part : take i block ≡ map f key = front ∙ ap (λ xs. map f xs) (take_all i key (omega arith)) in
    let pad_part : take zeros (drop i block) ≡ map f (replicate zeros 0) =
    ap (take zeros) back ∙ take-replicate zeros (128 - i) pad (omega arith) ∙ sym (map-zeros pad zeros) in
    ap (λ n. take n block) (sym sum) ∙ sym (take_parts block i zeros)
    ∙ (λ d. key_part d ++ pad_part d)
    ∙ sym (map-append f key (replicate zeros 0))

-- an HMAC whose digesters were fed the padded keys, and nothing more
pub Holds-keyed : (mac : Hmac) (hash : Hash) (key short : List ℕ) → short ≡ short_key hash key
    → D.Holds mac.inner hash (map (λ byte. bit_xor 0x36 byte) (filled_key hash short)) → D.Holds mac.outer hash (map (λ byte. bit_xor 0x5C byte) (filled_key hash short))
    → Holds mac hash key []
Holds-keyed mac hash key short e inner outer =
    let HoldsInner : List ℕ → Type 0 = λ m. D.Holds mac.inner hash m in
    let HoldsOuter : List ℕ → Type 0 = λ m. D.Holds mac.outer hash m in record {
      inner = subst HoldsInner (ap (λ k. map (λ byte. bit_xor 0x36 byte) (filled_key hash k)) e ∙ sym (append-nil _)) inner;
      outer = subst HoldsOuter (ap (λ k. map (λ byte. bit_xor 0x5C byte) (filled_key hash k)) e) outer;
    }

-- a key longer than a block is hashed
pub short_key-long : (hash : Hash) (key : List ℕ) → block_len hash < length key → short_key hash key ≡ digest hash key
short_key-long hash key h = let long : nat_lt (block_len hash) (length key) ≡ true = grind (arith, nat_tests) in rw long refl

-- any other key stays
pub short_key-short : (hash : Hash) (key : List ℕ) → length key ≤ block_len hash → short_key hash key ≡ key
short_key-short hash key h = let short : nat_lt (block_len hash) (length key) ≡ false = grind (arith, nat_tests) in rw short refl
