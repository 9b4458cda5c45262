-- The blocks of PBKDF2: texts that are xored, and what stands in front of a text that is filled block by block.
use Rattle.std.proofs.Common.{◌≡◌, ℕ, zero, suc, ◌+◌, ◌-◌, ◌*◌, ◌<◌, ◌≤◌, List, [], ◌∷◌, ◌++◌, length, get_or, set, take, drop, min, refl, sym, ap, ◌∙◌, append_assoc, length-append, replicate, mul-le-mul_right, lit≤, lit<, arith, inl, inr}
use Rattle.std.specs.Prelude.{bit_xor}
use Rattle.std.specs.Int.Bits.{xor_zero_l}
use Rattle.std.proofs.Math.Seq.{take-append-add}
use Rattle.std.proofs.lemmas.List.{take-take}
use Rattle.std.specs.Int.{w32, to_be_bytes, div_ceil}
use Rattle.std.proofs.lemmas.Grind.{div_ceil_times}
use Rattle.std.proofs.lemmas.List.{drop_more, take_more_set, drop-set-lt, append-nil, take_all, take_at, drop_all, take-append-drop, length-take-le}
use Rattle.std.proofs.lemmas.Bool.{cases_lt}
use Rattle.ossl_digests.specs.declared.hash.Hash.{Hash}
use Rattle.ossl_digests.specs.declared.hash.Hash.TheVariants.{Sha1, Sha224, Sha256, Sha384, Sha512, Sha512t224, Sha512t256, Md5, Md4}
use Rattle.ossl_digests.specs.Digest.{output_len}
use Rattle.ossl_digests.proofs.Lengths.{length-digest}
use Rattle.ossl_hmac.specs.Hmac.{hmac}
use Rattle.ossl_hmac.specs.Pbkdf2.{xored, chained_code, xored_codes, derived_block, derived_blocks}

-- one byte further in a text that is xored in place
pub xored_more : (sum code : List ℕ) (i : ℕ) → i < length sum → i < length code
    → take i sum ++ xored (drop i sum) (drop i code)
    ≡ take (i + 1) (set sum i (bit_xor (get_or sum i 0) (get_or code i 0)))
    ++ xored (drop (i + 1) (set sum i (bit_xor (get_or sum i 0) (get_or code i 0)))) (drop (i + 1) code)
unfolding xored
xored_more sum code i h k =
    let y = bit_xor (get_or sum i 0) (get_or code i 0) in
    rw (take_more_set sum i y h, drop-set-lt (i + 1) sum i y (omega arith), drop_more sum i 0 h, drop_more code i 0 k)
    (sym (append_assoc (take i sum) (y ∷ []) (xored (drop (i + 1) sum) (drop (i + 1) code))))

xored-nil : (xs : List ℕ) → xored xs [] ≡ xs
unfolding xored
xored-nil [] = refl
xored-nil (x ∷ xs) = refl

-- a text that is xored as far as the shorter one reaches
pub xored_end : (sum code : List ℕ) (i : ℕ) → i ≡ min (length sum) (length code) → take i sum ++ xored (drop i sum) (drop i code) ≡ sum
unfolding xored
xored_end sum code i end =
    elim (cases_lt (length code) (length sum)) [
      | inl more ↦
          let all : drop i code ≡ [] = drop_all i code (omega (arith, more)) in
          ap (λ (c : List ℕ). take i sum ++ xored (drop i sum) c) all ∙ ap (λ (t : List ℕ). take i sum ++ t) (xored-nil (drop i sum)) ∙ take-append-drop i sum
      | inr less ↦
          let all : drop i sum ≡ [] = drop_all i sum (omega (arith, less)) in
          ap (λ (c : List ℕ). take i sum ++ xored c (drop i code)) all ∙ append-nil (take i sum) ∙ take_all i sum (omega (arith, less))
    ]

-- the front of a xored text
pub take-xored : (n : ℕ) (xs ys : List ℕ) → take n (xored xs ys) ≡ xored (take n xs) (take n ys)
unfolding xored
take-xored zero [] ys = refl
take-xored (suc n) [] ys = refl
take-xored zero (x ∷ xs) [] = refl
take-xored zero (x ∷ xs) (y ∷ ys) = refl
take-xored (suc n) (x ∷ xs) [] = refl
take-xored (suc n) (x ∷ xs) (y ∷ ys) = ap (λ (t : List ℕ). bit_xor x y ∷ t) (take-xored n xs ys)

-- a text that is xored into zeros
pub xored-zeros : (n : ℕ) (ys : List ℕ) → length ys ≤ n → take (length ys) (xored (replicate n 0) ys) ≡ ys
unfolding xored
xored-zeros zero [] h = refl
xored-zeros (suc n) [] h = refl
xored-zeros zero (y ∷ ys) h = absurd (omega (arith, h))
xored-zeros (suc n) (y ∷ ys) h = λ d. xor_zero_l y d ∷ xored-zeros n ys (omega (arith, h)) d

length-xored : (xs ys : List ℕ) → length (xored xs ys) ≡ length xs
unfolding xored
length-xored [] ys = refl
length-xored (x ∷ xs) [] = refl
length-xored (x ∷ xs) (y ∷ ys) = ap suc (length-xored xs ys)

pub length-hmac : (hash : Hash) (key text : List ℕ) → length (hmac hash key text) ≡ output_len hash
unfolding hmac
length-hmac hash key text = length-digest hash _

pub length-chained_code : (hash : Hash) (password text : List ℕ) (n : ℕ) → length (chained_code hash password text n) ≡ output_len hash
unfolding chained_code
length-chained_code hash password text zero = length-hmac hash password text
length-chained_code hash password text (suc n) = length-hmac hash password _

length-xored_codes : (hash : Hash) (password text : List ℕ) (n : ℕ) → length (xored_codes hash password text n) ≡ output_len hash
unfolding xored_codes
length-xored_codes hash password text zero = length-chained_code hash password text zero
length-xored_codes hash password text (suc n) = length-xored _ _ ∙ length-xored_codes hash password text n

pub length-derived_blocks : (hash : Hash) (password salt : List ℕ) (rounds n : ℕ) → length (derived_blocks hash password salt rounds n) ≡ n * output_len hash
unfolding derived_blocks
length-derived_blocks hash password salt rounds zero = omega arith
length-derived_blocks hash password salt rounds (suc n) =
    omega (
      arith,
      length-append (derived_blocks hash password salt rounds n) (derived_block hash password salt rounds (suc n)),
      length-derived_blocks hash password salt rounds n,
      length-xored_codes hash password (salt ++ to_be_bytes w32 (suc n)) (rounds - 1),
    )

pub length-derived_block : (hash : Hash) (password salt : List ℕ) (rounds i : ℕ) → length (derived_block hash password salt rounds i) ≡ output_len hash
length-derived_block hash password salt rounds i = length-xored_codes hash password (salt ++ to_be_bytes w32 i) (rounds - 1)

-- as many bytes of a block as there are, or as there is room for
cut_block : (b : List ℕ) (room size : ℕ) → length b ≡ size → take (min room size) b ≡ take room b
cut_block b room size len =
    elim (cases_lt room size) [
      | inl less ↦ let e : min room size ≡ room = omega (arith, less) in ap (λ n. take n b) e
      | inr more ↦ let e : min room size ≡ size = omega (arith, more) in
          ap (λ n. take n b) e ∙ take_all size b (omega (arith, len)) ∙ sym (take_all room b (omega (arith, len, more)))
    ]

-- a text whose front holds the first blocks, once one more block, or as much as there is room for, stands after them
pub filled_more : (out bs b mid rest : List ℕ) (i size len start end : ℕ) → start ≡ i * size → take (min (i * size) len) out ≡ take len bs
    → length bs ≡ i * size → length b ≡ size → i * size < len → end ≡ min len (start + size) → mid ≡ take (end - start) b
    → take (min ((i + 1) * size) len) (take start out ++ (mid ++ rest)) ≡ take len (bs ++ b)
filled_more out bs b mid rest i size len start end begins before len_bs len_b room is_end is_mid =
    let at : min (i * size) len ≡ start = omega (arith, room, begins) in
    let front : take start out ≡ bs = ap (λ n. take n out) (sym at) ∙ before ∙ take_all len bs (omega (arith, len_bs, room)) in
    let n : end - start ≡ min (len - start) size = omega (arith, is_end, room, begins) in
    let m : mid ≡ take (len - start) b = is_mid ∙ ap (λ k. take k b) n ∙ cut_block b (len - start) size len_b in
    let len_mid : length mid ≡ end - start = ap length is_mid ∙ length-take-le (end - start) b (omega (arith, n, len_b)) in
    let whole : length (bs ++ mid) ≡ min ((i + 1) * size) len = omega (arith, length-append bs mid, len_bs, len_mid, is_end, room, begins) in
    let all : len ≡ length bs + (len - start) = omega (arith, len_bs, room, begins) in
    ap (take (min ((i + 1) * size) len)) ((λ d. front d ++ (mid ++ rest)) ∙ sym (append_assoc bs mid rest))
    ∙ take_at (bs ++ mid) rest (min ((i + 1) * size) len) whole
    ∙ ap (λ t. bs ++ t) m
    ∙ sym (ap (λ k. take k (bs ++ b)) all ∙ take-append-add bs b (len - start))

-- one block more
pub derived_blocks_more : (hash : Hash) (password salt : List ℕ) (rounds n : ℕ)
    → derived_blocks hash password salt rounds (n + 1) ≡ derived_blocks hash password salt rounds n ++ derived_block hash password salt rounds (n + 1)
unfolding derived_blocks
derived_blocks_more hash password salt rounds n = let e : n + 1 ≡ suc n = omega arith in rw e refl

-- the block after i blocks begins within the text that so many blocks fill
pub begins_within : (i len size : ℕ) → 0 < size → i < div_ceil len size → i * size < len
begins_within i len size some less =
    let above : div_ceil len size * size < len + size = (div_ceil_times len size some).1 in
    let product : (i + 1) * size ≤ div_ceil len size * size = mul-le-mul_right size (omega (arith, less)) in
    omega (arith, above, product)

-- one code more is xored
pub codes_more : (hash : Hash) (password text code sum code' sum' : List ℕ) (n : ℕ) → 1 ≤ n
    → code ≡ chained_code hash password text (n - 1) → take (output_len hash) sum ≡ xored_codes hash password text (n - 1)
    → code' ≡ hmac hash password code → sum' ≡ xored sum code'
    → (code' ≡ chained_code hash password text (n + 1 - 1)) × (take (output_len hash) sum' ≡ xored_codes hash password text (n + 1 - 1))
unfolding chained_code xored_codes
codes_more hash password text code sum code' sum' n some is_code is_sum next_code next_sum =
    let e : n + 1 - 1 ≡ suc (n - 1) = omega arith in
    let next : code' ≡ chained_code hash password text (suc (n - 1)) = next_code ∙ ap (hmac hash password) is_code in
    let len : length code' ≡ output_len hash = ap length next_code ∙ length-hmac hash password code in (
      next ∙ ap (chained_code hash password text) (sym e),
      ap (take (output_len hash)) next_sum ∙ take-xored (output_len hash) sum code'
          ∙ (λ d. xored (is_sum d) (take_all (output_len hash) code' (omega (arith, len)) d))
          ∙ ap (xored (xored_codes hash password text (n - 1))) next
          ∙ ap (xored_codes hash password text) (sym e),
    )

-- the first code, xored into zeros
pub first_code : (hash : Hash) (password text code sum : List ℕ) (n : ℕ) → code ≡ hmac hash password text → sum ≡ xored (replicate n 0) code
    → output_len hash ≤ n → (code ≡ chained_code hash password text 0) × (take (output_len hash) sum ≡ xored_codes hash password text 0)
unfolding chained_code xored_codes
first_code hash password text code sum n is_code is_sum fits =
    let len : length code ≡ output_len hash = ap length is_code ∙ length-hmac hash password text in (
      is_code,
      ap (λ k. take k sum) (sym len) ∙ ap (take (length code)) is_sum ∙ xored-zeros n code (omega (arith, len, fits)) ∙ is_code,
    )

-- no digest has more than 64 bytes
pub output_len_within : (hash : Hash) → output_len hash ≤ 64
output_len_within Sha1 = lit≤ tt
output_len_within Sha224 = lit≤ tt
output_len_within Sha256 = lit≤ tt
output_len_within Sha384 = lit≤ tt
output_len_within Sha512 = lit≤ tt
output_len_within Sha512t224 = lit≤ tt
output_len_within Sha512t256 = lit≤ tt
output_len_within Md5 = lit≤ tt
output_len_within Md4 = lit≤ tt

-- the front of a text's front
pub cut_front : (n size : ℕ) (xs b : List ℕ) → n ≤ size → take size xs ≡ b → take n xs ≡ take n b
cut_front n size xs b fits is = sym (take-take n size xs fits) ∙ ap (take n) is

-- every digest has a byte
pub some_digest : (hash : Hash) → 0 < output_len hash
some_digest Sha1 = lit< tt
some_digest Sha224 = lit< tt
some_digest Sha256 = lit< tt
some_digest Sha384 = lit< tt
some_digest Sha512 = lit< tt
some_digest Sha512t224 = lit< tt
some_digest Sha512t256 = lit< tt
some_digest Md5 = lit< tt
some_digest Md4 = lit< tt
