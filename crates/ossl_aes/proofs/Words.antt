-- Words and their bytes.
use Rattle.std.proofs.Common.{◌≡◌, ℕ, zero, suc, ◌+◌, ◌*◌, ◌/◌, ◌%◌, ◌^◌, ◌<◌, List, [], ◌∷◌, ◌++◌, get_or, bit_xor, refl, sym, ap, ◌∙◌, arith}
use Rattle.std.proofs.lemmas.Nat.{xor_shr, xor_mod, xor_comm, le_bytes_4, le_bytes_8}
use lib.Bits.{xor_assoc}
use Rattle.std.specs.Int.Bits.{xor_zero_r}
use Rattle.std.specs.Int.{w32, w64, swap_bytes, to_be_bytes, to_le_bytes, from_le_bytes}
use Rattle.ossl_aes.specs.Cipher.{add}

byte-xor : (x y k : ℕ) → bit_xor x y / 2 ^ k % 2 ^ 8 ≡ bit_xor (x / 2 ^ k % 2 ^ 8) (y / 2 ^ k % 2 ^ 8)
byte-xor x y k = rw (xor_shr x y k) (xor_mod (x / 2 ^ k) (y / 2 ^ k) 8)

-- the bytes of a sum of words
pub bytes-xor : (x y : ℕ) → to_be_bytes w32 (bit_xor x y) ≡ add (to_be_bytes w32 x) (to_be_bytes w32 y)
unfolding add
bytes-xor x y =
    let e3 = byte-xor x y 24 in
    let e2 = byte-xor x y 16 in
    let e1 = byte-xor x y 8 in
    let e0 = xor_mod x y 8 in
    λ i. e3 i ∷ e2 i ∷ e1 i ∷ e0 i ∷ []

-- a sum of four, begun with the last
turned_sum : (a b c d : ℕ) → bit_xor (bit_xor (bit_xor d c) b) a ≡ bit_xor (bit_xor (bit_xor a b) c) d
turned_sum a b c d =
    xor_comm (bit_xor (bit_xor d c) b) a ∙ ap (bit_xor a) (xor_comm (bit_xor d c) b ∙ ap (bit_xor b) (xor_comm d c))
    ∙ sym (xor_assoc a b (bit_xor c d)) ∙ sym (xor_assoc (bit_xor a b) c d)

-- the bytes of a word that is a sum of four, begun with the last
pub bytes-four : (a b c d : ℕ) (xs ys zs ws : List ℕ) → to_be_bytes w32 a ≡ xs → to_be_bytes w32 b ≡ ys → to_be_bytes w32 c ≡ zs
    → to_be_bytes w32 d ≡ ws → to_be_bytes w32 (bit_xor (bit_xor (bit_xor d c) b) a) ≡ add (add (add xs ys) zs) ws
bytes-four a b c d xs ys zs ws ea eb ec ed =
    let e1 = bytes-xor (bit_xor (bit_xor a b) c) d in
    let e2 = bytes-xor (bit_xor a b) c in
    let e3 = bytes-xor a b in
    ap (to_be_bytes w32) (turned_sum a b c d)
    ∙ e1 ∙ ap (λ (t : List ℕ). add t (to_be_bytes w32 d)) (e2 ∙ ap (λ (t : List ℕ). add t (to_be_bytes w32 c)) e3)
    ∙ (λ i. add (add (add (ea i) (eb i)) (ec i)) (ed i))

-- four bytes, each in a place of its own
pub places_sum : (a b c d : ℕ) → add (add (add (a ∷ 0 ∷ 0 ∷ 0 ∷ []) (0 ∷ b ∷ 0 ∷ 0 ∷ [])) (0 ∷ 0 ∷ c ∷ 0 ∷ [])) (0 ∷ 0 ∷ 0 ∷ d ∷ []) ≡ a ∷ b ∷ c ∷ d ∷ []
unfolding add
places_sum a b c d =
    let ea : bit_xor (bit_xor (bit_xor a 0) 0) 0 ≡ a = xor_zero_r _ ∙ xor_zero_r _ ∙ xor_zero_r a in
    let eb : bit_xor (bit_xor (bit_xor 0 b) 0) 0 ≡ b = xor_zero_r _ ∙ xor_zero_r _ ∙ xor_comm 0 b ∙ xor_zero_r b in
    let ec : bit_xor (bit_xor 0 c) 0 ≡ c = xor_zero_r _ ∙ xor_comm 0 c ∙ xor_zero_r c in
    let ed : bit_xor 0 d ≡ d = xor_comm 0 d ∙ xor_zero_r d in
    λ i. ea i ∷ eb i ∷ ec i ∷ ed i ∷ []

pub four_fit : (x y z w : ℕ) → x < 256 → y < 256 → z < 256 → w < 256 → (i : ℕ) → get_or (x ∷ y ∷ z ∷ w ∷ []) i 0 < 256
four_fit x y z w hx hy hz hw zero = hx
four_fit x y z w hx hy hz hw (suc zero) = hy
four_fit x y z w hx hy hz hw (suc (suc zero)) = hz
four_fit x y z w hx hy hz hw (suc (suc (suc zero))) = hw
four_fit x y z w hx hy hz hw (suc (suc (suc (suc i)))) = omega arith

pub eight_fit : (x y z w a b c d : ℕ) → x < 256 → y < 256 → z < 256 → w < 256 → a < 256 → b < 256 → c < 256 → d < 256
    → (i : ℕ) → get_or (x ∷ y ∷ z ∷ w ∷ a ∷ b ∷ c ∷ d ∷ []) i 0 < 256
eight_fit x y z w a b c d hx hy hz hw ha hb hc hd zero = hx
eight_fit x y z w a b c d hx hy hz hw ha hb hc hd (suc zero) = hy
eight_fit x y z w a b c d hx hy hz hw ha hb hc hd (suc (suc zero)) = hz
eight_fit x y z w a b c d hx hy hz hw ha hb hc hd (suc (suc (suc zero))) = hw
eight_fit x y z w a b c d hx hy hz hw ha hb hc hd (suc (suc (suc (suc i)))) = four_fit a b c d ha hb hc hd i

-- the bytes of a word, the highest first, are those of the turned word, the lowest first
pub turned_4 : (n : ℕ) → to_le_bytes w32 (swap_bytes w32 n) ≡ to_be_bytes w32 n
turned_4 n = le_bytes_4 (to_be_bytes w32 n) (swap_bytes w32 n) refl (four_fit _ _ _ _ (omega arith) (omega arith) (omega arith) (omega arith)) (omega arith)

-- the same of eight bytes
pub turned_8 : (n : ℕ) → to_le_bytes w64 (swap_bytes w64 n) ≡ to_be_bytes w64 n
turned_8 n =
    le_bytes_8 (to_be_bytes w64 n) (swap_bytes w64 n) refl
    (eight_fit _ _ _ _ _ _ _ _ (omega arith) (omega arith) (omega arith) (omega arith) (omega arith) (omega arith) (omega arith) (omega arith)) (omega arith)

two_bytes : (v w : ℕ) → v < 2 ^ 32 → w < 2 ^ 32 → to_be_bytes w64 (v * 2 ^ 32 + w) ≡ to_be_bytes w32 v ++ to_be_bytes w32 w
two_bytes v w hv hw =
    let n : ℕ = v * 2 ^ 32 + w in
    let e7 : n / 2 ^ 56 % 2 ^ 8 ≡ v / 2 ^ 24 % 2 ^ 8 = omega arith in
    let e6 : n / 2 ^ 48 % 2 ^ 8 ≡ v / 2 ^ 16 % 2 ^ 8 = omega arith in
    let e5 : n / 2 ^ 40 % 2 ^ 8 ≡ v / 2 ^ 8 % 2 ^ 8 = omega arith in
    let e4 : n / 2 ^ 32 % 2 ^ 8 ≡ v % 2 ^ 8 = omega arith in
    let e3 : n / 2 ^ 24 % 2 ^ 8 ≡ w / 2 ^ 24 % 2 ^ 8 = omega arith in
    let e2 : n / 2 ^ 16 % 2 ^ 8 ≡ w / 2 ^ 16 % 2 ^ 8 = omega arith in
    let e1 : n / 2 ^ 8 % 2 ^ 8 ≡ w / 2 ^ 8 % 2 ^ 8 = omega arith in
    let e0 : n % 2 ^ 8 ≡ w % 2 ^ 8 = omega arith in
    λ i. e7 i ∷ e6 i ∷ e5 i ∷ e4 i ∷ e3 i ∷ e2 i ∷ e1 i ∷ e0 i ∷ []

-- the bytes of two words that stand in one number
pub two_turned : (v w : ℕ) → v < 2 ^ 32 → w < 2 ^ 32 → to_le_bytes w64 (swap_bytes w64 (v * 2 ^ 32 + w)) ≡ to_be_bytes w32 v ++ to_be_bytes w32 w
two_turned v w hv hw = turned_8 (v * 2 ^ 32 + w) ∙ two_bytes v w hv hw

-- sums of bytes, by the numbers that hold them, the lowest first
pub sum_4 : (a b c d e f g h : ℕ) → a < 256 → b < 256 → c < 256 → d < 256 → e < 256 → f < 256 → g < 256 → h < 256
    → to_le_bytes w32 (bit_xor (from_le_bytes w32 (a ∷ b ∷ c ∷ d ∷ [])) (from_le_bytes w32 (e ∷ f ∷ g ∷ h ∷ [])))
    ≡ bit_xor a e ∷ bit_xor b f ∷ bit_xor c g ∷ bit_xor d h ∷ []
sum_4 a b c d e f g h ha hb hc hd he hf hg hh =
    let x = from_le_bytes w32 (a ∷ b ∷ c ∷ d ∷ []) in
    let y = from_le_bytes w32 (e ∷ f ∷ g ∷ h ∷ []) in
    let ex = le_bytes_4 (a ∷ b ∷ c ∷ d ∷ []) x refl (four_fit a b c d ha hb hc hd) refl in
    let ey = le_bytes_4 (e ∷ f ∷ g ∷ h ∷ []) y refl (four_fit e f g h he hf hg hh) refl in
    let e0 = xor_mod x y 8 in
    let e1 = byte-xor x y 8 in
    let e2 = byte-xor x y 16 in
    let e3 = byte-xor x y 24 in
    (λ i. e0 i ∷ e1 i ∷ e2 i ∷ e3 i ∷ [])
    ∙ (λ i. bit_xor (get_or (ex i) 0 0) (get_or (ey i) 0 0) ∷ bit_xor (get_or (ex i) 1 0) (get_or (ey i) 1 0) ∷ bit_xor (get_or (ex i) 2 0) (get_or (ey i) 2 0) ∷ bit_xor (get_or (ex i) 3 0) (get_or (ey i) 3 0) ∷ [])

pub sum_8 : (a0 a1 a2 a3 a4 a5 a6 a7 b0 b1 b2 b3 b4 b5 b6 b7 : ℕ) → a0 < 256 → a1 < 256 → a2 < 256 → a3 < 256 → a4 < 256 → a5 < 256 → a6 < 256 → a7 < 256 → b0 < 256 → b1 < 256 → b2 < 256 → b3 < 256 → b4 < 256 → b5 < 256 → b6 < 256 → b7 < 256
    → to_le_bytes w64 (bit_xor (from_le_bytes w64 (a0 ∷ a1 ∷ a2 ∷ a3 ∷ a4 ∷ a5 ∷ a6 ∷ a7 ∷ [])) (from_le_bytes w64 (b0 ∷ b1 ∷ b2 ∷ b3 ∷ b4 ∷ b5 ∷ b6 ∷ b7 ∷ [])))
    ≡ bit_xor a0 b0 ∷ bit_xor a1 b1 ∷ bit_xor a2 b2 ∷ bit_xor a3 b3 ∷ bit_xor a4 b4 ∷ bit_xor a5 b5 ∷ bit_xor a6 b6 ∷ bit_xor a7 b7 ∷ []
sum_8 a0 a1 a2 a3 a4 a5 a6 a7 b0 b1 b2 b3 b4 b5 b6 b7 ha0 ha1 ha2 ha3 ha4 ha5 ha6 ha7 hb0 hb1 hb2 hb3 hb4 hb5 hb6 hb7 =
    let x = from_le_bytes w64 (a0 ∷ a1 ∷ a2 ∷ a3 ∷ a4 ∷ a5 ∷ a6 ∷ a7 ∷ []) in
    let y = from_le_bytes w64 (b0 ∷ b1 ∷ b2 ∷ b3 ∷ b4 ∷ b5 ∷ b6 ∷ b7 ∷ []) in
    let ex = le_bytes_8 (a0 ∷ a1 ∷ a2 ∷ a3 ∷ a4 ∷ a5 ∷ a6 ∷ a7 ∷ []) x refl (eight_fit a0 a1 a2 a3 a4 a5 a6 a7 ha0 ha1 ha2 ha3 ha4 ha5 ha6 ha7) refl in
    let ey = le_bytes_8 (b0 ∷ b1 ∷ b2 ∷ b3 ∷ b4 ∷ b5 ∷ b6 ∷ b7 ∷ []) y refl (eight_fit b0 b1 b2 b3 b4 b5 b6 b7 hb0 hb1 hb2 hb3 hb4 hb5 hb6 hb7) refl in
    let e0 = xor_mod x y 8 in
    let e1 = byte-xor x y 8 in
    let e2 = byte-xor x y 16 in
    let e3 = byte-xor x y 24 in
    let e4 = byte-xor x y 32 in
    let e5 = byte-xor x y 40 in
    let e6 = byte-xor x y 48 in
    let e7 = byte-xor x y 56 in
    (λ i. e0 i ∷ e1 i ∷ e2 i ∷ e3 i ∷ e4 i ∷ e5 i ∷ e6 i ∷ e7 i ∷ [])
    ∙ (λ i. bit_xor (get_or (ex i) 0 0) (get_or (ey i) 0 0) ∷ bit_xor (get_or (ex i) 1 0) (get_or (ey i) 1 0) ∷ bit_xor (get_or (ex i) 2 0) (get_or (ey i) 2 0) ∷ bit_xor (get_or (ex i) 3 0) (get_or (ey i) 3 0) ∷ bit_xor (get_or (ex i) 4 0) (get_or (ey i) 4 0) ∷ bit_xor (get_or (ex i) 5 0) (get_or (ey i) 5 0) ∷ bit_xor (get_or (ex i) 6 0) (get_or (ey i) 6 0) ∷ bit_xor (get_or (ex i) 7 0) (get_or (ey i) 7 0) ∷ [])
