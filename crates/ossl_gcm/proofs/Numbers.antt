-- Blocks as numbers.
use Rattle.std.proofs.Common.{◌≡◌, ℕ, ◌+◌, ◌*◌, ◌/◌, ◌%◌, ◌^◌, ◌<◌, List, [], ◌∷◌, ◌++◌, length, slice_index, get_or, nat_eq, refl, sym, ap, ◌∙◌, arith}
use Rattle.std.specs.Int.{w32, w64, w128, from_be_bytes, to_be_bytes}
use Rattle.std.specs.Str.{bytes_eq}
use Rattle.std.proofs.lemmas.Bool.Decides.{Decides-eqb, Decides-like, same_from_decides}
use Rattle.std.proofs.lemmas.Nat.{be_bytes_8, from_be_bytes-to_be_bytes_8}
use Rattle.std.proofs.lemmas.Slice.Eq.{bytes_eq-Decides}
use Rattle.ossl_aes.proofs.Lists.{rest_of}
use Rattle.ossl_aes.proofs.Words.{eight_fit}
use Rattle.ossl_gcm.specs.Gcm.{next_counter}

-- a number of 16 bytes, by its halves
halves : (a b c d e f g h s t u v w x y z : ℕ)
    → from_be_bytes w128 (a ∷ b ∷ c ∷ d ∷ e ∷ f ∷ g ∷ h ∷ s ∷ t ∷ u ∷ v ∷ w ∷ x ∷ y ∷ z ∷ [])
    ≡ from_be_bytes w64 (a ∷ b ∷ c ∷ d ∷ e ∷ f ∷ g ∷ h ∷ []) * 2 ^ 64 + from_be_bytes w64 (s ∷ t ∷ u ∷ v ∷ w ∷ x ∷ y ∷ z ∷ [])
halves a b c d e f g h s t u v w x y z = omega arith

-- the number of two numbers' bytes
pub pair_number : (h l : ℕ) → h < 2 ^ 64 → l < 2 ^ 64 → from_be_bytes w128 (to_be_bytes w64 h ++ to_be_bytes w64 l) ≡ h * 2 ^ 64 + l
pair_number h l fh fl =
    let eh = from_be_bytes-to_be_bytes_8 h fh in
    let el = from_be_bytes-to_be_bytes_8 l fl in
    halves (h / 2 ^ 56 % 2 ^ 8) (h / 2 ^ 48 % 2 ^ 8) (h / 2 ^ 40 % 2 ^ 8) (h / 2 ^ 32 % 2 ^ 8) (h / 2 ^ 24 % 2 ^ 8) (h / 2 ^ 16 % 2 ^ 8) (h / 2 ^ 8 % 2 ^ 8) (h % 2 ^ 8)
    (l / 2 ^ 56 % 2 ^ 8) (l / 2 ^ 48 % 2 ^ 8) (l / 2 ^ 40 % 2 ^ 8) (l / 2 ^ 32 % 2 ^ 8) (l / 2 ^ 24 % 2 ^ 8) (l / 2 ^ 16 % 2 ^ 8) (l / 2 ^ 8 % 2 ^ 8) (l % 2 ^ 8)
    ∙ (λ i. eh i * 2 ^ 64 + el i)

-- the bytes of a number of two halves
pair_bytes : (h l : ℕ) → l < 2 ^ 64 → to_be_bytes w128 (h * 2 ^ 64 + l) ≡ to_be_bytes w64 h ++ to_be_bytes w64 l
pair_bytes h l fl =
    let n : ℕ = h * 2 ^ 64 + l in
    let high : n / 2 ^ 64 ≡ h = omega arith in
    let low : n % 2 ^ 64 ≡ l = omega arith in
    let f7 : n / 2 ^ 120 % 2 ^ 8 ≡ n / 2 ^ 64 / 2 ^ 56 % 2 ^ 8 = omega arith in
    let f6 : n / 2 ^ 112 % 2 ^ 8 ≡ n / 2 ^ 64 / 2 ^ 48 % 2 ^ 8 = omega arith in
    let f5 : n / 2 ^ 104 % 2 ^ 8 ≡ n / 2 ^ 64 / 2 ^ 40 % 2 ^ 8 = omega arith in
    let f4 : n / 2 ^ 96 % 2 ^ 8 ≡ n / 2 ^ 64 / 2 ^ 32 % 2 ^ 8 = omega arith in
    let f3 : n / 2 ^ 88 % 2 ^ 8 ≡ n / 2 ^ 64 / 2 ^ 24 % 2 ^ 8 = omega arith in
    let f2 : n / 2 ^ 80 % 2 ^ 8 ≡ n / 2 ^ 64 / 2 ^ 16 % 2 ^ 8 = omega arith in
    let f1 : n / 2 ^ 72 % 2 ^ 8 ≡ n / 2 ^ 64 / 2 ^ 8 % 2 ^ 8 = omega arith in
    let e7 : n / 2 ^ 56 % 2 ^ 8 ≡ n % 2 ^ 64 / 2 ^ 56 % 2 ^ 8 = omega arith in
    let e6 : n / 2 ^ 48 % 2 ^ 8 ≡ n % 2 ^ 64 / 2 ^ 48 % 2 ^ 8 = omega arith in
    let e5 : n / 2 ^ 40 % 2 ^ 8 ≡ n % 2 ^ 64 / 2 ^ 40 % 2 ^ 8 = omega arith in
    let e4 : n / 2 ^ 32 % 2 ^ 8 ≡ n % 2 ^ 64 / 2 ^ 32 % 2 ^ 8 = omega arith in
    let e3 : n / 2 ^ 24 % 2 ^ 8 ≡ n % 2 ^ 64 / 2 ^ 24 % 2 ^ 8 = omega arith in
    let e2 : n / 2 ^ 16 % 2 ^ 8 ≡ n % 2 ^ 64 / 2 ^ 16 % 2 ^ 8 = omega arith in
    let e1 : n / 2 ^ 8 % 2 ^ 8 ≡ n % 2 ^ 64 / 2 ^ 8 % 2 ^ 8 = omega arith in
    let e0 : n % 2 ^ 8 ≡ n % 2 ^ 64 % 2 ^ 8 = omega arith in
    (λ i. f7 i ∷ f6 i ∷ f5 i ∷ f4 i ∷ f3 i ∷ f2 i ∷ f1 i ∷ n / 2 ^ 64 % 2 ^ 8 ∷ e7 i ∷ e6 i ∷ e5 i ∷ e4 i ∷ e3 i ∷ e2 i ∷ e1 i ∷ e0 i ∷ [])
    ∙ (λ i. to_be_bytes w64 (high i) ++ to_be_bytes w64 (low i))

eight_below : (a b c d e f g h : ℕ) → a < 256 → b < 256 → c < 256 → d < 256 → e < 256 → f < 256 → g < 256 → h < 256
    → from_be_bytes w64 (a ∷ b ∷ c ∷ d ∷ e ∷ f ∷ g ∷ h ∷ []) < 2 ^ 64
eight_below a b c d e f g h ha hb hc hd he hf hg hh = omega arith

-- a block is the bytes of its number
pub block_of_number : (v : List ℕ) → length v ≡ 16 → ((i : ℕ) → get_or v i 0 < 256) → to_be_bytes w128 (from_be_bytes w128 v) ≡ v
block_of_number v len fits =
    let at : ℕ → ℕ = slice_index v in
    let high : List ℕ = at 0 ∷ at 1 ∷ at 2 ∷ at 3 ∷ at 4 ∷ at 5 ∷ at 6 ∷ at 7 ∷ [] in
    let low : List ℕ = at 8 ∷ at 9 ∷ at 10 ∷ at 11 ∷ at 12 ∷ at 13 ∷ at 14 ∷ at 15 ∷ [] in
    let all : v ≡ high ++ low = rest_of v 16 0 (sym len) in
    let number : from_be_bytes w128 v ≡ from_be_bytes w64 high * 2 ^ 64 + from_be_bytes w64 low =
    halves (at 0) (at 1) (at 2) (at 3) (at 4) (at 5) (at 6) (at 7) (at 8) (at 9) (at 10) (at 11) (at 12) (at 13) (at 14) (at 15) in
    let below = eight_below (at 8) (at 9) (at 10) (at 11) (at 12) (at 13) (at 14) (at 15) (fits 8) (fits 9) (fits 10) (fits 11) (fits 12) (fits 13) (fits 14) (fits 15) in
    let eh = be_bytes_8 high (from_be_bytes w64 high) refl (eight_fit (at 0) (at 1) (at 2) (at 3) (at 4) (at 5) (at 6) (at 7) (fits 0) (fits 1) (fits 2) (fits 3) (fits 4) (fits 5) (fits 6) (fits 7)) refl in
    let el = be_bytes_8 low (from_be_bytes w64 low) refl (eight_fit (at 8) (at 9) (at 10) (at 11) (at 12) (at 13) (at 14) (at 15) (fits 8) (fits 9) (fits 10) (fits 11) (fits 12) (fits 13) (fits 14) (fits 15)) refl in
    ap (to_be_bytes w128) number ∙ pair_bytes (from_be_bytes w64 high) (from_be_bytes w64 low) below ∙ (λ i. eh i ++ el i) ∙ sym all

-- the next counter block, by the bytes of a counter block and those of its last word
pub next_by_bytes : (v d : List ℕ) → length v ≡ 16
    → d ≡ to_be_bytes w32 ((from_be_bytes w32 (slice_index v 12 ∷ slice_index v 13 ∷ slice_index v 14 ∷ slice_index v 15 ∷ []) + 1) % 2 ^ 32)
    → slice_index v 0 ∷ slice_index v 1 ∷ slice_index v 2 ∷ slice_index v 3 ∷ slice_index v 4 ∷ slice_index v 5 ∷ slice_index v 6 ∷ slice_index v 7
    ∷ slice_index v 8 ∷ slice_index v 9 ∷ slice_index v 10 ∷ slice_index v 11 ∷ slice_index d 0 ∷ slice_index d 1 ∷ slice_index d 2 ∷ slice_index d 3 ∷ []
    ≡ next_counter v
next_by_bytes v d len ed =
    let all = rest_of v 16 0 (sym len) in
    (λ i. slice_index v 0 ∷ slice_index v 1 ∷ slice_index v 2 ∷ slice_index v 3 ∷ slice_index v 4 ∷ slice_index v 5 ∷ slice_index v 6 ∷ slice_index v 7
    ∷ slice_index v 8 ∷ slice_index v 9 ∷ slice_index v 10 ∷ slice_index v 11 ∷ slice_index (ed i) 0 ∷ slice_index (ed i) 1 ∷ slice_index (ed i) 2 ∷ slice_index (ed i) 3 ∷ [])
    ∙ sym (ap next_counter all)

-- two blocks are the same where their numbers are
pub same_by_number : (a b : List ℕ) (m n : ℕ) → length a ≡ 16 → length b ≡ 16 → ((i : ℕ) → get_or a i 0 < 256) → ((i : ℕ) → get_or b i 0 < 256)
    → m ≡ from_be_bytes w128 a → n ≡ from_be_bytes w128 b → nat_eq m n ≡ bytes_eq a b
same_by_number a b m n la lb fa fb em en =
    let to : m ≡ n → a ≡ b = λ e. sym (block_of_number a la fa) ∙ ap (to_be_bytes w128) (sym em ∙ e ∙ en) ∙ block_of_number b lb fb in
    let fro : a ≡ b → m ≡ n = λ e. em ∙ ap (from_be_bytes w128) e ∙ sym en in
    same_from_decides (nat_eq m n) (bytes_eq a b) (Decides-like (nat_eq m n) to fro (Decides-eqb m n)) (bytes_eq-Decides a b)
