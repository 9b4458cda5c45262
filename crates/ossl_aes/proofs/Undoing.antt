-- Decryption undoes encryption (FIPS 197, 5.3), step by step.
use Rattle.std.proofs.Common.{◌≡◌, ℕ, zero, suc, ◌+◌, ◌-◌, ◌*◌, ◌/◌, ◌%◌, ◌<◌, ◌≤◌, List, [], ◌∷◌, ◌++◌, length, slice_index, get_or, map, bit_xor, nat_lt, nat_eq, if◌then◌else◌, true, false, refl, sym, ap, ◌∙◌, arith, lit<, inl, inr}
use Rattle.std.specs.List.{All, AllByRecursion, range_with_len}
use Rattle.std.specs.Int.{w32, to_be_bytes}
use Rattle.std.specs.Int.Bits.{xor_self, xor_zero_r}
use Rattle.std.proofs.lemmas.Bool.{cases_lt}
use Rattle.std.proofs.lemmas.Bool.Decides.{nat_tests}
use Rattle.std.proofs.lemmas.Nat.{xor_lt, xor_comm}
use Rattle.std.proofs.lemmas.List.{get_or-map}
use Rattle.std.proofs.lemmas.List.FromFn.{get_or-map-range_with_len}
use lib.Bits.{xor_assoc}
use Rattle.ossl_aes.specs.declared.tables.TheConstants.{SUB}
use Rattle.ossl_aes.specs.Field.{double, times, mul, sub, unsub}
use Rattle.ossl_aes.specs.Cipher.{add, row, column, mix_columns, inv_mix_columns, shift_rows, inv_shift_rows, round_key, rounds, inv_rounds, cipher, inv_cipher}
use Rattle.ossl_aes.specs.Inverse.{IsBlock, IsUndoneBy}
use Rattle.ossl_aes.proofs.FieldFacts.{row-add}
use Rattle.ossl_aes.proofs.Lists.{rest_of}
use Rattle.ossl_aes.proofs.TableFacts.{sub_at, undone}
use Rattle.ossl_aes.proofs.Words.{places_sum}

abbrev pub IsByte : ℕ → Type 0
IsByte x = x < 256

abbrev pub AreBytes : List ℕ → Type 0
AreBytes xs = AllByRecursion IsByte xs

-- bytes by their places, and one after another
pub bytes_by_place : (xs : List ℕ) → All IsByte xs → AreBytes xs
bytes_by_place [] h = tt
bytes_by_place (x ∷ xs) h = (h 0 x (omega arith), bytes_by_place xs (λ k d lt. h (suc k) d (omega (arith, lt))))

pub places_of_bytes : (xs : List ℕ) → AreBytes xs → All IsByte xs
places_of_bytes [] h k d lt = absurd (omega (arith, lt))
places_of_bytes (x ∷ xs) h zero d lt = h.0
places_of_bytes (x ∷ xs) h (suc k) d lt = places_of_bytes xs h.1 k d (omega (arith, lt))

bytes_from_reads : (xs : List ℕ) → ((i : ℕ) → get_or xs i 0 < 256) → AreBytes xs
bytes_from_reads [] h = tt
bytes_from_reads (x ∷ xs) h = (h 0, bytes_from_reads xs (λ i. h (suc i)))

-- a text of 16 bytes is a block
pub block_from_reads : (xs : List ℕ) → length xs ≡ 16 → ((i : ℕ) → get_or xs i 0 < 256) → IsBlock xs
block_from_reads xs len h = (len, places_of_bytes xs (bytes_from_reads xs h))

byte_at : (xs : List ℕ) → AreBytes xs → (k : ℕ) → slice_index xs k < 256
byte_at [] h k = lit< tt
byte_at (x ∷ xs) h zero = h.0
byte_at (x ∷ xs) h (suc k) = byte_at xs h.1 k

pub bytes-append : (xs ys : List ℕ) → AreBytes xs → AreBytes ys → AreBytes (xs ++ ys)
bytes-append [] ys h k = k
bytes-append (x ∷ xs) ys h k = (h.0, bytes-append xs ys h.1 k)

bytes-four : (a b c d : List ℕ) → AreBytes a → AreBytes b → AreBytes c → AreBytes d → AreBytes (a ++ b ++ c ++ d)
bytes-four a b c d ha hb hc hd = bytes-append (a ++ b ++ c) d (bytes-append (a ++ b) c (bytes-append a b ha hb) hc) hd

bytes-add : (xs ys : List ℕ) → AreBytes xs → AreBytes ys → AreBytes (add xs ys)
unfolding add
bytes-add [] ys h k = tt
bytes-add (x ∷ xs) [] h k = tt
bytes-add (x ∷ xs) (y ∷ ys) h k = (xor_lt 8 x y h.0 k.0, bytes-add xs ys h.1 k.1)

pub length-add : (xs ys : List ℕ) → length xs ≡ length ys → length (add xs ys) ≡ length xs
unfolding add
length-add [] ys h = refl
length-add (x ∷ xs) [] h = absurd (omega (arith, h))
length-add (x ∷ xs) (y ∷ ys) h = ap suc (length-add xs ys (omega (arith, h)))

xor_twice : (x y : ℕ) → bit_xor (bit_xor x y) y ≡ x
xor_twice x y = xor_assoc x y y ∙ ap (bit_xor x) (xor_self y) ∙ xor_zero_r x

-- a text that is added twice leaves what was there
pub add_twice : (xs ys : List ℕ) → length xs ≡ length ys → add (add xs ys) ys ≡ xs
unfolding add
add_twice [] ys h = refl
add_twice (x ∷ xs) [] h = absurd (omega (arith, h))
add_twice (x ∷ xs) (y ∷ ys) h = λ i. xor_twice x y i ∷ add_twice xs ys (omega (arith, h)) i

-- ---- bytes

double_fits : (m : ℕ) → m < 256 → double m < 256
double_fits m h =
    elim (cases_lt m 128) [
      | inl low ↦ let t : nat_lt m 128 ≡ true = grind (arith, nat_tests) in rw t (omega arith)
      | inr high ↦ let t : nat_lt m 128 ≡ false = grind (arith, nat_tests) in rw t (xor_lt 8 (2 * m % 256) 0x1b (omega arith) (lit< tt))
    ]

times_fits : (n m b : ℕ) → m < 256 → times n m b < 256
unfolding times
times_fits zero m b h = lit< tt
times_fits (suc n) m b h =
    elim (nat_eq (b % 2) 0) as (λ t. bit_xor (if t then 0 else m) (times n (double m) (b / 2)) < 256) [
      | true ↦ xor_lt 8 0 (times n (double m) (b / 2)) (lit< tt) (times_fits n (double m) (b / 2) (double_fits m h))
      | false ↦ xor_lt 8 m (times n (double m) (b / 2)) h (times_fits n (double m) (b / 2) (double_fits m h))
    ]

row_fits : (m n p q a b c d : ℕ) → m < 256 → n < 256 → p < 256 → q < 256 → row m n p q a b c d < 256
row_fits m n p q a b c d hm hn hp hq =
    xor_lt 8 _ (mul q d) (xor_lt 8 _ (mul p c) (xor_lt 8 (mul m a) (mul n b) (times_fits 8 m a hm) (times_fits 8 n b hn)) (times_fits 8 p c hp)) (times_fits 8 q d hq)

column_fits : (a b c d : ℕ) → AreBytes (column 2 3 1 1 a b c d)
column_fits a b c d = (
  row_fits 2 3 1 1 a b c d (lit< tt) (lit< tt) (lit< tt) (lit< tt),
  (
    row_fits 1 2 3 1 a b c d (lit< tt) (lit< tt) (lit< tt) (lit< tt),
    (
      row_fits 1 1 2 3 a b c d (lit< tt) (lit< tt) (lit< tt) (lit< tt),
      (row_fits 3 1 1 2 a b c d (lit< tt) (lit< tt) (lit< tt) (lit< tt), tt),
    ),
  ),
)

-- ---- the S-box

high_table : map (λ x. x / 256) SUB ≡ map (λ b. 0) (range_with_len 0 256)
high_table = refl

sub_fits : (b : ℕ) → b < 256 → sub b < 256
sub_fits b h =
    let none : slice_index SUB b / 256 ≡ 0 =
    sym (get_or-map (λ x. x / 256) SUB b 0 0 h) ∙ ap (λ (xs : List ℕ). get_or xs b 0) high_table ∙ get_or-map-range_with_len (λ b. 0) 0 256 b b 0 h (omega arith) in
    omega (arith, none, sub_at b h)

bytes-sub : (s : List ℕ) → AreBytes s → AreBytes (map sub s)
bytes-sub [] h = tt
bytes-sub (x ∷ s) h = (sub_fits x h.0, bytes-sub s h.1)

unsub-sub : (s : List ℕ) → AreBytes s → map unsub (map sub s) ≡ s
unsub-sub [] h = refl
unsub-sub (x ∷ s) h = λ i. undone x (sub x) h.0 (sub_fits x h.0) refl i ∷ unsub-sub s h.1 i

-- ---- the matrices

undone_column : List ℕ → List ℕ
undone_column t = column 14 11 13 9 (slice_index t 0) (slice_index t 1) (slice_index t 2) (slice_index t 3)

column-add : (m n p q a b c d e f g h : ℕ)
    → column m n p q (bit_xor a e) (bit_xor b f) (bit_xor c g) (bit_xor d h) ≡ add (column m n p q a b c d) (column m n p q e f g h)
unfolding add
column-add m n p q a b c d e f g h =
    let e0 = row-add m n p q a b c d e f g h in
    let e1 = row-add q m n p a b c d e f g h in
    let e2 = row-add p q m n a b c d e f g h in
    let e3 = row-add n p q m a b c d e f g h in
    λ i. e0 i ∷ e1 i ∷ e2 i ∷ e3 i ∷ []

-- a column is the sum of its four bytes' columns
column_of_parts : (m n p q a b c d : ℕ) → column m n p q a b c d
    ≡ add (add (add (column m n p q a 0 0 0) (column m n p q 0 b 0 0)) (column m n p q 0 0 c 0)) (column m n p q 0 0 0 d)
unfolding add
column_of_parts m n p q a b c d =
    let l : (x : ℕ) → x ≡ bit_xor x 0 = λ x. sym (xor_zero_r x) in
    let r : (x : ℕ) → x ≡ bit_xor 0 x = λ x. sym (xor_comm 0 x ∙ xor_zero_r x) in
    (λ i. column m n p q (l a i) (l b i) (l c i) (r d i)) ∙ column-add m n p q a b c 0 0 0 0 d
    ∙ ap (λ (t : List ℕ). add t (column m n p q 0 0 0 d)) (
    (λ i. column m n p q (l a i) (l b i) (r c i) 0) ∙ column-add m n p q a b 0 0 0 0 c 0
    ∙ ap (λ (t : List ℕ). add t (column m n p q 0 0 c 0)) ((λ i. column m n p q (l a i) (r b i) 0 0) ∙ column-add m n p q a 0 0 0 0 b 0 0))

-- each byte's column of 2 3 1 1, times the inverse matrix, is the byte in its place: at all 256 bytes
first_table : map (λ x. undone_column (column 2 3 1 1 x 0 0 0)) (range_with_len 0 256) ≡ map (λ x. x ∷ 0 ∷ 0 ∷ 0 ∷ []) (range_with_len 0 256)
unfolding undone_column times
first_table = refl

second_table : map (λ x. undone_column (column 2 3 1 1 0 x 0 0)) (range_with_len 0 256) ≡ map (λ x. 0 ∷ x ∷ 0 ∷ 0 ∷ []) (range_with_len 0 256)
unfolding undone_column times
second_table = refl

third_table : map (λ x. undone_column (column 2 3 1 1 0 0 x 0)) (range_with_len 0 256) ≡ map (λ x. 0 ∷ 0 ∷ x ∷ 0 ∷ []) (range_with_len 0 256)
unfolding undone_column times
third_table = refl

fourth_table : map (λ x. undone_column (column 2 3 1 1 0 0 0 x)) (range_with_len 0 256) ≡ map (λ x. 0 ∷ 0 ∷ 0 ∷ x ∷ []) (range_with_len 0 256)
unfolding undone_column times
fourth_table = refl

of_table : (f g : ℕ → List ℕ) → map f (range_with_len 0 256) ≡ map g (range_with_len 0 256) → (b : ℕ) → b < 256 → f b ≡ g b
of_table f g e b h =
    sym (get_or-map-range_with_len f 0 256 b b [] h (omega arith)) ∙ ap (λ (xs : List (List ℕ)). get_or xs b []) e
    ∙ get_or-map-range_with_len g 0 256 b b [] h (omega arith)

undone_column-add : (a b c d e f g h : ℕ) → undone_column (add (a ∷ b ∷ c ∷ d ∷ []) (e ∷ f ∷ g ∷ h ∷ []))
    ≡ add (undone_column (a ∷ b ∷ c ∷ d ∷ [])) (undone_column (e ∷ f ∷ g ∷ h ∷ []))
unfolding undone_column add
undone_column-add a b c d e f g h = column-add 14 11 13 9 a b c d e f g h

undone_column-sum : (x y : List ℕ) → length x ≡ 4 → length y ≡ 4 → undone_column (add x y) ≡ add (undone_column x) (undone_column y)
undone_column-sum x y lx ly =
    let ex = rest_of x 4 0 (sym lx) in
    let ey = rest_of y 4 0 (sym ly) in
    (λ i. undone_column (add (ex i) (ey i)))
    ∙ undone_column-add (slice_index x 0) (slice_index x 1) (slice_index x 2) (slice_index x 3) (slice_index y 0) (slice_index y 1) (slice_index y 2) (slice_index y 3)
    ∙ sym (λ i. add (undone_column (ex i)) (undone_column (ey i)))

undone_column-four : (x y z w : List ℕ) → length x ≡ 4 → length y ≡ 4 → length z ≡ 4 → length w ≡ 4
    → undone_column (add (add (add x y) z) w) ≡ add (add (add (undone_column x) (undone_column y)) (undone_column z)) (undone_column w)
undone_column-four x y z w lx ly lz lw =
    let lxy : length (add x y) ≡ 4 = length-add x y (lx ∙ sym ly) ∙ lx in
    let lxyz : length (add (add x y) z) ≡ 4 = length-add (add x y) z (lxy ∙ sym lz) ∙ lxy in
    undone_column-sum (add (add x y) z) w lxyz lw
    ∙ ap (λ (t : List ℕ). add t (undone_column w)) (undone_column-sum (add x y) z lxy lz
    ∙ ap (λ (t : List ℕ). add t (undone_column z)) (undone_column-sum x y lx ly))

-- the product of the two matrices is the identity (FIPS 197, 5.3.3)
undone_column-column : (a b c d : ℕ) → a < 256 → b < 256 → c < 256 → d < 256 → undone_column (column 2 3 1 1 a b c d) ≡ a ∷ b ∷ c ∷ d ∷ []
undone_column-column a b c d ha hb hc hd =
    let e0 = of_table (λ x. undone_column (column 2 3 1 1 x 0 0 0)) (λ x. x ∷ 0 ∷ 0 ∷ 0 ∷ []) first_table a ha in
    let e1 = of_table (λ x. undone_column (column 2 3 1 1 0 x 0 0)) (λ x. 0 ∷ x ∷ 0 ∷ 0 ∷ []) second_table b hb in
    let e2 = of_table (λ x. undone_column (column 2 3 1 1 0 0 x 0)) (λ x. 0 ∷ 0 ∷ x ∷ 0 ∷ []) third_table c hc in
    let e3 = of_table (λ x. undone_column (column 2 3 1 1 0 0 0 x)) (λ x. 0 ∷ 0 ∷ 0 ∷ x ∷ []) fourth_table d hd in
    ap undone_column (column_of_parts 2 3 1 1 a b c d)
    ∙ undone_column-four (column 2 3 1 1 a 0 0 0) (column 2 3 1 1 0 b 0 0) (column 2 3 1 1 0 0 c 0) (column 2 3 1 1 0 0 0 d) refl refl refl refl
    ∙ (λ i. add (add (add (e0 i) (e1 i)) (e2 i)) (e3 i))
    ∙ places_sum a b c d

-- ---- blocks

abbrev pub Block : List ℕ → Type 0
Block s = (length s ≡ 16) × AreBytes s

undone_columns : (t : List ℕ) → Block t → inv_mix_columns (mix_columns t) ≡ t
unfolding undone_column
undone_columns t h =
    let byte : (k : ℕ) → slice_index t k < 256 = byte_at t h.1 in
    let e0 = undone_column-column (slice_index t 0) (slice_index t 1) (slice_index t 2) (slice_index t 3) (byte 0) (byte 1) (byte 2) (byte 3) in
    let e1 = undone_column-column (slice_index t 4) (slice_index t 5) (slice_index t 6) (slice_index t 7) (byte 4) (byte 5) (byte 6) (byte 7) in
    let e2 = undone_column-column (slice_index t 8) (slice_index t 9) (slice_index t 10) (slice_index t 11) (byte 8) (byte 9) (byte 10) (byte 11) in
    let e3 = undone_column-column (slice_index t 12) (slice_index t 13) (slice_index t 14) (slice_index t 15) (byte 12) (byte 13) (byte 14) (byte 15) in
    (λ i. e0 i ++ e1 i ++ e2 i ++ e3 i) ∙ sym (rest_of t 16 0 (sym h.0))

undone_rows : (t : List ℕ) → length t ≡ 16 → inv_shift_rows (shift_rows t) ≡ t
undone_rows t h = sym (rest_of t 16 0 (sym h))

length-map-sub : (s : List ℕ) → length (map sub s) ≡ length s
length-map-sub [] = refl
length-map-sub (x ∷ s) = ap suc (length-map-sub s)

subbed_block : (s : List ℕ) → Block s → Block (map sub s)
subbed_block s h = (length-map-sub s ∙ h.0, bytes-sub s h.1)

shifted_block : (t : List ℕ) → Block t → Block (shift_rows t)
shifted_block t h =
    let byte : (k : ℕ) → slice_index t k < 256 = byte_at t h.1 in
    (refl, (byte 0, (byte 5, (byte 10, (byte 15, (byte 4, (byte 9, (byte 14, (byte 3, (byte 8, (byte 13, (byte 2, (byte 7, (byte 12, (byte 1, (byte 6, (byte 11, tt)))))))))))))))))

mixed_block : (t : List ℕ) → Block (mix_columns t)
mixed_block t =
    let col : (a b c d : ℕ) → AreBytes (column 2 3 1 1 a b c d) = column_fits in
    let c0 = col (slice_index t 0) (slice_index t 1) (slice_index t 2) (slice_index t 3) in
    let c1 = col (slice_index t 4) (slice_index t 5) (slice_index t 6) (slice_index t 7) in
    let c2 = col (slice_index t 8) (slice_index t 9) (slice_index t 10) (slice_index t 11) in
    let c3 = col (slice_index t 12) (slice_index t 13) (slice_index t 14) (slice_index t 15) in (
      refl,
      bytes-four (column 2 3 1 1 (slice_index t 0) (slice_index t 1) (slice_index t 2) (slice_index t 3))
          (column 2 3 1 1 (slice_index t 4) (slice_index t 5) (slice_index t 6) (slice_index t 7))
          (column 2 3 1 1 (slice_index t 8) (slice_index t 9) (slice_index t 10) (slice_index t 11))
          (column 2 3 1 1 (slice_index t 12) (slice_index t 13) (slice_index t 14) (slice_index t 15)) c0 c1 c2 c3,
    )

word_bytes : (w : ℕ) → AreBytes (to_be_bytes w32 w)
word_bytes w = (omega arith, (omega arith, (omega arith, (omega arith, tt))))

key_block : (ws : List ℕ) (n : ℕ) → Block (round_key ws n)
key_block ws n =
    let word : ℕ → List ℕ = λ k. to_be_bytes w32 (slice_index ws (4 * n + k)) in (
      refl,
      bytes-four (to_be_bytes w32 (slice_index ws (4 * n))) (word 1) (word 2) (word 3) (word_bytes (slice_index ws (4 * n)))
          (word_bytes (slice_index ws (4 * n + 1))) (word_bytes (slice_index ws (4 * n + 2))) (word_bytes (slice_index ws (4 * n + 3))),
    )

pub added_block : (s k : List ℕ) → Block s → Block k → Block (add s k)
added_block s k hs hk = (length-add s k (hs.0 ∙ sym hk.0) ∙ hs.0, bytes-add s k hs.1 hk.1)

state_block : (ws s : List ℕ) (n : ℕ) → Block s → Block (rounds ws s n)
unfolding rounds
state_block ws s zero h = added_block s (round_key ws 0) h (key_block ws 0)
state_block ws s (suc n) h =
    added_block (mix_columns (shift_rows (map sub (rounds ws s n)))) (round_key ws (n + 1)) (mixed_block (shift_rows (map sub (rounds ws s n)))) (key_block ws (n + 1))

-- a round's bytes and rows undone
undone_state : (s : List ℕ) → Block s → map unsub (inv_shift_rows (shift_rows (map sub s))) ≡ s
undone_state s h = ap (map unsub) (undone_rows (map sub s) (length-map-sub s ∙ h.0)) ∙ unsub-sub s h.1

-- after n rounds of the inverse cipher stands what stood n rounds before the end
undone_rounds : (ws s : List ℕ) (nr m n : ℕ) → Block s → m + n + 1 ≡ nr → inv_rounds ws nr (cipher ws nr s) n ≡ shift_rows (map sub (rounds ws s m))
unfolding rounds inv_rounds cipher
undone_rounds ws s nr m zero h e =
    let last : nr - 1 ≡ m = omega arith in
    add_twice (shift_rows (map sub (rounds ws s (nr - 1)))) (round_key ws nr) refl
    ∙ ap (λ (j : ℕ). shift_rows (map sub (rounds ws s j))) last
undone_rounds ws s nr m (suc n) h e =
    let key : nr - (n + 1) ≡ m + 1 = omega arith in
    let state = shift_rows (map sub (rounds ws s m)) in
    ap (λ (t : List ℕ). inv_mix_columns (add (map unsub (inv_shift_rows t)) (round_key ws (nr - (n + 1))))) (undone_rounds ws s nr (suc m) n h (omega arith))
    ∙ ap (λ (t : List ℕ). inv_mix_columns (add t (round_key ws (nr - (n + 1))))) (undone_state (rounds ws s (suc m)) (state_block ws s (suc m) h))
    ∙ ap (λ (j : ℕ). inv_mix_columns (add (rounds ws s (suc m)) (round_key ws j))) key
    ∙ ap inv_mix_columns (add_twice (mix_columns state) (round_key ws (m + 1)) refl)
    ∙ undone_columns state (shifted_block (map sub (rounds ws s m)) (subbed_block (rounds ws s m) (state_block ws s m h)))

undone_cipher : (ws s : List ℕ) (nr : ℕ) → 1 ≤ nr → Block s → inv_cipher ws nr (cipher ws nr s) ≡ s
unfolding rounds inv_cipher
undone_cipher ws s nr some h =
    ap (λ (t : List ℕ). add (map unsub (inv_shift_rows t)) (round_key ws 0)) (undone_rounds ws s nr 0 (nr - 1) h (omega arith))
    ∙ ap (λ (t : List ℕ). add t (round_key ws 0)) (undone_state (rounds ws s 0) (state_block ws s 0 h))
    ∙ add_twice s (round_key ws 0) h.0

cipher_block : (ws s : List ℕ) (nr : ℕ) → Block s → Block (cipher ws nr s)
unfolding cipher
cipher_block ws s nr h =
    added_block (shift_rows (map sub (rounds ws s (nr - 1)))) (round_key ws nr)
    (shifted_block (map sub (rounds ws s (nr - 1))) (subbed_block (rounds ws s (nr - 1)) (state_block ws s (nr - 1) h))) (key_block ws nr)

-- decryption undoes encryption, whatever the words of the schedule
pub cipher_is_undone : (ws : List ℕ) (nr : ℕ) → 1 ≤ nr → IsUndoneBy (cipher ws nr) (inv_cipher ws nr)
cipher_is_undone ws nr some block h =
    let bytes = bytes_by_place block h.1 in
    let c = cipher_block ws block nr (h.0, bytes) in
    ((c.0, places_of_bytes _ c.1), undone_cipher ws block nr some (h.0, bytes))
