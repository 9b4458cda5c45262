-- The cipher of FIPS 197 on lists of bytes. A state is 16 bytes, filled by columns: row r of column c stands at
-- r + 4 * c. A key has nk words of four bytes: 4, 6 or 8.
use Rattle.std.specs.Prelude.{ℕ, zero, suc, ◌+◌, ◌-◌, ◌*◌, ◌/◌, ◌%◌, ◌^◌, List, [], ◌∷◌, ◌++◌, length, map, nat_eq}
use Rattle.std.specs.Prelude.{◌&&◌, bit_xor, slice_index, if◌then◌else◌}
use Rattle.std.specs.Int.{w32, rotate_left, from_be_bytes, to_be_bytes}
use Rattle.ossl_aes.specs.Field.{mul, power, sub, unsub}
-- the sum of two texts byte by byte, as long as the shorter one (FIPS 197, 4.1 and 5.1.4)
unfoldable pub use Rattle.ossl_blocks.specs.Xor.{xored as add}

-- row r moves left by r places (FIPS 197, 5.1.2)
abbrev pub shift_rows : List ℕ → List ℕ
shift_rows s =
    slice_index s 0 ∷ slice_index s 5 ∷ slice_index s 10 ∷ slice_index s 15
    ∷ slice_index s 4 ∷ slice_index s 9 ∷ slice_index s 14 ∷ slice_index s 3
    ∷ slice_index s 8 ∷ slice_index s 13 ∷ slice_index s 2 ∷ slice_index s 7
    ∷ slice_index s 12 ∷ slice_index s 1 ∷ slice_index s 6 ∷ slice_index s 11 ∷ []

-- row r moves right by r places (FIPS 197, 5.3.1)
abbrev pub inv_shift_rows : List ℕ → List ℕ
inv_shift_rows s =
    slice_index s 0 ∷ slice_index s 13 ∷ slice_index s 10 ∷ slice_index s 7
    ∷ slice_index s 4 ∷ slice_index s 1 ∷ slice_index s 14 ∷ slice_index s 11
    ∷ slice_index s 8 ∷ slice_index s 5 ∷ slice_index s 2 ∷ slice_index s 15
    ∷ slice_index s 12 ∷ slice_index s 9 ∷ slice_index s 6 ∷ slice_index s 3 ∷ []

-- a row m n p q of a matrix times the column a b c d (FIPS 197, 4.3)
abbrev pub row : ℕ → ℕ → ℕ → ℕ → ℕ → ℕ → ℕ → ℕ → ℕ
row m n p q a b c d = bit_xor (bit_xor (bit_xor (mul m a) (mul n b)) (mul p c)) (mul q d)

-- the matrix whose first row is m n p q, each next one turned right by one, times the column a b c d (FIPS 197, 4.3)
abbrev pub column : ℕ → ℕ → ℕ → ℕ → ℕ → ℕ → ℕ → ℕ → List ℕ
column m n p q a b c d = row m n p q a b c d ∷ row q m n p a b c d ∷ row p q m n a b c d ∷ row n p q m a b c d ∷ []

-- each column times that matrix
abbrev pub columns : ℕ → ℕ → ℕ → ℕ → List ℕ → List ℕ
columns m n p q s =
    column m n p q (slice_index s 0) (slice_index s 1) (slice_index s 2) (slice_index s 3)
    ++ column m n p q (slice_index s 4) (slice_index s 5) (slice_index s 6) (slice_index s 7)
    ++ column m n p q (slice_index s 8) (slice_index s 9) (slice_index s 10) (slice_index s 11)
    ++ column m n p q (slice_index s 12) (slice_index s 13) (slice_index s 14) (slice_index s 15)

-- each column times the matrix 2 3 1 1 (FIPS 197, 5.1.3)
abbrev pub mix_columns : List ℕ → List ℕ
mix_columns s = columns 2 3 1 1 s

-- each column times the inverse matrix (FIPS 197, 5.3.3)
abbrev pub inv_mix_columns : List ℕ → List ℕ
inv_mix_columns s = columns 14 11 13 9 s

-- the four bytes of a word, each through the S-box (FIPS 197, 5.2)
abbrev pub sub_word : ℕ → ℕ
sub_word w = from_be_bytes w32 (map sub (to_be_bytes w32 w))

-- what is added to the word i - nk, t being the word before i: t turned left by a byte, through the S-box and with the
-- round constant, where nk divides i; t through the S-box, where nk is 8 and i is 4 modulo 8; else t (FIPS 197, 5.2)
abbrev pub temp_word : ℕ → ℕ → ℕ → ℕ
temp_word nk i t =
    if nat_eq (i % nk) 0 then bit_xor (sub_word (rotate_left w32 t 8)) (power 2 (i / nk - 1) * 2 ^ 24)
    else if nat_eq nk 8 && nat_eq (i % nk) 4 then sub_word t
    else t

-- the word after the words ws (FIPS 197, 5.2)
abbrev pub next_word : ℕ → List ℕ → ℕ
next_word nk ws = bit_xor (slice_index ws (length ws - nk)) (temp_word nk (length ws) (slice_index ws (length ws - 1)))

-- the word at byte i, big-endian
abbrev pub word_at : List ℕ → ℕ → ℕ
word_at b i = from_be_bytes w32
    (slice_index b i ∷ slice_index b (i + 1) ∷ slice_index b (i + 2) ∷ slice_index b (i + 3) ∷ [])

-- the first n words of the key (FIPS 197, 5.2)
unfoldable pub key_words : List ℕ → ℕ → List ℕ
key_words key zero = []
key_words key (suc n) = key_words key n ++ word_at key (4 * n) ∷ []

-- the key's nk words and n words more (FIPS 197, 5.2)
unfoldable pub schedule : ℕ → List ℕ → ℕ → List ℕ
schedule nk key zero = key_words key nk
schedule nk key (suc n) = schedule nk key n ++ next_word nk (schedule nk key n) ∷ []

-- the 16 bytes of the key of round n, by the schedule's words (FIPS 197, 5.1.4)
abbrev pub round_key : List ℕ → ℕ → List ℕ
round_key ws n =
    to_be_bytes w32 (slice_index ws (4 * n)) ++ to_be_bytes w32 (slice_index ws (4 * n + 1))
    ++ to_be_bytes w32 (slice_index ws (4 * n + 2)) ++ to_be_bytes w32 (slice_index ws (4 * n + 3))

-- the state after n rounds (FIPS 197, 5.1)
unfoldable pub rounds : List ℕ → List ℕ → ℕ → List ℕ
rounds ws s zero = add s (round_key ws 0)
rounds ws s (suc n) = add (mix_columns (shift_rows (map sub (rounds ws s n)))) (round_key ws (n + 1))

-- nr rounds, the last without the columns' product (FIPS 197, 5.1)
unfoldable pub cipher : List ℕ → ℕ → List ℕ → List ℕ
cipher ws nr s = add (shift_rows (map sub (rounds ws s (nr - 1)))) (round_key ws nr)

-- the state after n of nr rounds of the inverse cipher (FIPS 197, 5.3)
unfoldable pub inv_rounds : List ℕ → ℕ → List ℕ → ℕ → List ℕ
inv_rounds ws nr s zero = add s (round_key ws nr)
inv_rounds ws nr s (suc n) =
    inv_mix_columns (add (map unsub (inv_shift_rows (inv_rounds ws nr s n))) (round_key ws (nr - (n + 1))))

-- nr rounds of the inverse cipher, the last without the columns' product (FIPS 197, 5.3)
unfoldable pub inv_cipher : List ℕ → ℕ → List ℕ → List ℕ
inv_cipher ws nr s = add (map unsub (inv_shift_rows (inv_rounds ws nr s (nr - 1)))) (round_key ws 0)

-- the block encrypted under a key of nk words: nk + 6 rounds over 4 * nk + 28 words (FIPS 197, 5)
abbrev pub encrypted : ℕ → List ℕ → List ℕ → List ℕ
encrypted nk key block = cipher (schedule nk key (3 * nk + 28)) (nk + 6) block

-- the block decrypted under a key of nk words
abbrev pub decrypted : ℕ → List ℕ → List ℕ → List ℕ
decrypted nk key block = inv_cipher (schedule nk key (3 * nk + 28)) (nk + 6) block

-- a byte times the entries m n p q of a column of a matrix, as a word, top row first
abbrev pub scaled : ℕ → ℕ → ℕ → ℕ → ℕ → ℕ
scaled m n p q b = from_be_bytes w32 (mul m b ∷ mul n b ∷ mul p b ∷ mul q b ∷ [])

-- the matrix whose first row is m n p q, of its columns the one numbered c, times the byte b
abbrev pub column_word : ℕ → ℕ → ℕ → ℕ → ℕ → ℕ → ℕ
column_word m n p q c b =
    if nat_eq c 0 then scaled m q p n b
    else if nat_eq c 1 then scaled n m q p b
    else if nat_eq c 2 then scaled p n m q b
    else scaled q p n m b

-- the column c of the matrix 2 3 1 1 times the byte's image under the S-box
abbrev pub enc_word : ℕ → ℕ → ℕ
enc_word c b = column_word 2 3 1 1 c (sub b)

-- the column c of the inverse matrix times the byte's image under the inverse S-box
abbrev pub dec_word : ℕ → ℕ → ℕ
dec_word c b = column_word 14 11 13 9 c (unsub b)
