-- A state as four words, and the rounds by their keys' bytes: how the code goes about the cipher.
use Rattle.std.specs.Prelude.{ℕ, List, ◌++◌, map, slice_index, ◌≡◌, ◌<◌}
use Rattle.std.specs.Int.{w32, to_be_bytes}
use Rattle.ossl_aes.specs.Field.{sub, unsub}
use Rattle.ossl_aes.specs.Cipher.{add, column, shift_rows, inv_shift_rows, mix_columns, inv_mix_columns}

-- the bytes of four words
abbrev pub state_of : List ℕ → List ℕ
state_of w =
    to_be_bytes w32 (slice_index w 0) ++ to_be_bytes w32 (slice_index w 1)
    ++ to_be_bytes w32 (slice_index w 2) ++ to_be_bytes w32 (slice_index w 3)

-- a round with the key k
unfoldable pub round : List ℕ → List ℕ → List ℕ
round s k = add (mix_columns (shift_rows (map sub s))) k

-- the last round with the key k
unfoldable pub last_round : List ℕ → List ℕ → List ℕ
last_round s k = add (shift_rows (map sub s)) k

-- a round of the inverse cipher with the key k, whose columns are multiplied by the inverse matrix (FIPS 197, 5.3.5)
unfoldable pub inv_round : List ℕ → List ℕ → List ℕ
inv_round s k = add (inv_mix_columns (map unsub (inv_shift_rows s))) k

-- the last round of the inverse cipher with the key k
unfoldable pub last_inv_round : List ℕ → List ℕ → List ℕ
last_inv_round s k = add (map unsub (inv_shift_rows s)) k

-- a word's column times the inverse matrix
abbrev pub inv_mixed_column : ℕ → List ℕ
inv_mixed_column w =
    column 14 11 13 9 (slice_index (to_be_bytes w32 w) 0) (slice_index (to_be_bytes w32 w) 1)
    (slice_index (to_be_bytes w32 w) 2) (slice_index (to_be_bytes w32 w) 3)

-- each of the first n words of us is that of ws times the inverse matrix
abbrev pub AreInvMixed : ℕ → List ℕ → List ℕ → Type 0
AreInvMixed n ws us = (j : ℕ) → j < n → to_be_bytes w32 (slice_index us j) ≡ inv_mixed_column (slice_index ws j)
