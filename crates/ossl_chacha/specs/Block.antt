-- The ChaCha20 block function (RFC 8439, 2.1 to 2.3). A state is a list of sixteen words, a word a number below 2 ^ 32.
use Rattle.std.specs.Prelude.{ℕ, zero, suc, ◌+◌, ◌%◌, ◌^◌, List, [], ◌∷◌, ◌++◌, slice_index, slice_set, bit_xor}
use Rattle.std.specs.List.{flat_map}
use Rattle.std.specs.Int.{w32, rotate_left, to_le_bytes}

-- a line of the quarter round: a += b; d ^= a; d <<<= n (2.1)
abbrev pub quarter_line : ℕ → ℕ → ℕ → ℕ → List ℕ → List ℕ
quarter_line a b d n x =
    let sum = (slice_index x a + slice_index x b) % 2 ^ 32 in
    slice_set (slice_set x a sum) d (rotate_left w32 (bit_xor (slice_index x d) sum) n)

-- the quarter round on the words a, b, c and d of a state (2.1, 2.2)
unfoldable pub quarter_round : ℕ → ℕ → ℕ → ℕ → List ℕ → List ℕ
quarter_round a b c d x =
    quarter_line c d b 7 (quarter_line a b d 8 (quarter_line c d b 12 (quarter_line a b d 16 x)))

-- a column round: the quarter round on each column (2.3)
unfoldable pub column_round : List ℕ → List ℕ
column_round x =
    quarter_round 3 7 11 15 (quarter_round 2 6 10 14 (quarter_round 1 5 9 13 (quarter_round 0 4 8 12 x)))

-- a diagonal round: the quarter round on each diagonal (2.3)
unfoldable pub diagonal_round : List ℕ → List ℕ
diagonal_round x =
    quarter_round 3 4 9 14 (quarter_round 2 7 8 13 (quarter_round 1 6 11 12 (quarter_round 0 5 10 15 x)))

-- n times a column round and a diagonal round (2.3)
unfoldable pub inner_blocks : ℕ → List ℕ → List ℕ
inner_blocks zero x = x
inner_blocks (suc n) x = diagonal_round (column_round (inner_blocks n x))

-- the state to begin with: four constants, eight words of the key, the counter, three words of the nonce (2.3)
abbrev pub initial_state : List ℕ → ℕ → List ℕ → List ℕ
initial_state key counter nonce =
    0x61707865 ∷ 0x3320646e ∷ 0x79622d32 ∷ 0x6b206574 ∷ [] ++ key ++ counter ∷ nonce

-- two states added word by word
unfoldable pub added : List ℕ → List ℕ → List ℕ
added (x ∷ xs) (y ∷ ys) = (x + y) % 2 ^ 32 ∷ added xs ys
added _ _ = []

-- the words of a block: the state after twenty rounds, plus the state to begin with (2.3)
unfoldable pub block_words : List ℕ → ℕ → List ℕ → List ℕ
block_words key counter nonce =
    added (inner_blocks 10 (initial_state key counter nonce)) (initial_state key counter nonce)

-- the block: its words in little-endian order, 64 bytes (2.3)
abbrev pub block : List ℕ → ℕ → List ℕ → List ℕ
block key counter nonce = flat_map (to_le_bytes w32) (block_words key counter nonce)
