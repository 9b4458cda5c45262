-- RC4 on lists, as in textbooks (Schneier, Applied Cryptography, 17.1; draft-kaukonen-cipher-arcfour-03). All sums are
-- modulo 256.
use Rattle.std.specs.Prelude.{ℕ, zero, suc, ◌+◌, ◌%◌, ◌≤◌, List, [], ◌∷◌, length, slice_index, swap, bit_xor}
use Rattle.std.specs.List.{range_with_len}

-- the table S, a permutation of 0 to 255, and the indices i and j
pub record Rc4State : Type 0 where
  pub table : List ℕ
  pub i : ℕ
  pub j : ℕ

-- a key has 1 to 256 bytes
abbrev pub IsKeyLength : ℕ → Type 0
IsKeyLength n = (1 ≤ n) × (n ≤ 256)

-- the key schedule's turn at i: j becomes j + S[i] + key[i modulo the key's length], and S[i] and S[j] are exchanged
abbrev pub scheduled_at : List ℕ → ℕ → List ℕ × ℕ → List ℕ × ℕ
scheduled_at key i before =
    let s = before.0 in
    let j = (before.1 + slice_index s i + slice_index key (i % length key)) % 256 in
    (swap s i j, j)

-- S and j after the turns at the first n values of i; S begins as 0 to 255, and j as 0
unfoldable pub scheduled : List ℕ → ℕ → List ℕ × ℕ
scheduled key zero = (range_with_len 0 256, 0)
scheduled key (suc i) = scheduled_at key i (scheduled key i)

-- the state in which the output begins: S after all 256 turns, i and j as 0
abbrev pub key_schedule : List ℕ → Rc4State
key_schedule key = record { table = (scheduled key 256).0; i = 0; j = 0 }

-- S[i] of the next byte
abbrev pub first_of : Rc4State → ℕ
first_of state = slice_index state.table ((state.i + 1) % 256)

-- the state for the next byte: i becomes i + 1, j becomes j + S[i], and S[i] and S[j] are exchanged
abbrev pub advanced : Rc4State → Rc4State
advanced state =
    let i = (state.i + 1) % 256 in
    let j = (state.j + first_of state) % 256 in
    record { table = swap state.table i j; i = i; j = j }

-- the key byte of an advanced state: S[S[i] + S[j]]
abbrev pub key_byte : Rc4State → ℕ
key_byte state =
    let s = state.table in
    slice_index s ((slice_index s state.i + slice_index s state.j) % 256)

-- the text that a state gives of these bytes: each is xored with the next key byte
unfoldable pub text_of : Rc4State → List ℕ → List ℕ
text_of state [] = []
text_of state (byte ∷ rest) = bit_xor byte (key_byte (advanced state)) ∷ text_of (advanced state) rest

-- RC4 of a whole text, the same in both directions
abbrev pub rc4 : List ℕ → List ℕ → List ℕ
rc4 key bytes = text_of (key_schedule key) bytes
