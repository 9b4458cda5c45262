-- The generator of batches: the states of a linear congruence modulo 2^64 (Knuth, The Art of Computer Programming,
-- 3.2.1), and a line for each. Quotients are rounded down.
use Rattle.std.specs.Prelude.{ℕ, zero, suc, ◌+◌, ◌-◌, ◌*◌, ◌/◌, ◌%◌, ◌^◌, List, [], ◌∷◌, ◌++◌, codes, slice_index_or}
use Rattle.std.specs.Fmt.{decimal}
use Rattle.hex.specs.Hex.{encode_lower}

abbrev pub next_state : ℕ → ℕ
next_state state = (6364136223846793005 * state + 1442695040888963407) % 2 ^ 64

-- the state of a line, counted from 1; the seed is that before the first
abbrev pub state_of : ℕ → ℕ → ℕ
state_of seed zero = seed
state_of seed (suc line) = next_state (state_of seed line)

-- the byte of data and keys: the state's highest one
abbrev pub byte_of : ℕ → ℕ
byte_of state = state / 2 ^ 56

-- how many bytes of data there are
abbrev pub length_of : ℕ → ℕ
length_of state = state / 2 ^ 40 % 200

-- the number in the name of the property that a query prefers
abbrev pub property_of : ℕ → ℕ
property_of state = state / 2 ^ 20 % 100

-- so many copies of the state's byte: `rep:N:HH`
abbrev pub copies_text : ℕ → ℕ → List ℕ
copies_text count state = codes "rep:" ++ decimal count ++ codes ":" ++ encode_lower (byte_of state ∷ [])

abbrev pub data_text : ℕ → List ℕ
data_text state = copies_text (length_of state) state

-- a digest by SHA-256 with a preferred property, one by MD5, an HMAC with a key of 20 bytes, and an encryption
abbrev pub sha2_text : ℕ → List ℕ
sha2_text state = codes "dgst SHA2-256 " ++ data_text state ++ codes " : ?g" ++ decimal (property_of state)

abbrev pub md5_text : ℕ → List ℕ
md5_text state = codes "dgst MD5 " ++ data_text state

abbrev pub hmac_text : ℕ → List ℕ
hmac_text state = codes "mac HMAC digest=SHA2-256 key=" ++ copies_text 20 state ++ codes " " ++ data_text state

abbrev pub key_and_iv_text : ℕ → List ℕ
key_and_iv_text state = codes "key=" ++ copies_text 16 state ++ codes " iv=" ++ copies_text 16 state

abbrev pub aes_text : ℕ → List ℕ
aes_text state = codes "enc AES-128-CTR " ++ key_and_iv_text state ++ codes " " ++ data_text state

-- the command of a state
abbrev pub command_text : ℕ → List ℕ
command_text state =
    slice_index_or (sha2_text state ∷ md5_text state ∷ hmac_text state ∷ aes_text state ∷ []) (state / 2 ^ 33 % 4) []

-- a line, counted from 1; the callers make the lines in turn
abbrev pub line_text : ℕ → ℕ → ℕ → List ℕ
line_text seed callers line =
    decimal ((line - 1) % callers + 1) ++ codes " " ++ command_text (state_of seed line) ++ codes "\n"

-- the first so many lines
abbrev pub generated : ℕ → ℕ → ℕ → List ℕ
generated zero seed callers = []
generated (suc lines) seed callers = generated lines seed callers ++ line_text seed callers (suc lines)
