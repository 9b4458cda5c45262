-- The key stream of a key of 32 bytes and an IV of 16, and the text of a message (RFC 8439, 2.4). The IV is the 32-bit
-- counter of the first block, little-endian, and the 96-bit nonce, as in EVP_chacha20(3).
use Rattle.std.specs.Prelude.{ℕ, ◌+◌, ◌-◌, ◌*◌, ◌/◌, ◌%◌, ◌^◌, ◌≡◌, ◌<◌, ◌≤◌, Bool, false, List, [], ◌∷◌, map, take}
use Rattle.std.specs.Prelude.{slice_index, bit_xor}
use Rattle.std.specs.List.{range_with_len}
use Rattle.rand_core.specs.Steps.{u32_at}
unfoldable pub use Rattle.ossl_blocks.specs.Xor.{xored}
use Rattle.ossl_chacha.specs.Block.{block}

-- n little-endian words of some bytes, from word i on
abbrev pub words : List ℕ → ℕ → ℕ → List ℕ
words bytes i n = map (u32_at bytes) (range_with_len i n)

-- the counter of the first block
abbrev pub counter_of : List ℕ → ℕ
counter_of iv = u32_at iv 0

-- how many blocks the key stream has: the counter ends at 2 ^ 32 - 1
abbrev pub blocks_of : List ℕ → ℕ
blocks_of iv = 2 ^ 32 - counter_of iv

-- how many bytes these are
abbrev pub stream_len : List ℕ → ℕ
stream_len iv = 64 * blocks_of iv

-- block n of the key stream, counted from 0
unfoldable pub block_at : List ℕ → List ℕ → ℕ → List ℕ
block_at key iv n = block (words key 0 8) (counter_of iv + n) (words iv 1 3)

-- the byte of the key stream at a place
abbrev pub key_byte : List ℕ → List ℕ → ℕ → ℕ
key_byte key iv place = slice_index (block_at key iv (place / 64)) (place % 64)

-- bytes from a place of the message on, each xored with the byte of the key stream at its place
unfoldable pub text_from : List ℕ → List ℕ → ℕ → List ℕ → List ℕ
text_from key iv place [] = []
text_from key iv place (byte ∷ rest) = bit_xor byte (key_byte key iv place) ∷ text_from key iv (place + 1) rest

-- a stream: its key and IV, how many bytes of the key stream are used, and whether more bytes came than it has
pub record ChaChaState : Type 0 where
  pub key : List ℕ
  pub iv : List ℕ
  pub used : ℕ
  pub is_over : Bool

-- the stream before any byte
abbrev pub stream_of : List ℕ → List ℕ → ChaChaState
stream_of key iv = record { key = key; iv = iv; used = 0; is_over = false }

-- the text that a stream gives of these bytes: as many of them as the key stream has left, xored with it
abbrev pub text_of : ChaChaState → List ℕ → List ℕ
text_of state bytes = text_from state.key state.iv state.used (take (stream_len state.iv - state.used) bytes)
