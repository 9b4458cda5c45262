-- The generator of the key stream: how the code goes about it.
use Rattle.std.specs.Prelude.{ℕ, ◌+◌, ◌*◌, ◌/◌, ◌%◌, ◌^◌, ◌≡◌, ◌<◌, ◌≤◌, List, slice_index}
use Rattle.rand_core.specs.Steps.{u32_at}
use Rattle.rand_chacha.specs.ChaCha.{ChaCha, key_of, word_at}
use Rattle.ossl_chacha.specs.Block.{block_words}
use Rattle.ossl_chacha.specs.KeyStream.{words, counter_of, blocks_of, stream_len, block_at}

-- the generator whose next words are block n: the IV's first two words are its 64-bit counter, the last two its stream,
-- each low word first; 16 words a block
abbrev pub generator_at : List ℕ → List ℕ → ℕ → ChaCha
generator_at key iv n = record {
  key = key_of key;
  stream = u32_at iv 2 + u32_at iv 3 * 2 ^ 32;
  word_pos = 16 * (counter_of iv + n + u32_at iv 1 * 2 ^ 32) % 2 ^ 68;
}

-- each word of each block is the word that a generator gives at its place, which is before the generator's stream
-- repeats
abbrev pub GivesKeyStream : List ℕ → List ℕ → ChaCha → Type 0
GivesKeyStream key iv generator = (n k : ℕ) → n < blocks_of iv → k < 16
    → (generator.word_pos + 16 * n + k < 2 ^ 68)
    × (slice_index (block_words (words key 0 8) (counter_of iv + n) (words iv 1 3)) k
    ≡ word_at 10 generator.key generator.stream (generator.word_pos + 16 * n + k))

-- what keeps a stream's generator and its current block in step with the bytes used
pub record IsInStep (key iv held : List ℕ) (used : ℕ) (generator : ChaCha) : Type 0 where
  pub within : used ≤ stream_len iv
  pub words_are : GivesKeyStream key iv (generator_at key iv 0)
  pub place : generator ≡ generator_at key iv ((used + 63) / 64)
  pub current : 0 < used % 64 → held ≡ block_at key iv (used / 64)
