-- Bytes cut into whole blocks and a rest.
use Rattle.std.specs.Prelude.{ℕ, ◌-◌, ◌*◌, ◌/◌, ◌<◌, ◌≤◌, ◌≡◌, List, ◌++◌, length}

-- a block has 1 to 4,096 bytes, and none or one byte is kept at least
abbrev pub IsSize : ℕ → ℕ → Type 0
IsSize size kept = (0 < size) × (size ≤ 4096) × (kept ≤ 1)

-- how many of n bytes are in whole blocks: all these blocks, or where a byte is kept those before the last byte
abbrev pub whole_len : ℕ → ℕ → ℕ → ℕ
whole_len size kept n = (n - kept) / size * size

-- a text cut in two: its whole blocks are done, and the rest is held
pub record IsCut (size kept : ℕ) (text done held : List ℕ) : Type 0 where
  pub joined : text ≡ done ++ held
  pub len : length done ≡ whole_len size kept (length text)
