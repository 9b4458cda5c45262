-- What it says of two functions of blocks that one undoes the other.
use Rattle.std.specs.Prelude.{◌≡◌, ℕ, ◌<◌, List, length}
use Rattle.std.specs.List.{All}

-- a block: 16 bytes (FIPS 197, 3.1)
abbrev pub IsBlock : List ℕ → Type 0
IsBlock block = (length block ≡ 16) × All (λ byte. byte < 256) block

-- e gives blocks of blocks, and d gives what e was given
abbrev pub IsUndoneBy : (List ℕ → List ℕ) → (List ℕ → List ℕ) → Type 0
IsUndoneBy e d = (block : List ℕ) → IsBlock block → IsBlock (e block) × (d (e block) ≡ block)
