-- The sizes of keys.
use Rattle.std.specs.Prelude.{ℕ, ◌+◌, ◌*◌, ◌%◌, ◌≡◌, ◌≤◌}

-- the number of words of a key, and of its schedule: 4 and 44, 6 and 52, or 8 and 60 (FIPS 197, figure 4)
abbrev pub IsSize : ℕ → ℕ → Type 0
IsSize nk words = (4 ≤ nk) × (nk ≤ 8) × (nk % 2 ≡ 0) × (words ≡ 4 * nk + 28)
