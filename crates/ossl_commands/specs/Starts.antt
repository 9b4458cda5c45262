-- Where a word may begin in a line.
use Rattle.std.specs.Prelude.{ℕ, ◌-◌, ◌==◌, Bool, ◌||◌, List, slice_index}
use Rattle.ossl_commands.specs.Lines.{is_blank}

-- at its beginning, and behind a space or a tab
abbrev pub start_at : List ℕ → ℕ → Bool
start_at line at = at == 0 || is_blank (slice_index line (at - 1))
