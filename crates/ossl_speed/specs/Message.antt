-- The message that is timed.
use Rattle.std.specs.Prelude.{ℕ, zero, suc, ◌%◌, List, [], ◌∷◌, ◌++◌}

-- n bytes, of which byte i is i modulo 256
unfoldable pub message : ℕ → List ℕ
message zero = []
message (suc n) = message n ++ n % 256 ∷ []
