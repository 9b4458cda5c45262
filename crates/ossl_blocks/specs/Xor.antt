-- The sum of texts of bytes.
use Rattle.std.specs.Prelude.{ℕ, List, [], ◌∷◌, bit_xor}

-- two texts xored byte by byte, as far as both reach
unfoldable pub xored : List ℕ → List ℕ → List ℕ
xored [] _ = []
xored _ [] = []
xored (x ∷ xs) (y ∷ ys) = bit_xor x y ∷ xored xs ys
