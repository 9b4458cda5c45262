-- The product by nibbles: how the code goes about it.
use Rattle.std.specs.Prelude.{ℕ, List, map}
use Rattle.std.specs.List.{range_with_len}
use Rattle.ossl_ghash.specs.Ghash.{halved, times}

-- moved right by four bits
unfoldable pub halved_4 : ℕ → ℕ
halved_4 v = halved (halved (halved (halved v)))

-- the 16 multiples of h by numbers of four bits, the highest of which is the leftmost bit of a block
abbrev pub multiples_of : ℕ → List ℕ
multiples_of h = map (λ n. times 4 n h) (range_with_len 0 16)
