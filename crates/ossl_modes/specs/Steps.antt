-- Modes by their steps: out is what a block becomes, and next what stands for the IV at the block after it, both by
-- what stands for the IV at the block.
use Rattle.std.specs.Prelude.{ℕ, zero, suc, List, [], ◌++◌, take, drop}

module _ (out next : List ℕ → List ℕ → List ℕ) where
  -- what the first n blocks become
  unfoldable pub stepped : ℕ → List ℕ → List ℕ → List ℕ
  stepped zero v bs = []
  stepped (suc n) v bs = out v (take 16 bs) ++ stepped n (next v (take 16 bs)) (drop 16 bs)

  -- what stands for the IV after them
  unfoldable pub value_by : ℕ → List ℕ → List ℕ → List ℕ
  value_by zero v bs = v
  value_by (suc n) v bs = value_by n (next v (take 16 bs)) (drop 16 bs)
