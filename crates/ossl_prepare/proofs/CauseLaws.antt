-- Causes over a longer time.
use Rattle.std.proofs.Common.{ℕ, ◌≤◌, arith}
use Rattle.ossl_base.specs.Causes.{Rose}

-- a count that rose within a time rose in all of it
pub rose_within : (before first then_ after : ℕ) → before ≤ first → then_ ≤ after → Rose first then_ → Rose before after
rose_within before first then_ after low high rose = omega (arith, low, high, rose)
