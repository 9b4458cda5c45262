use Rattle.std.proofs.Common.{◌≡◌, map, drop}
use Rattle.ossl_commands.specs.declared.limit.Limit.TheVariants as limits
use Rattle.ossl_commands.specs.Fits.{first_passed}
use Rattle.ossl_commands.proofs.amount.is_file_passed.Given as goal

-- the files left
abbrev pub invariant-loop-length : goal.invariant-loop-length
invariant-loop-length l = first_passed (map (λ size. (size, limits.File)) (drop l.length-index l.lengths)) ≡ first_passed (map (λ size. (size, limits.File)) l.lengths)
