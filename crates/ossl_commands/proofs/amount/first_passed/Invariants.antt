use Rattle.std.proofs.Common.{◌≡◌, drop}
use Rattle.ossl_commands.specs.Fits.{first_passed}
use Rattle.ossl_commands.proofs.amount.first_passed.Given as goal

-- the amounts left
abbrev pub invariant-loop-amount : goal.invariant-loop-amount
invariant-loop-amount l = first_passed (drop l.amount-index l.amounts) ≡ first_passed l.amounts
