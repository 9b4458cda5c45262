use Rattle.std.proofs.Common.{◌≡◌, ◌<◌, ◌^◌, ◌+◌, map, drop}
use Rattle.std.specs.Prelude.{sum}
use Rattle.ossl_commands.specs.Fits.{capped, declared_in}
use Rattle.ossl_commands.proofs.amount.total_declared.Given as goal

-- the lines left
abbrev pub invariant-loop-line : goal.invariant-loop-line
invariant-loop-line l = record {
  amount : capped (l.total + sum (map (declared_in l.lengths) (drop l.line-index l.lines))) ≡ capped (sum (map (declared_in l.lengths) l.lines));
  small : l.total < 2 ^ 64;
}
