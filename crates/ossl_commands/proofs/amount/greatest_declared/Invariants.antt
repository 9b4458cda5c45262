use Rattle.std.proofs.Common.{◌≡◌, ◌<◌, ◌^◌, max, map, drop}
use Rattle.std.specs.Prelude.{fold}
use Rattle.ossl_commands.specs.Fits.{capped, declared_in}
use Rattle.ossl_commands.proofs.amount.greatest_declared.Given as goal

-- the lines left
abbrev pub invariant-loop-line : goal.invariant-loop-line
invariant-loop-line l = record {
  amount : capped (fold max l.most (map (declared_in l.lengths) (drop l.line-index l.lines))) ≡ capped (fold max 0 (map (declared_in l.lengths) l.lines));
  small : l.most < 2 ^ 64;
}
