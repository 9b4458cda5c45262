use Rattle.std.proofs.Common.{◌≡◌, ◌<◌, ◌^◌, ◌+◌, drop}
use Rattle.std.specs.Prelude.{sum_by}
use Rattle.ossl_commands.specs.Fits.{capped, declared_by}
use Rattle.ossl_commands.proofs.amount.declared_in.Given as goal

-- the words left
abbrev pub invariant-loop-argument : goal.invariant-loop-argument
invariant-loop-argument l = record {
  amount : capped (l.total + sum_by (declared_by l.lengths) (drop l.argument-index l.argument-items)) ≡ capped (sum_by (declared_by l.lengths) l.argument-items);
  small : l.total < 2 ^ 64;
}
