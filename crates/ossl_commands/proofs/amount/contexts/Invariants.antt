use Rattle.std.proofs.Common.{◌≡◌, ◌<◌, ◌^◌, max, drop}
use Rattle.std.specs.Prelude.{fold, flat_map}
use Rattle.ossl_commands.specs.Counts.{libs_in}
use Rattle.ossl_commands.proofs.amount.contexts.Given as goal

-- the lines left
abbrev pub invariant-loop-line : goal.invariant-loop-line
invariant-loop-line l = record {
  greatest : fold max l.most (flat_map (λ line. libs_in line.command) (drop l.line-index l.lines)) ≡ fold max 0 (flat_map (λ line. libs_in line.command) l.lines);
  small : l.most < 2 ^ 32;
}
