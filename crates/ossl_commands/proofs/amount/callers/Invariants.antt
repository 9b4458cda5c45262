use Rattle.std.proofs.Common.{◌≡◌, max, map, drop}
use Rattle.std.specs.Prelude.{fold}
use Rattle.ossl_commands.proofs.amount.callers.Given as goal

-- the lines left
abbrev pub invariant-loop-line : goal.invariant-loop-line
invariant-loop-line l = fold max l.most (map (λ line. line.caller) (drop l.line-index l.lines)) ≡ fold max 0 (map (λ line. line.caller) l.lines)
