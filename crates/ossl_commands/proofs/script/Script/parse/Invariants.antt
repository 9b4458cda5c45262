use Rattle.std.proofs.Common.{◌≡◌, ◌+◌, ◌≤◌, length}
use Rattle.std.specs.Str.Lines.{lines}
use Rattle.ossl_commands.specs.Counts.{line_count}
use Rattle.ossl_commands.specs.Judging.{commands_from, commands_of, continued}
use Rattle.ossl_commands.proofs.script.Script.parse.Given as goal

-- the commands so far, and the lines left
abbrev pub invariant-loop-rest : goal.invariant-loop-rest
invariant-loop-rest l = record {
  said : commands_of l.text ≡ continued l.commands.items (commands_from (l.number + 1) l.files (lines l.rest));
  counted : l.number + length (lines l.rest) ≡ line_count l.text;
  bounded : l.number + length l.rest ≤ length l.text;
}

abbrev pub decreases-loop-rest : goal.decreases-loop-rest
decreases-loop-rest l = length l.rest
