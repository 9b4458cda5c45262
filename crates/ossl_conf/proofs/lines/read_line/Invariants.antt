use Rattle.std.proofs.Common.{◌≡◌, ℕ, ◌+◌, ◌≤◌, length}
use Rattle.std.specs.List.{position_or_len}
use Rattle.ossl_conf.specs.Lines.{is_line_feed, lines_at, lines_from, pieces}
use Rattle.ossl_conf.proofs.lines.read_line.Given as goal

-- the next line feed, and the lines by what was joined so far
abbrev pub invariant-pieces : goal.invariant-pieces
invariant-pieces l = record {
  feed : l.at ≡ position_or_len is_line_feed l.rest;
  lines : (number : ℕ) → lines_at number l.text ≡ lines_from (record { number = number; text = l.line.items }) (number + l.lines) (pieces l.rest);
  count : l.lines + length l.rest ≤ length l.text;
}

abbrev pub decreases-pieces : goal.decreases-pieces
decreases-pieces l = length l.rest
