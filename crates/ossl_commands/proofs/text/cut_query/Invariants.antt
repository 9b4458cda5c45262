use Rattle.std.proofs.Common.{◌≡◌, ◌++◌, ◌-◌, ◌≤◌, length, true, take, drop}
use Rattle.ossl_commands.specs.Lines.{before_query, query_text}
use Rattle.ossl_commands.specs.Starts.{start_at}
use Rattle.ossl_commands.proofs.text.cut_query.Given as goal

-- the bytes left decide, and whether a word may begin there
abbrev pub invariant-loop-more : goal.invariant-loop-more
invariant-loop-more l = record {
  within : l.gone ≤ length l.line;
  before : before_query true l.line ≡ take l.gone l.line ++ before_query (start_at l.line l.gone) (drop l.gone l.line);
  query : query_text true l.line ≡ query_text (start_at l.line l.gone) (drop l.gone l.line);
}

abbrev pub decreases-loop-more : goal.decreases-loop-more
decreases-loop-more l = length l.line - l.gone
