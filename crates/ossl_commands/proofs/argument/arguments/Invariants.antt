use Rattle.std.proofs.Common.{◌≡◌, [], length}
use Rattle.ossl_commands.specs.Judging.{arguments_of}
use Rattle.ossl_commands.specs.Table.{row_of}
use Rattle.ossl_commands.proofs.argument.arguments.Given as goal

-- what was said so far, and the words left
abbrev pub invariant-loop-word : goal.invariant-loop-word
invariant-loop-word l = arguments_of (row_of l.verb) l.fn.files [] l.fn.words ≡ arguments_of (row_of l.verb) l.files l.said.items l.words

abbrev pub decreases-loop-word : goal.decreases-loop-word
decreases-loop-word l = length l.words
