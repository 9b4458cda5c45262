use Rattle.std.proofs.Common.{◌≡◌, max, drop}
use Rattle.std.specs.Prelude.{fold, filter_map}
use Rattle.ossl_commands.specs.Counts.{lib_in}
use Rattle.ossl_commands.proofs.amount.greatest_lib_among.Given as goal

-- the words left
abbrev pub invariant-loop-argument : goal.invariant-loop-argument
invariant-loop-argument l = fold max l.most (filter_map lib_in (drop l.argument-index l.arguments)) ≡ fold max 0 (filter_map lib_in l.arguments)
