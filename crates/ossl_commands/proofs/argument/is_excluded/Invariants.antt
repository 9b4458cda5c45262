use Rattle.std.proofs.Common.{◌≡◌, drop}
use Rattle.std.specs.List.{list_any}
use Rattle.ossl_commands.specs.Judging.{excludes}
use Rattle.ossl_commands.specs.Words.{option_name}
use Rattle.ossl_commands.proofs.argument.is_excluded.Given as goal

-- the arguments left decide
abbrev pub invariant-loop-argument : goal.invariant-loop-argument
invariant-loop-argument l =
    list_any (λ argument. excludes l.option (option_name argument)) (drop l.argument-index l.before) ≡ list_any (λ argument. excludes l.option (option_name argument)) l.before
