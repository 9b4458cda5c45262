use Rattle.std.proofs.Common.{◌≡◌, map, drop}
use Rattle.std.specs.List.{list_any}
use Rattle.std.specs.Str.{bytes_eq}
use Rattle.ossl_commands.proofs.argument.is_among.Given as goal

-- the words left decide
abbrev pub invariant-loop-one : goal.invariant-loop-one
invariant-loop-one l = list_any (bytes_eq l.word) (map (λ one. one.now) (drop l.one-index l.words)) ≡ list_any (bytes_eq l.word) (map (λ one. one.now) l.words)
