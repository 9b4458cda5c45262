use Rattle.std.proofs.Common.{◌≡◌, map, drop}
use Rattle.ossl_commands.specs.Words.{looked_up}
use Rattle.ossl_commands.proofs.table.look_up.Given as goal

-- the rows left decide
abbrev pub invariant-loop-text : goal.invariant-loop-text
invariant-loop-text g l = looked_up (map (λ row. (row.0.now, row.1)) (drop l.text-index l.table)) l.word ≡ looked_up (map (λ row. (row.0.now, row.1)) l.table) l.word
