use Rattle.std.proofs.Common.{◌≡◌, drop}
use Rattle.ossl_conf.specs.Values.{colons_from}
use Rattle.ossl_conf.proofs.said.cut_at_colons.Given as goal

-- no `::` begins before
abbrev pub invariant-loop-at : goal.invariant-loop-at
invariant-loop-at l = colons_from l.at (drop l.at l.name) ≡ colons_from 0 l.name
