use Rattle.std.proofs.Common.{◌≡◌, ◌+◌, drop}
use Rattle.std.specs.List.{prefix_len}
use Rattle.ossl_conf.specs.Private.{in_class}
use Rattle.ossl_conf.proofs.run.run_len.Given as goal

-- the run is what was gone over, and the run at the rest
abbrev pub invariant-loop-at : goal.invariant-loop-at
invariant-loop-at l = l.at + prefix_len (in_class l.class) (drop l.at l.text) ≡ prefix_len (in_class l.class) l.text
