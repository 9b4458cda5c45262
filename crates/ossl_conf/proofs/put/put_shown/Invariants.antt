use Rattle.std.proofs.Common.{◌≡◌, ◌++◌, take}
use Rattle.ossl_conf.specs.Refused.{shown}
use Rattle.ossl_conf.proofs.put.put_shown.Given as goal

abbrev pub invariant-loop-byte : goal.invariant-loop-byte
invariant-loop-byte l = l.line.items ≡ l.initial.line.items ++ shown (take l.byte-index l.text)
