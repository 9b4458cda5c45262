use Rattle.std.proofs.Common.{◌≡◌, ◌++◌, take, drop}
use Rattle.ossl_chacha.specs.KeyStream.{xored}
use Rattle.ossl_chacha.proofs.chacha.xor.Given as goal

abbrev pub invariant-loop-i : goal.invariant-loop-i
invariant-loop-i l = xored l.fn.text l.front ≡ take l.i l.text ++ xored (drop l.i l.text) (drop l.i l.front)
