use Rattle.std.proofs.Common.{◌≡◌, ◌++◌, take, drop}
use Rattle.ossl_hmac.specs.Pbkdf2.{xored}
use Rattle.ossl_hmac.proofs.password.xor.Given as goal

abbrev pub invariant-loop-i : goal.invariant-loop-i
invariant-loop-i l = xored l.fn.sum l.code ≡ take l.i l.sum ++ xored (drop l.i l.sum) (drop l.i l.code)
