use Rattle.std.proofs.Common.{◌≡◌, ◌-◌, bit_xor}
use Rattle.ossl_ghash.specs.Ghash.{times}
use Rattle.ossl_ghash.proofs.field.product.Given as goal

abbrev pub invariant-loop-i : goal.invariant-loop-i
invariant-loop-i l = bit_xor l.sum (times (128 - l.i) l.x l.multiple) ≡ times 128 l.fn.x l.fn.y
