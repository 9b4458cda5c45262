use Rattle.std.proofs.Common.{◌<◌, ◌≤◌, ◌^◌, ℕ, arith, lit<}
use Rattle.std.proofs.Math.Nat.{pow-le-pow_right}
use Rattle.ossl_salted.proofs.words.number.Goals as goal

below : (n i : ℕ) → i < 8 → n < 10 ^ i → n < 10 ^ 7
below n i h k = let p : 10 ^ i ≤ 10 ^ 7 = pow-le-pow_right {n = 10} (lit< tt) {i = i} {j = 7} (omega arith) in omega (arith, p)

pub overflow_mul-number : goal.overflow_mul-number
overflow_mul-number c = let h = below c.loop-byte.number c.loop-byte.byte-index (omega arith) c.loop-byte.invariant.1 in omega (arith, h)

pub overflow_add-number : goal.overflow_add-number
overflow_add-number c = let h = below c.loop-byte.number c.loop-byte.byte-index (omega arith) c.loop-byte.invariant.1 in omega (arith, h)
