use Rattle.std.proofs.Common.{ℕ, ◌<◌, ◌≤◌, ◌^◌, lit<, arith}
use Rattle.std.proofs.Math.Nat.{pow-le-pow_right}
use Rattle.ossl_commands.proofs.word.decimal.Goals as goal

-- at most eight digits were gone over
few : (i : ℕ) → i ≤ 8 → 10 ^ i ≤ 100000000
few i le = let ten : 0 < 10 = lit< tt in pow-le-pow_right {n = 10} ten {i = i} {j = 8} le

pub overflow_mul-number : goal.overflow_mul-number
overflow_mul-number c =
    let most : 10 ^ c.loop-byte.byte-index ≤ 100000000 = few _ (omega (arith, c.requires, c.loop-byte-test.true)) in
    omega (arith, most, c.loop-byte.invariant.small)

pub overflow_add-number : goal.overflow_add-number
overflow_add-number c =
    let most : 10 ^ c.loop-byte.byte-index ≤ 100000000 = few _ (omega (arith, c.requires, c.loop-byte-test.true)) in
    omega (arith, most, c.loop-byte.invariant.small, c.type_inv.word c.loop-byte.byte-index)
