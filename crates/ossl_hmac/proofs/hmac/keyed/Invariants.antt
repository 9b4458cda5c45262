use Rattle.std.proofs.Common.{◌≡◌, ◌-◌, length, map, take, drop, replicate}
use Rattle.std.specs.Prelude.{bit_xor}
use Rattle.ossl_hmac.proofs.hmac.keyed.Given as goal

abbrev pub invariant-loop-i : goal.invariant-loop-i
invariant-loop-i l =
    (take l.i l.block ≡ map (λ byte. bit_xor l.pad byte) (take l.i l.key)) × (drop l.i l.block ≡ replicate (128 - l.i) l.pad) × (length l.block ≡ 128)
