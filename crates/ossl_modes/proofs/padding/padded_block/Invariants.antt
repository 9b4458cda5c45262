use Rattle.std.proofs.Common.{◌≡◌, ◌-◌, ◌++◌, length, take, replicate}
use Rattle.ossl_modes.proofs.padding.padded_block.Given as goal

abbrev pub invariant-loop-i : goal.invariant-loop-i
invariant-loop-i l = (length l.last ≡ 16) × (take l.i l.last ≡ take l.fn.count l.fn.block ++ replicate (l.i - l.fn.count) l.n)
