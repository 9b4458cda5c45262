use Rattle.std.proofs.Common.{◌≡◌, length, take}
use Rattle.ossl_speed.specs.Message.{message}
use Rattle.ossl_speed.proofs.message.piece.Given as goal

abbrev pub invariant-loop-i : goal.invariant-loop-i
invariant-loop-i l = (length l.bytes ≡ 16384) × (take l.i l.bytes ≡ message l.i)
