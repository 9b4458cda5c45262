use Rattle.std.proofs.Common.{◌≡◌, length, take, map}
use Rattle.std.specs.Char.{to_ascii_lowercase}
use Rattle.ossl_names.proofs.index.look_up.Given as goal

abbrev pub invariant-loop-i : goal.invariant-loop-i
invariant-loop-i l = (length l.lower ≡ 99) × (take l.i l.lower ≡ map to_ascii_lowercase (take l.i l.name))
