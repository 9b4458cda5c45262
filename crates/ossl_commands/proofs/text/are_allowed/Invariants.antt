use Rattle.std.proofs.Common.{◌≡◌, take}
use Rattle.std.specs.List.{list_all}
use Rattle.ossl_commands.specs.Lines.{is_allowed}
use Rattle.ossl_commands.proofs.text.are_allowed.Given as goal

-- the bytes gone over
abbrev pub invariant-loop-byte : goal.invariant-loop-byte
invariant-loop-byte l = l.are ≡ list_all is_allowed (take l.byte-index l.line)
