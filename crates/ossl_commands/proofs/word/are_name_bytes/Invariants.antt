use Rattle.std.proofs.Common.{◌≡◌, drop}
use Rattle.std.specs.List.{list_all}
use Rattle.ossl_commands.specs.Words.{is_name_byte}
use Rattle.ossl_commands.proofs.word.are_name_bytes.Given as goal

-- the bytes left decide
abbrev pub invariant-loop-byte : goal.invariant-loop-byte
invariant-loop-byte l = list_all is_name_byte (drop l.byte-index l.text) ≡ list_all is_name_byte l.text
