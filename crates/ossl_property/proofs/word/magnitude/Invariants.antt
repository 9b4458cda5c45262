use Rattle.std.proofs.Common.{◌≡◌, drop}
use Rattle.ossl_property.specs.Grammar.{number_behind, digits_value}
use Rattle.ossl_property.proofs.word.magnitude.Given as goal

-- the digits left complete the number
abbrev pub invariant-loop-byte : goal.invariant-loop-byte
invariant-loop-byte l = number_behind l.base l.number (drop l.byte-index l.word) ≡ digits_value l.base l.word
