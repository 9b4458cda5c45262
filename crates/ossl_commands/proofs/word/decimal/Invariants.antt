use Rattle.std.proofs.Common.{◌≡◌, ◌<◌, ◌^◌, drop}
use Rattle.ossl_property.specs.Grammar.{number_behind, digits_value}
use Rattle.ossl_commands.proofs.word.decimal.Given as goal

-- the digits left complete the number, which has as many digits as were gone over
abbrev pub invariant-loop-byte : goal.invariant-loop-byte
invariant-loop-byte l = record {
  completes : number_behind 10 l.number (drop l.byte-index l.word) ≡ digits_value 10 l.word;
  small : l.number < 10 ^ l.byte-index;
}
