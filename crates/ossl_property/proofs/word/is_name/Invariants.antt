use Rattle.std.proofs.Common.{◌≡◌, drop, true}
use Rattle.ossl_property.specs.Grammar.{is_dotted}
use Rattle.ossl_property.proofs.word.is_name.Given as goal

-- the bytes left decide
abbrev pub invariant-loop-byte : goal.invariant-loop-byte
invariant-loop-byte l = is_dotted l.at_start (drop l.byte-index l.word) ≡ is_dotted true l.word
