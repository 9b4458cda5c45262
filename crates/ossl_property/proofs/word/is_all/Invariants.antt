use Rattle.std.proofs.Common.{◌≡◌, drop}
use Rattle.std.specs.List.{list_all}
use Rattle.ossl_property.specs.Reading.{in_class}
use Rattle.ossl_property.proofs.word.is_all.Given as goal

-- the bytes left decide
abbrev pub invariant-loop-byte : goal.invariant-loop-byte
invariant-loop-byte l = list_all (in_class l.class) (drop l.byte-index l.text) ≡ list_all (in_class l.class) l.text
