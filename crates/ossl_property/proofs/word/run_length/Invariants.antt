use Rattle.std.proofs.Common.{◌≡◌, ◌++◌, take, drop}
use Rattle.ossl_property.specs.Bytes.{front, past}
use Rattle.ossl_property.specs.Reading.{in_class}
use Rattle.ossl_property.proofs.word.run_length.Given as goal

-- the run begins with what was gone over, and goes on with the run at the rest
abbrev pub invariant-loop-i : goal.invariant-loop-i
invariant-loop-i l = record {
  run : take l.i l.text ++ front (in_class l.class) (drop l.i l.text) ≡ front (in_class l.class) l.text;
  rest : past (in_class l.class) (drop l.i l.text) ≡ past (in_class l.class) l.text;
}
