use Rattle.std.proofs.Common.{◌≡◌, drop}
use Rattle.ossl_property.specs.Bytes.{past}
use Rattle.ossl_commands.specs.Lines.{is_blank}
use Rattle.ossl_commands.proofs.text.past_blanks.Given as goal

abbrev pub invariant-loop-i : goal.invariant-loop-i
invariant-loop-i l = past is_blank (drop l.i l.text) ≡ past is_blank l.text
