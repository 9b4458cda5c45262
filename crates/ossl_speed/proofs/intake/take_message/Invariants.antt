use Rattle.std.proofs.Common.{◌*◌}
use Rattle.ossl_speed.specs.Message.{message}
use Rattle.ossl_speed.proofs.intake.take_message.Given as goal

abbrev pub invariant-loop-i : goal.invariant-loop-i
invariant-loop-i g l = g.I.Intake.fed l.fn.intake (message (16384 * l._i)) l.intake
