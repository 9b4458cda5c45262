use Rattle.std.proofs.Common.{◌*◌}
use Rattle.ossl_speed.specs.Contexts.{IsContextFed}
use Rattle.ossl_speed.specs.Message.{message}
use Rattle.ossl_speed.proofs.context.feed_message.Given as goal

abbrev pub invariant-loop-i : goal.invariant-loop-i
invariant-loop-i l =
    IsContextFed l.fn.context l.fn.out.items (message (16384 * l._i)) l.context l.out.items
