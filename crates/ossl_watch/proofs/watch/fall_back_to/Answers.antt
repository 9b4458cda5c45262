use Rattle.std.proofs.Common.{◌≡◌, arith}
use Rattle.ossl_watch.proofs.BelowLaws.{below_activated, below_more}
use Rattle.ossl_watch.proofs.watch.fall_back_to.Goals as goal

pub returns-in_err-place-clause-below : goal.returns-in_err-place-clause-below
returns-in_err-place-clause-below c =
    below_more 9223372036854775808 18446744073709551615 c.args.running.now.items (omega arith) c.requires.below

pub activate-requires-clause-below : goal.activate-requires-clause-below
activate-requires-clause-below c =
    below_more 9223372036854775808 18446744073709551615 c.args.running.now.items (omega arith) c.requires.below

pub returns-clause-below : goal.returns-clause-below
returns-clause-below c =
    rw c.activate.ensures.running
    (below_activated 9223372036854775808 18446744073709551615 c.args.number c.args.lib c.in_ok-place.place c.args.running.now.items (omega arith) (omega arith) c.requires.below)
