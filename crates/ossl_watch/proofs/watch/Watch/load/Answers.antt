use Rattle.std.proofs.Common.{◌≡◌, true, arith}
use Rattle.ossl_watch.specs.Watched.{are_below}
use Rattle.ossl_watch.proofs.BelowLaws.{below_more}
use Rattle.ossl_watch.proofs.watch.Watch.load.Goals as goal

pub activate-started-requires-clause-below : goal.activate-started-requires-clause-below
activate-started-requires-clause-below g c =
    let small : are_below 9223372036854775808 c.self.inside.running.items ≡ true = rw (← c.self.view_is) at c.requires.below in
    rw c.reserve.ensures.items (below_more 9223372036854775808 18446744073709551615 c.self.inside.running.items (omega arith) small)
