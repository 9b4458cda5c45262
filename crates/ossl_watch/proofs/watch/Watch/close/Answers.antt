use Rattle.std.proofs.Common.{◌≡◌, true, arith}
use Rattle.ossl_watch.specs.Watched.{are_below}
use Rattle.ossl_watch.proofs.BelowLaws.{below_more}
use Rattle.ossl_watch.proofs.watch.Watch.close.Goals as goal

pub going-requires : goal.going-requires
going-requires c =
    let small : are_below 9223372036854775808 c.self.inside.running.items ≡ true = rw (← c.self.view_is) at c.requires.below in
    rw c.deref.ensures.value (below_more 9223372036854775808 18446744073709551615 c.self.inside.running.items (omega arith) small)

pub settle-requires : goal.settle-requires
settle-requires c =
    let small : are_below 9223372036854775808 c.self.inside.running.items ≡ true = rw (← c.self.view_is) at c.requires.below in
    (below_more 9223372036854775808 18446744073709551615 c.self.inside.running.items (omega arith) small)
