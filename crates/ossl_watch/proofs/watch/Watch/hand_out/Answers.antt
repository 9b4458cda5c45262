use Rattle.std.proofs.Common.{◌≡◌, true, arith}
use Rattle.ossl_watch.specs.Watched.{are_below}
use Rattle.ossl_watch.proofs.BelowLaws.{below_more}
use Rattle.ossl_watch.proofs.watch.Watch.hand_out.Goals as goal

pub change_uses-requires : goal.change_uses-requires
change_uses-requires c =
    let small : are_below 9223372036854775808 c.self.inside.running.items ≡ true = rw (← c.self.view_is) at c.requires.below in
    (below_more 9223372036854775808 18446744073709551615 c.self.inside.running.items (omega arith) small)
