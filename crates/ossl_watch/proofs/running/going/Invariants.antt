use Rattle.std.proofs.Common.{◌≡◌, take}
use Rattle.ossl_watch.specs.Watched.{going_by}
use Rattle.ossl_watch.proofs.running.going.Given as goal

-- those that go of the instances so far
abbrev pub invariant-loop-r : goal.invariant-loop-r
invariant-loop-r l = l.ups.items ≡ going_by l.change (take l.r-index l.running)
