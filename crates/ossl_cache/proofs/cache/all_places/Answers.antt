use Rattle.std.proofs.Common.{◌≡◌, ◌+◌, ◌-◌, sym, subst, arith}
use Rattle.ossl_cache.proofs.Making.{AreLast, last-more}
use Rattle.ossl_cache.proofs.cache.all_places.Goals as goal

pub loop-place-preserved : goal.loop-place-preserved
loop-place-preserved c =
    let n = c.loop-place.place - 1 in
    let next : c.loop-place.place ≡ n + 1 = omega arith in
    subst (AreLast n) (sym c.in_ok-put.ensures.entries) (last-more c.loop-place.order n (omega arith) (subst (λ m. AreLast m c.loop-place.order) next c.loop-place.invariant))
