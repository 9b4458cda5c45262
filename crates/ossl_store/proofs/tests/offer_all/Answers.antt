use Rattle.std.proofs.Common.{◌≡◌, ◌∙◌, ℕ, refl, ap}
use Rattle.ossl_store.specs.Offering.{Offering, has_instance, has_rank}
use Rattle.ossl_store.proofs.Placed.{free-instances, free-ranks}
use Rattle.ossl_store.proofs.tests.offer_all.Goals as goal

pub loop-instance-preserved : goal.loop-instance-preserved
loop-instance-preserved c =
    let n : ℕ = c.loop-instance.instance in
    let o : Offering = record { instance = n; rank = n; rows = c.in_ok-rows.field-0.items } in
    record {
      instances = λ k more. ap (has_instance k) c.in_ok-offer.ensures.ok ∙ free-instances n o c.loop-instance.store refl c.loop-instance.invariant.instances k more;
      ranks = λ k more. ap (has_rank k) c.in_ok-offer.ensures.ok ∙ free-ranks n o c.loop-instance.store refl c.loop-instance.invariant.ranks k more;
    }
