use Rattle.std.proofs.Common.{◌∙◌, ap, map}
use Rattle.ossl_cache.specs.Recent.{without, is_answered}
use Rattle.ossl_cache.specs.Places.{emptied}
use Rattle.ossl_cache.proofs.Making.{emptied-shows}
use Rattle.ossl_cache.proofs.Holding.{emptied-placed}
use Rattle.ossl_cache.proofs.cache.QueryCache.drop_answered.Goals as goal

pub returns : goal.returns
returns c =
    let test = is_answered c.args.instance in
    record { rest = emptied-shows c.self.inside.slots test c.empty.new.slots (c.empty.ensures ∙ ap (λ s. map (emptied test) s) c.deref_mut.ensures.value) c.self.inside.order.entries ∙ ap (without test) c.self.view_is }

pub invariant_of-self : goal.invariant_of-self
invariant_of-self c =
    let test = is_answered c.args.instance in
    emptied-placed c.self.inside.slots test c.empty.new.slots (c.empty.ensures ∙ ap (λ s. map (emptied test) s) c.deref_mut.ensures.value) c.self.inside.order.entries c.self.invariant
