use Rattle.std.proofs.Common.{◌≡◌, ◌∙◌, ap, map, refl, true, List, [], ◌∷◌}
use Rattle.ossl_cache.specs.Recent.{Answer, without}
use Rattle.ossl_cache.specs.Places.{shown, emptied}
use Rattle.ossl_cache.proofs.Making.{emptied-shows}
use Rattle.ossl_cache.proofs.Holding.{emptied-placed}
use Rattle.ossl_cache.proofs.cache.QueryCache.flush.Goals as goal

without-all : (as' : List Answer) → without (λ a. true) as' ≡ []
without-all [] = refl
without-all (a ∷ as') = without-all as'

pub returns : goal.returns
returns c =
    let es = c.self.inside.order.entries in
    record { empty = emptied-shows c.self.inside.slots (λ a. true) c.empty.new.slots (c.empty.ensures ∙ ap (λ s. map (emptied (λ a. true)) s) c.deref_mut.ensures.value) es ∙ without-all (shown c.self.inside.slots.items es) }

pub invariant_of-self : goal.invariant_of-self
invariant_of-self c =
    emptied-placed c.self.inside.slots (λ a. true) c.empty.new.slots (c.empty.ensures ∙ ap (λ s. map (emptied (λ a. true)) s) c.deref_mut.ensures.value) c.self.inside.order.entries c.self.invariant
