use Rattle.std.proofs.Common.{◌≡◌, ◌∙◌, ap, map, length, nat_eq, take, Some, ◌∷◌, slice_set, arith}
use Rattle.std.specs.Vec.{with_items}
use Rattle.std.proofs.lemmas.List.{length-set}
use Rattle.std.proofs.lemmas.List.{length-map}
use Rattle.lru.specs.LruCache.{promoted}
use Rattle.ossl_cache.specs.Recent.{Answer, same_key, without, with_answer, most}
use Rattle.ossl_cache.specs.Places.{shown, emptied, are_places, holds_at, next_place}
use Rattle.ossl_cache.proofs.Making.{emptied-shows, emptied-items}
use Rattle.ossl_cache.proofs.Placing.{next_of, next_below, shown-new, promoted_length, promoted_places}
use Rattle.ossl_cache.proofs.Holding.{apart-put, gone, emptied-placed}
use Rattle.ossl_cache.proofs.cache.QueryCache.keep.Goals as goal

pub index_mut-requires : goal.index_mut-requires
index_mut-requires c =
    let below = next_below (with_items c.self.inside.slots c.empty.new.slots).items c.self.inside.order.entries c.self.invariant.all c.self.invariant.once in
    let chosen = c.next_place-free.ensures ∙ ap (λ s. next_place s c.self.inside.order.entries) c.as_slice.ensures.value in
    omega (arith, below, chosen, c.self.invariant.room, c.self.inside.slots.ok.0)

pub invariant_of-self : goal.invariant_of-self
invariant_of-self c =
    let es = c.self.inside.order.entries in
    let answer = c.new-held.result in
    let test = λ (a : Answer). same_key answer.0 a.0 in
    let changed = c.empty.ensures ∙ ap (λ s. map (emptied test) s) c.deref_mut.ensures.value in
    let emptied_now = (with_items c.self.inside.slots c.empty.new.slots).items in
    let place = next_place emptied_now es in
    let chosen = c.next_place-free.ensures ∙ ap (λ s. next_place s es) c.as_slice.ensures.value in
    let next = next_of emptied_now es c.self.invariant.all c.self.invariant.once in
    let new : c.promote.new.self.entries ≡ promoted (nat_eq place) es = ap (λ o. o.entries) c.promote.ensures.entries ∙ ap (λ p. promoted (nat_eq p) es) chosen in
    let placed = emptied-placed c.self.inside.slots test c.empty.new.slots changed es c.self.invariant in
    let within = next_below emptied_now es c.self.invariant.all c.self.invariant.once in
    record {
      room = length-set emptied_now c.next_place-free.result (Some answer) ∙ placed.room;
      all = ap length new ∙ promoted_length place es next.entry ∙ c.self.invariant.all;
      once = ap are_places new ∙ promoted_places place es c.self.invariant.once next.entry;
      apart = apart-put emptied_now c.next_place-free.result answer (omega (arith, within, chosen, placed.room))
          (λ i. ap (λ s. holds_at (same_key answer.0) s i) (emptied-items c.self.inside.slots test c.empty.new.slots changed) ∙ gone c.self.inside.slots.items answer.0 i) placed.apart;
    }

pub returns : goal.returns
returns c =
    let es = c.self.inside.order.entries in
    let answer = c.new-held.result in
    let test = λ (a : Answer). same_key answer.0 a.0 in
    let changed = c.empty.ensures ∙ ap (λ s. map (emptied test) s) c.deref_mut.ensures.value in
    let emptied_now = (with_items c.self.inside.slots c.empty.new.slots).items in
    let room : length emptied_now ≡ most = ap length (emptied-items c.self.inside.slots test c.empty.new.slots changed) ∙ length-map c.self.inside.slots.items (emptied test) ∙ c.self.invariant.room in
    let chosen = c.next_place-free.ensures ∙ ap (λ s. next_place s es) c.as_slice.ensures.value in
    record {
      first = ap (λ o. shown (slice_set emptied_now c.next_place-free.result (Some answer)) o.entries) c.promote.ensures.entries
          ∙ ap (λ p. shown (slice_set emptied_now p (Some answer)) (promoted (nat_eq p) es)) chosen
          ∙ shown-new emptied_now answer es room c.self.invariant.all c.self.invariant.once
          ∙ ap (λ as'. answer ∷ take 63 as') (emptied-shows c.self.inside.slots test c.empty.new.slots changed es ∙ ap (without test) c.self.view_is)
          ∙ ap (λ a. with_answer a.0 a.1 c.args.self.now) c.new-held.ensures;
    }
