use Rattle.std.proofs.Common.{nat_eq, length, ◌∙◌, ◌≡◌, ap, sym, map, find, position, None, Some, option_map}
use Rattle.std.specs.Map.{lookup}
use Rattle.lru.specs.LruCache.{promoted}
use Rattle.ossl_cache.specs.Recent.{same_key}
use Rattle.ossl_cache.specs.Places.{are_places, shown, held_at, holds_at, holds_in}
use Rattle.ossl_cache.proofs.Placing.{promoted_length, promoted_places}
use Rattle.ossl_cache.proofs.Showing.{found, found_value, found_front, missing_value, missing_front}
use Rattle.ossl_cache.proofs.Holding.{found_place, missing_place}
use Rattle.ossl_cache.proofs.cache.QueryCache.find.Goals as goal

pub returns-in_default-clause-found : goal.returns-in_default-clause-found
returns-in_default-clause-found c =
    let es = c.self.inside.order.entries in let slots = c.self.inside.slots.items in let test = same_key c.args.key.now in
    let f : None ≡ find (holds_at test slots) (map (λ e. e.0) es) = missing_place slots c.args.key.now es (c.in_default.ensures ∙ ap (position (holds_in test)) c.as_slice.ensures.value) in
    missing_value test slots es f ∙ ap (lookup test) c.self.view_is

pub returns-in_default-clause-front : goal.returns-in_default-clause-front
returns-in_default-clause-front c =
    let es = c.self.inside.order.entries in let slots = c.self.inside.slots.items in let test = same_key c.args.key.now in
    let f : None ≡ find (holds_at test slots) (map (λ e. e.0) es) = missing_place slots c.args.key.now es (c.in_default.ensures ∙ ap (position (holds_in test)) c.as_slice.ensures.value) in
    sym c.self.view_is ∙ missing_front test slots es f ∙ ap (promoted test) c.self.view_is

pub returns-clause-found : goal.returns-clause-found
returns-clause-found c =
    let es = c.self.inside.order.entries in let slots = c.self.inside.slots.items in let test = same_key c.args.key.now in
    let f : find (holds_at test slots) (map (λ e. e.0) es) ≡ Some c.in-Some.place = found_place slots c.args.key.now es c.in-Some.place c.self.invariant (c.in-Some.ensures ∙ ap (position (holds_in test)) c.as_slice.ensures.value) in
    c.kept_at.ensures ∙ ap (λ xs. option_map (λ p. p.1) (held_at xs c.in-Some.place)) c.as_slice-2.ensures.value
    ∙ found_value test slots es c.in-Some.place f ∙ ap (lookup test) c.self.view_is

pub returns-clause-front : goal.returns-clause-front
returns-clause-front c =
    let es = c.self.inside.order.entries in let slots = c.self.inside.slots.items in let test = same_key c.args.key.now in
    let f : find (holds_at test slots) (map (λ e. e.0) es) ≡ Some c.in-Some.place = found_place slots c.args.key.now es c.in-Some.place c.self.invariant (c.in-Some.ensures ∙ ap (position (holds_in test)) c.as_slice.ensures.value) in
    ap (λ o. shown slots o.entries) c.promote.ensures.entries ∙ found_front test slots es c.in-Some.place f ∙ ap (promoted test) c.self.view_is

pub invariant_of-self : goal.invariant_of-self
invariant_of-self c =
    let es = c.self.inside.order.entries in let slots = c.self.inside.slots.items in let test = same_key c.args.key.now in
    let f : find (holds_at test slots) (map (λ e. e.0) es) ≡ Some c.in-Some.place = found_place slots c.args.key.now es c.in-Some.place c.self.invariant (c.in-Some.ensures ∙ ap (position (holds_in test)) c.as_slice.ensures.value) in
    let entry = (found test slots es c.in-Some.place f).entry in
    let new : c.promote.new.self.entries ≡ promoted (nat_eq c.in-Some.place) es = ap (λ o. o.entries) c.promote.ensures.entries in
    record {
      room = c.self.invariant.room;
      all = ap length new ∙ promoted_length c.in-Some.place es entry ∙ c.self.invariant.all;
      once = ap are_places new ∙ promoted_places c.in-Some.place es c.self.invariant.once entry;
      apart = c.self.invariant.apart;
    }
