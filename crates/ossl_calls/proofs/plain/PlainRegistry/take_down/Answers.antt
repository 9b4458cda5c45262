use Rattle.std.proofs.Common.{◌≡◌, ◌≤◌, ◌+◌, length, map, arith}
use Rattle.std.proofs.lemmas.List.{length-map}
use Rattle.ossl_base.specs.declared.entry.Entry.{Entry}
use Rattle.ossl_state.specs.declared.call.Call.{Call}
use Rattle.ossl_state.specs.declared.call.Reply.{Reply}
use Rattle.ossl_calls.specs.Events.{Takes}
use Rattle.ossl_state.specs.Going.{answer_of, returned_by, without_going}
use Rattle.ossl_state.specs.History.{Fixed, IsNext, state_after}
use Rattle.ossl_state.specs.Sound.{giving_back, lent_after, lent_by, lent_with}
use Rattle.ossl_calls.proofs.EventLaws.{IsKept-takes, kept-next, kept-sound}
use Rattle.ossl_state.proofs.TokenLaws.{lent-push}
use Rattle.ossl_calls.proofs.GoingLaws.{going-next}
use Rattle.ossl_calls.proofs.RoomLaws.{answer-lends}
use Rattle.ossl_calls.proofs.UpLaws.{same_length}
use Rattle.ossl_calls.proofs.plain.PlainRegistry.take_down.Goals as goal

pub stop_going-requires-clause-distinct : goal.stop_going-requires-clause-distinct
stop_going-requires-clause-distinct g c =
    let inside = c.self.inside in
    let fixed : Fixed = record { facts = map g.P.Provider.facts inside.boxes.items; contexts = inside.contexts; opened = inside.opened.items } in
    (kept-sound fixed (map g.P.Provider.sheet inside.boxes.items) inside.state inside.history.items c.self.invariant.0).instances.distinct

pub stop_going-requires-clause-places : goal.stop_going-requires-clause-places
stop_going-requires-clause-places g c =
    let inside = c.self.inside in
    let fixed : Fixed = record { facts = map g.P.Provider.facts inside.boxes.items; contexts = inside.contexts; opened = inside.opened.items } in
    let places = (kept-sound fixed (map g.P.Provider.sheet inside.boxes.items) inside.state inside.history.items c.self.invariant.0).instances.places in
    rw inside.boxes.ok.0 (rw length-map at places)

pub record-requires-clause-number : goal.record-requires-clause-number
record-requires-clause-number g c =
    let inside = c.self.inside in
    let facts = map g.P.Provider.facts inside.boxes.items in
    let fixed : Fixed = record { facts = facts; contexts = inside.contexts; opened = inside.opened.items } in
    let sheets = map g.P.Provider.sheet inside.boxes.items in
    let h = c.self.invariant.0 in
    let s = inside.state in
    let past = inside.history.items in
    let next = kept-next fixed sheets s past h in
    rw (c.take_out.ensures, going-next s c.args.going.now) (omega (arith, next, inside.history.ok.0, inside.history.ok.1, inside.history.small))

pub invariant_of-self : goal.invariant_of-self
invariant_of-self g c =
    let inside = c.self.inside in
    let fixed : Fixed = record { facts = map g.P.Provider.facts inside.boxes.items; contexts = inside.contexts; opened = inside.opened.items } in
    let sheets = map g.P.Provider.sheet inside.boxes.items in
    let going = c.args.going.now in
    let e : Entry Call Reply = record { caller = c.args.caller; call = c.args.call; reply = answer_of going } in
    let next : IsNext fixed inside.history.items e = rw (← c.self.view_is) at c.requires.step in
    let takes : Takes fixed.facts (state_after fixed inside.history.items) e going = rw (← c.self.view_is) at c.requires.takes in
    let bound : giving_back (without_going (state_after fixed inside.history.items) going) + 1 ≤ giving_back (state_after fixed inside.history.items) + returned_by going = rw (← c.self.view_is) at c.requires.room in
    let room : giving_back (without_going inside.state going) + 1 ≤ giving_back inside.state + returned_by going = rw c.self.invariant.0.is_after bound in
    let lent : length (lent_by (lent_after inside.history.items) c.args.caller c.args.call (answer_of going)) + returned_by going ≤ length (lent_after inside.history.items) = rw (← c.self.view_is) at c.requires.returned in
    let same : length (map g.P.Provider.sheet c.stop_going.new.boxes.items) ≡ length sheets =
    simp length-map (same_length g.P.Provider.facts c.stop_going.new.boxes.items inside.boxes.items c.stop_going.ensures.facts) in
    let none : lent_with c.answer.result ≡ 0 = rw c.answer.ensures (answer-lends going) in
    let kept = IsKept-takes fixed sheets inside.state inside.history.items e c.self.invariant.0 next (map g.P.Provider.sheet c.stop_going.new.boxes.items) going takes same
    (λ k below. c.stop_going.ensures.sheets k (omega (arith, simp length-map at below, inside.boxes.ok.0))) in (
      rw (c.stop_going.ensures.facts, c.record.ensures.items, c.answer.ensures, c.record.ensures.state, c.take_out.ensures) kept,
      rw (c.record.ensures.items, c.answer.ensures, lent-push) (omega (arith, lent, c.returned.ensures, c.self.invariant.1, c.record.ensures.lent)),
      rw (c.record.ensures.state, c.take_out.ensures)
          (omega (arith, room, lent, none, c.returned.ensures, c.self.invariant.1, c.self.invariant.2, c.record.ensures.lent, c.record.ensures.len, c.record.ensures.capacity)),
    )
