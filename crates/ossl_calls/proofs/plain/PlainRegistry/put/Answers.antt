use Rattle.std.proofs.Common.{map, arith}
use Rattle.ossl_base.specs.declared.entry.Entry.{Entry}
use Rattle.ossl_calls.specs.Change.{IsChangeable, changed}
use Rattle.ossl_calls.specs.Events.{Keeps}
use Rattle.ossl_state.specs.History.{Fixed, IsNext, state_after}
use Rattle.ossl_state.specs.declared.call.Call.{Call}
use Rattle.ossl_state.specs.declared.call.Reply.{Reply}
use Rattle.ossl_calls.proofs.EventLaws.{IsKept-keeps, kept-next}
use Rattle.ossl_calls.proofs.RoomLaws.{change-next, change-room, lent-more, lent_with-few}
use Rattle.ossl_calls.proofs.plain.PlainRegistry.put.Goals as goal

pub apply_change-requires : goal.apply_change-requires
apply_change-requires g c =
    let inside = c.self.inside in
    let facts = map g.P.Provider.facts inside.boxes.items in
    let fixed : Fixed = record { facts = facts; contexts = inside.contexts; opened = inside.opened.items } in
    let sheets = map g.P.Provider.sheet inside.boxes.items in
    let h = c.self.invariant.0 in
    let s = inside.state in
    let there : IsChangeable (state_after fixed inside.history.items) c.args.change = rw (← c.self.view_is) at c.requires.there in
    rw h.is_after there

pub record-requires-clause-number : goal.record-requires-clause-number
record-requires-clause-number g c =
    let inside = c.self.inside in
    let facts = map g.P.Provider.facts inside.boxes.items in
    let fixed : Fixed = record { facts = facts; contexts = inside.contexts; opened = inside.opened.items } in
    let sheets = map g.P.Provider.sheet inside.boxes.items in
    let h = c.self.invariant.0 in
    let s = inside.state in
    let next = kept-next fixed sheets s inside.history.items h in
    rw (c.in_ok-apply_change.ensures.ok, change-next s c.args.change) (omega (arith, next, inside.history.ok.0, inside.history.ok.1, inside.history.small))

pub invariant_of-self-2 : goal.invariant_of-self-2
invariant_of-self-2 g c =
    let inside = c.self.inside in
    let facts = map g.P.Provider.facts inside.boxes.items in
    let fixed : Fixed = record { facts = facts; contexts = inside.contexts; opened = inside.opened.items } in
    let sheets = map g.P.Provider.sheet inside.boxes.items in
    let h = c.self.invariant.0 in
    let s = inside.state in
    let e : Entry Call Reply = record { caller = c.args.caller; call = c.args.call; reply = c.args.reply } in
    let next : IsNext fixed inside.history.items e = rw (← c.self.view_is) at c.requires.step in
    let past = state_after fixed inside.history.items in
    let keeps : Keeps facts past e (changed past c.args.change) = rw (← c.self.view_is) at c.requires.keeps in
    let here : Keeps facts past e (changed s c.args.change) = rw h.is_after keeps in
    let kept = IsKept-keeps fixed sheets s inside.history.items e h next (changed s c.args.change) here in
    let few = lent-more inside.history.items e inside.lent c.self.invariant.1 in
    let room = change-room s c.args.change in (
      rw (c.record.ensures.items, c.in_ok-reserve_room.ensures.items, c.record.ensures.state, c.in_ok-apply_change.ensures.ok) kept,
      rw (c.record.ensures.items, c.in_ok-reserve_room.ensures.items, c.record.ensures.lent) few,
      rw (c.record.ensures.state, c.in_ok-apply_change.ensures.ok)
          (omega (arith, room, lent_with-few c.args.reply, c.record.ensures.lent, c.record.ensures.len, c.record.ensures.capacity, c.in_ok-reserve_room.ensures.ok)),
    )
