use Rattle.std.proofs.Common.{◌≡◌, ◌<◌, IsTrue, length, map, true, false, refl, sym, ◌∙◌, arith}
use Rattle.std.specs.Prelude.{None, Some}
use Rattle.std.proofs.lemmas.Bool.{ltb-true}
use Rattle.std.proofs.lemmas.List.{length-map}
use Rattle.ossl_base.specs.declared.entry.Entry.{Entry}
use Rattle.ossl_state.specs.declared.call.Call.{Call}
use Rattle.ossl_state.specs.declared.call.Call.TheVariants.{Fetch}
use Rattle.ossl_state.specs.declared.call.Reply.{Reply}
use Rattle.ossl_state.specs.declared.call.Reply.TheVariants.{StartRefused}
use Rattle.ossl_state.specs.declared.state.Born.{Born}
use Rattle.ossl_state.specs.Best.{best_method}
use Rattle.ossl_state.specs.Boxes.{default_name}
use Rattle.ossl_state.specs.History.{Fixed, IsAllowed, IsStep, state_after}
use Rattle.ossl_state.specs.State.{lib_at}
use Rattle.ossl_state.specs.Step.{after_activation, fallback_of, fetched_of, with_fallback_used, with_method}
use Rattle.ossl_state.specs.Tokens.{entries_of}
use Rattle.ossl_calls.specs.Events.{Bears, Keeps, Refuses}
use Rattle.ossl_state.proofs.HistoryLaws.{after_activation-live, with_method-next}
use Rattle.ossl_state.proofs.MarkLaws.{mark-method}
use Rattle.ossl_state.proofs.SoundLaws.{fallback_placed}
use Rattle.ossl_calls.proofs.EventLaws.{kept-keeps, kept-next, kept-refused, kept-sound, kept-started, may_start}
use Rattle.ossl_calls.proofs.FetchLaws.{plain-next, plain-keeps, falling-next, falling-bears, falling-keeps, falling-room, falling-refused, fetched-next, refused-refuses}
use Rattle.ossl_calls.proofs.RoomLaws.{lent-more, lent_with-few, method-room}
use Rattle.ossl_calls.proofs.plain.PlainRegistry.fetch_plain.Goals as goal

pub record-requires-clause-number : goal.record-requires-clause-number
record-requires-clause-number g c =
    let inside = c.self.inside in
    let facts = map g.P.Provider.facts inside.boxes.items in
    let fixed : Fixed = record { facts = facts; contexts = inside.contexts; opened = inside.opened.items } in
    let sheets = map g.P.Provider.sheet inside.boxes.items in
    let h = c.self.invariant.0 in
    let s = inside.state in
    let past = inside.history.items in
    let l = c.args.lib in
    let op = c.args.op in
    let name = c.args.name.now in
    let query = c.args.query.now in
    let allowed : IsAllowed fixed (entries_of c.args.caller past) (Fetch l op name query) = rw (← c.self.view_is, c.requires.is) at c.requires.allowed in
    let opened : IsTrue (lib_at (state_after fixed past) l).is_open = rw (← c.self.view_is) at c.requires.open in
    let is_open : IsTrue (lib_at s l).is_open = rw h.is_after opened in
    let sound = (kept-sound fixed sheets s past h).instances in
    let within = ltb-true l inside.contexts allowed.lib in
    let founded : fallback_of facts (lib_at (state_after fixed past) l) ≡ None = rw (← c.self.view_is) at c.requires.found in
    let none : fallback_of facts (lib_at s l) ≡ None = rw h.is_after founded in
    let next = kept-next fixed sheets s past h in
    rw (c.in_ok-reply.ensures.ok, with_method-next s c.args.caller (best_method s l op name query))
    (omega (arith, next, inside.history.ok.0, inside.history.ok.1, inside.history.small))

pub invariant_of-self-2 : goal.invariant_of-self-2
invariant_of-self-2 g c =
    let inside = c.self.inside in
    let facts = map g.P.Provider.facts inside.boxes.items in
    let fixed : Fixed = record { facts = facts; contexts = inside.contexts; opened = inside.opened.items } in
    let sheets = map g.P.Provider.sheet inside.boxes.items in
    let h = c.self.invariant.0 in
    let s = inside.state in
    let past = inside.history.items in
    let l = c.args.lib in
    let op = c.args.op in
    let name = c.args.name.now in
    let query = c.args.query.now in
    let allowed : IsAllowed fixed (entries_of c.args.caller past) (Fetch l op name query) = rw (← c.self.view_is, c.requires.is) at c.requires.allowed in
    let opened : IsTrue (lib_at (state_after fixed past) l).is_open = rw (← c.self.view_is) at c.requires.open in
    let is_open : IsTrue (lib_at s l).is_open = rw h.is_after opened in
    let sound = (kept-sound fixed sheets s past h).instances in
    let within = ltb-true l inside.contexts allowed.lib in
    let founded : fallback_of facts (lib_at (state_after fixed past) l) ≡ None = rw (← c.self.view_is) at c.requires.found in
    let none : fallback_of facts (lib_at s l) ≡ None = rw h.is_after founded in
    let chosen = best_method s l op name query in
    let e : Entry Call Reply = record { caller = c.args.caller; call = c.args.call; reply = c.in_ok-reply.reply } in
    let told : c.in_ok-reply.reply ≡ fetched_of facts s.next chosen = rw c.as_slice-boxes.ensures.value at c.in_ok-reply.ensures.told in
    let step : IsStep fixed s past e = rw (c.requires.is, told) (plain-next fixed s past c.args.caller l op name query allowed is_open none chosen refl) in
    let keeps : Keeps facts s e (with_method s c.args.caller chosen) = rw (c.requires.is, told) (plain-keeps fixed s c.args.caller l op name query sound none) in
    let kept = kept-keeps fixed sheets s past e h step (with_method s c.args.caller chosen) keeps in
    let few = lent-more past e inside.lent c.self.invariant.1 in
    let room = method-room s c.args.caller chosen in (
      rw (c.record.ensures.items, c.in_ok-reserve_room.ensures.items, c.record.ensures.state, c.in_ok-reply.ensures.ok) kept,
      rw (c.record.ensures.items, c.in_ok-reserve_room.ensures.items, c.record.ensures.lent) few,
      rw (c.record.ensures.state, c.in_ok-reply.ensures.ok)
          (omega (arith, room, lent_with-few c.in_ok-reply.reply, c.record.ensures.lent, c.record.ensures.len, c.record.ensures.capacity, c.in_ok-reserve_room.ensures.ok)),
    )
