use Rattle.std.proofs.Common.{◌≡◌, ◌<◌, IsTrue, length, map, true, false, refl, sym, ◌∙◌, ap, arith}
use Rattle.std.specs.Prelude.{None, Some}
use Rattle.std.proofs.lemmas.Bool.{ltb-true}
use Rattle.std.proofs.lemmas.List.{length-map}
use Rattle.ossl_base.specs.declared.entry.Entry.{Entry}
use Rattle.ossl_state.specs.declared.call.Call.{Call}
use Rattle.ossl_state.specs.declared.call.Call.TheVariants.{Fetch}
use Rattle.ossl_state.specs.declared.call.Reply.{Reply}
use Rattle.ossl_state.specs.declared.call.Reply.TheVariants.{StartRefused}
use Rattle.ossl_state.specs.declared.state.Born.{Born}
use Rattle.ossl_state.specs.declared.state.State.{State}
use Rattle.ossl_state.specs.Best.{best_method}
use Rattle.ossl_state.specs.Boxes.{default_name}
use Rattle.ossl_state.specs.History.{Fixed, IsAllowed, IsStep, state_after}
use Rattle.ossl_state.specs.State.{lib_at}
use Rattle.ossl_state.specs.Step.{after_activation, after_fallback, fallback_of, fetched_of, with_fallback_used, with_method}
use Rattle.ossl_state.specs.Tokens.{entries_of}
use Rattle.ossl_calls.specs.Events.{Bears, Keeps, Refuses}
use Rattle.ossl_state.specs.Mark.{fallen_back}
use Rattle.ossl_state.proofs.SoundLaws.{fallback_placed}
use Rattle.ossl_calls.proofs.EventLaws.{kept-keeps, kept-next, kept-refused, kept-sound, kept-started, may_start}
use Rattle.ossl_calls.proofs.FetchLaws.{plain-next, plain-keeps, falling-next, falling-bears, falling-keeps, falling-room, falling-refused, fetched-next, refused-refuses}
use Rattle.ossl_calls.proofs.RoomLaws.{lent-more, lent_with-few, method-room}
use Rattle.ossl_calls.proofs.plain.PlainRegistry.fetch_falling.Goals as goal

pub fall_back_and_find-requires-clause-lib : goal.fall_back_and_find-requires-clause-lib
fall_back_and_find-requires-clause-lib g c =
    let inside = c.self.inside in
    let facts = map g.P.Provider.facts inside.boxes.items in
    let fixed : Fixed = record { facts = facts; contexts = inside.contexts; opened = inside.opened.items } in
    let sheets = map g.P.Provider.sheet inside.boxes.items in
    let h = c.self.invariant.0 in
    let s = inside.state in
    let past = inside.history.items in
    let l = c.args.lib in
    let op = c.args.op in
    let name = c.args.name.now in
    let query = c.args.query.now in
    let allowed : IsAllowed fixed (entries_of c.args.caller past) (Fetch l op name query) = rw (← c.self.view_is, c.requires.is) at c.requires.allowed in
    let opened : IsTrue (lib_at (state_after fixed past) l).is_open = rw (← c.self.view_is) at c.requires.open in
    let is_open : IsTrue (lib_at s l).is_open = rw h.is_after opened in
    let sound = (kept-sound fixed sheets s past h).instances in
    let within = ltb-true l inside.contexts allowed.lib in
    let k = c.args.place in
    let founded : fallback_of facts (lib_at (state_after fixed past) l) ≡ Some k = rw (← c.self.view_is) at c.requires.found in
    let found : fallback_of facts (lib_at s l) ≡ Some k = rw h.is_after founded in
    omega (arith, within, sound.contexts)

pub fall_back_and_find-requires-clause-place : goal.fall_back_and_find-requires-clause-place
fall_back_and_find-requires-clause-place g c =
    let inside = c.self.inside in
    let facts = map g.P.Provider.facts inside.boxes.items in
    let fixed : Fixed = record { facts = facts; contexts = inside.contexts; opened = inside.opened.items } in
    let sheets = map g.P.Provider.sheet inside.boxes.items in
    let h = c.self.invariant.0 in
    let s = inside.state in
    let past = inside.history.items in
    let l = c.args.lib in
    let op = c.args.op in
    let name = c.args.name.now in
    let query = c.args.query.now in
    let allowed : IsAllowed fixed (entries_of c.args.caller past) (Fetch l op name query) = rw (← c.self.view_is, c.requires.is) at c.requires.allowed in
    let opened : IsTrue (lib_at (state_after fixed past) l).is_open = rw (← c.self.view_is) at c.requires.open in
    let is_open : IsTrue (lib_at s l).is_open = rw h.is_after opened in
    let sound = (kept-sound fixed sheets s past h).instances in
    let within = ltb-true l inside.contexts allowed.lib in
    let k = c.args.place in
    let founded : fallback_of facts (lib_at (state_after fixed past) l) ≡ Some k = rw (← c.self.view_is) at c.requires.found in
    let found : fallback_of facts (lib_at s l) ≡ Some k = rw h.is_after founded in
    let placed : k < length inside.boxes.items = rw length-map at (fallback_placed facts (lib_at s l) k found) in
    rw c.as_slice-boxes.ensures.value placed

pub start_or_take_back-requires-clause-lib : goal.start_or_take_back-requires-clause-lib
start_or_take_back-requires-clause-lib g c = rw c.in_ok-mark.ensures.mark.lib c.in_ok-mark.ensures.mark.there

pub start_or_take_back-requires-clause-fresh : goal.start_or_take_back-requires-clause-fresh
start_or_take_back-requires-clause-fresh g c y =
    let inside = c.self.inside in
    let facts = map g.P.Provider.facts inside.boxes.items in
    let fixed : Fixed = record { facts = facts; contexts = inside.contexts; opened = inside.opened.items } in
    let sheets = map g.P.Provider.sheet inside.boxes.items in
    let h = c.self.invariant.0 in
    let s = inside.state in
    let past = inside.history.items in
    let l = c.args.lib in
    let op = c.args.op in
    let name = c.args.name.now in
    let query = c.args.query.now in
    let allowed : IsAllowed fixed (entries_of c.args.caller past) (Fetch l op name query) = rw (← c.self.view_is, c.requires.is) at c.requires.allowed in
    let opened : IsTrue (lib_at (state_after fixed past) l).is_open = rw (← c.self.view_is) at c.requires.open in
    let is_open : IsTrue (lib_at s l).is_open = rw h.is_after opened in
    let sound = (kept-sound fixed sheets s past h).instances in
    let within = ltb-true l inside.contexts allowed.lib in
    let k = c.args.place in
    let founded : fallback_of facts (lib_at (state_after fixed past) l) ≡ Some k = rw (← c.self.view_is) at c.requires.found in
    let found : fallback_of facts (lib_at s l) ≡ Some k = rw h.is_after founded in
    let here : k < length sheets = simp length-map (rw length-map at (fallback_placed facts (lib_at s l) k found)) in
    (may_start fixed sheets s past k h here).fresh

pub start_or_take_back-requires-clause-room : goal.start_or_take_back-requires-clause-room
start_or_take_back-requires-clause-room g c y =
    let inside = c.self.inside in
    let facts = map g.P.Provider.facts inside.boxes.items in
    let fixed : Fixed = record { facts = facts; contexts = inside.contexts; opened = inside.opened.items } in
    let sheets = map g.P.Provider.sheet inside.boxes.items in
    let h = c.self.invariant.0 in
    let s = inside.state in
    let past = inside.history.items in
    let l = c.args.lib in
    let op = c.args.op in
    let name = c.args.name.now in
    let query = c.args.query.now in
    let allowed : IsAllowed fixed (entries_of c.args.caller past) (Fetch l op name query) = rw (← c.self.view_is, c.requires.is) at c.requires.allowed in
    let opened : IsTrue (lib_at (state_after fixed past) l).is_open = rw (← c.self.view_is) at c.requires.open in
    let is_open : IsTrue (lib_at s l).is_open = rw h.is_after opened in
    let sound = (kept-sound fixed sheets s past h).instances in
    let within = ltb-true l inside.contexts allowed.lib in
    let k = c.args.place in
    let founded : fallback_of facts (lib_at (state_after fixed past) l) ≡ Some k = rw (← c.self.view_is) at c.requires.found in
    let found : fallback_of facts (lib_at s l) ≡ Some k = rw h.is_after founded in
    let here : k < length sheets = simp length-map (rw length-map at (fallback_placed facts (lib_at s l) k found)) in
    let may = may_start fixed sheets s past k h here in
    omega (arith, may.room)

pub start_or_take_back-requires-clause-few : goal.start_or_take_back-requires-clause-few
start_or_take_back-requires-clause-few g c y =
    let inside = c.self.inside in
    let facts = map g.P.Provider.facts inside.boxes.items in
    let fixed : Fixed = record { facts = facts; contexts = inside.contexts; opened = inside.opened.items } in
    let sheets = map g.P.Provider.sheet inside.boxes.items in
    let h = c.self.invariant.0 in
    let s = inside.state in
    let past = inside.history.items in
    let l = c.args.lib in
    let op = c.args.op in
    let name = c.args.name.now in
    let query = c.args.query.now in
    let allowed : IsAllowed fixed (entries_of c.args.caller past) (Fetch l op name query) = rw (← c.self.view_is, c.requires.is) at c.requires.allowed in
    let opened : IsTrue (lib_at (state_after fixed past) l).is_open = rw (← c.self.view_is) at c.requires.open in
    let is_open : IsTrue (lib_at s l).is_open = rw h.is_after opened in
    let sound = (kept-sound fixed sheets s past h).instances in
    let within = ltb-true l inside.contexts allowed.lib in
    let k = c.args.place in
    let founded : fallback_of facts (lib_at (state_after fixed past) l) ≡ Some k = rw (← c.self.view_is) at c.requires.found in
    let found : fallback_of facts (lib_at s l) ≡ Some k = rw h.is_after founded in
    let here : k < length sheets = simp length-map (rw length-map at (fallback_placed facts (lib_at s l) k found)) in
    let may = may_start fixed sheets s past k h here in
    let next = kept-next fixed sheets s past h in
    omega (arith, may.few, next, inside.history.ok.0, inside.history.ok.1, inside.history.small)

pub record-requires-clause-number : goal.record-requires-clause-number
record-requires-clause-number g c =
    let inside = c.self.inside in
    let facts = map g.P.Provider.facts inside.boxes.items in
    let fixed : Fixed = record { facts = facts; contexts = inside.contexts; opened = inside.opened.items } in
    let sheets = map g.P.Provider.sheet inside.boxes.items in
    let h = c.self.invariant.0 in
    let s = inside.state in
    let past = inside.history.items in
    let l = c.args.lib in
    let op = c.args.op in
    let name = c.args.name.now in
    let query = c.args.query.now in
    let allowed : IsAllowed fixed (entries_of c.args.caller past) (Fetch l op name query) = rw (← c.self.view_is, c.requires.is) at c.requires.allowed in
    let opened : IsTrue (lib_at (state_after fixed past) l).is_open = rw (← c.self.view_is) at c.requires.open in
    let is_open : IsTrue (lib_at s l).is_open = rw h.is_after opened in
    let sound = (kept-sound fixed sheets s past h).instances in
    let within = ltb-true l inside.contexts allowed.lib in
    let k = c.args.place in
    let founded : fallback_of facts (lib_at (state_after fixed past) l) ≡ Some k = rw (← c.self.view_is) at c.requires.found in
    let found : fallback_of facts (lib_at s l) ≡ Some k = rw h.is_after founded in
    let ok : c.fall_back_and_find.new.state ≡ with_method (fallen_back facts s l k) c.args.caller (best_method (fallen_back facts s l k) l op name query) =
    rw c.as_slice-boxes.ensures.value at c.in_ok-mark.ensures.ok in
    let chosen = best_method (fallen_back facts s l k) l op name query in
    let next = kept-next fixed sheets s past h in
    let number = falling-next fixed s c.args.caller l k chosen in
    rw (c.in-Ok.ensures.stays, ok, number) (omega (arith, next, inside.history.ok.0, inside.history.ok.1, inside.history.small))

pub record-requires-in-Err-clause-number : goal.record-requires-in-Err-clause-number
record-requires-in-Err-clause-number g c =
    let inside = c.self.inside in
    let facts = map g.P.Provider.facts inside.boxes.items in
    let fixed : Fixed = record { facts = facts; contexts = inside.contexts; opened = inside.opened.items } in
    let sheets = map g.P.Provider.sheet inside.boxes.items in
    let h = c.self.invariant.0 in
    let s = inside.state in
    let past = inside.history.items in
    let l = c.args.lib in
    let op = c.args.op in
    let name = c.args.name.now in
    let query = c.args.query.now in
    let allowed : IsAllowed fixed (entries_of c.args.caller past) (Fetch l op name query) = rw (← c.self.view_is, c.requires.is) at c.requires.allowed in
    let opened : IsTrue (lib_at (state_after fixed past) l).is_open = rw (← c.self.view_is) at c.requires.open in
    let is_open : IsTrue (lib_at s l).is_open = rw h.is_after opened in
    let sound = (kept-sound fixed sheets s past h).instances in
    let within = ltb-true l inside.contexts allowed.lib in
    let k = c.args.place in
    let founded : fallback_of facts (lib_at (state_after fixed past) l) ≡ Some k = rw (← c.self.view_is) at c.requires.found in
    let found : fallback_of facts (lib_at s l) ≡ Some k = rw h.is_after founded in
    let back : c.start_or_take_back.new.state ≡ s = c.in-Err.ensures.back ∙ c.in_ok-mark.ensures.mark.back in
    let next = kept-next fixed sheets s past h in
    rw back (omega (arith, next, inside.history.ok.0, inside.history.ok.1, inside.history.small))

pub invariant_of-self-in-Ok-2 : goal.invariant_of-self-in-Ok-2
invariant_of-self-in-Ok-2 g c =
    let inside = c.self.inside in
    let facts = map g.P.Provider.facts inside.boxes.items in
    let fixed : Fixed = record { facts = facts; contexts = inside.contexts; opened = inside.opened.items } in
    let sheets = map g.P.Provider.sheet inside.boxes.items in
    let h = c.self.invariant.0 in
    let s = inside.state in
    let past = inside.history.items in
    let l = c.args.lib in
    let op = c.args.op in
    let name = c.args.name.now in
    let query = c.args.query.now in
    let allowed : IsAllowed fixed (entries_of c.args.caller past) (Fetch l op name query) = rw (← c.self.view_is, c.requires.is) at c.requires.allowed in
    let opened : IsTrue (lib_at (state_after fixed past) l).is_open = rw (← c.self.view_is) at c.requires.open in
    let is_open : IsTrue (lib_at s l).is_open = rw h.is_after opened in
    let sound = (kept-sound fixed sheets s past h).instances in
    let within = ltb-true l inside.contexts allowed.lib in
    let k = c.args.place in
    let founded : fallback_of facts (lib_at (state_after fixed past) l) ≡ Some k = rw (← c.self.view_is) at c.requires.found in
    let found : fallback_of facts (lib_at s l) ≡ Some k = rw h.is_after founded in
    let ok : c.fall_back_and_find.new.state ≡ with_method (fallen_back facts s l k) c.args.caller (best_method (fallen_back facts s l k) l op name query) =
    rw c.as_slice-boxes.ensures.value at c.in_ok-mark.ensures.ok in
    let left = with_fallback_used (after_activation facts s l k) l in
    let chosen = best_method left l op name query in
    let last = with_method left c.args.caller chosen in
    let e : Entry Call Reply = record { caller = c.args.caller; call = c.args.call; reply = c.in_ok-mark.accepted } in
    let told : c.in_ok-mark.accepted ≡ fetched_of facts s.next chosen = rw c.as_slice-boxes.ensures.value at c.in_ok-mark.ensures.told in
    let falls : left ≡ after_fallback facts s l = sym (rw found refl) in
    let best_is : best_method (after_fallback facts s l) l op name query ≡ chosen = sym (ap (λ (f : State). best_method f l op name query) falls) in
    let step : IsStep fixed s past e = rw (c.requires.is, told) (fetched-next fixed s past c.args.caller l op name query allowed is_open chosen best_is) in
    let bears : c.needs_start-starts.result ≡ true → (b : Born) × (b.place ≡ k) × Bears facts s e last b =
    λ y. rw (c.requires.is, told) (falling-bears fixed s past c.args.caller l op name query k left chosen found sound within refl refl (sym c.needs_start-starts.ensures ∙ y)) in
    let keeps : c.needs_start-starts.result ≡ false → Keeps facts s e last =
    λ n. rw (c.requires.is, told) (falling-keeps fixed s past c.args.caller l op name query k left chosen found sound within refl refl (sym c.needs_start-starts.ensures ∙ n)) in
    let same : length facts ≡ length sheets = simp length-map in
    let new_sheets = map g.P.Provider.sheet c.start_or_take_back.new.boxes.items in
    let kept = kept-started fixed sheets s past e h step c.needs_start-starts.result new_sheets last k bears keeps same c.in-Ok.ensures.started in
    let few = lent-more past e inside.lent c.self.invariant.1 in
    let room = falling-room fixed s past c.args.caller l op name query k left chosen found sound within refl refl in (
      rw (c.start_or_take_back.ensures.facts, c.record.ensures.items, c.in_ok-reserve_room.ensures.items, c.record.ensures.state, c.in-Ok.ensures.stays, ok) kept,
      rw (c.record.ensures.items, c.in_ok-reserve_room.ensures.items, c.record.ensures.lent) few,
      rw (c.record.ensures.state, c.in-Ok.ensures.stays, ok)
          (omega (arith, room, lent_with-few c.in_ok-mark.accepted, c.record.ensures.lent, c.record.ensures.len, c.record.ensures.capacity, c.in_ok-reserve_room.ensures.ok)),
    )

pub invariant_of-self-in-Err-3 : goal.invariant_of-self-in-Err-3
invariant_of-self-in-Err-3 g c =
    let inside = c.self.inside in
    let facts = map g.P.Provider.facts inside.boxes.items in
    let fixed : Fixed = record { facts = facts; contexts = inside.contexts; opened = inside.opened.items } in
    let sheets = map g.P.Provider.sheet inside.boxes.items in
    let h = c.self.invariant.0 in
    let s = inside.state in
    let past = inside.history.items in
    let l = c.args.lib in
    let op = c.args.op in
    let name = c.args.name.now in
    let query = c.args.query.now in
    let allowed : IsAllowed fixed (entries_of c.args.caller past) (Fetch l op name query) = rw (← c.self.view_is, c.requires.is) at c.requires.allowed in
    let opened : IsTrue (lib_at (state_after fixed past) l).is_open = rw (← c.self.view_is) at c.requires.open in
    let is_open : IsTrue (lib_at s l).is_open = rw h.is_after opened in
    let sound = (kept-sound fixed sheets s past h).instances in
    let within = ltb-true l inside.contexts allowed.lib in
    let k = c.args.place in
    let founded : fallback_of facts (lib_at (state_after fixed past) l) ≡ Some k = rw (← c.self.view_is) at c.requires.found in
    let found : fallback_of facts (lib_at s l) ≡ Some k = rw h.is_after founded in
    let named : c.of-provider.result ≡ default_name = c.of-provider.ensures.bytes ∙ c.in_ok-from_slice.ensures.items in
    let e : Entry Call Reply = record { caller = c.args.caller; call = c.args.call; reply = StartRefused c.of-provider.result } in
    let needs = sym c.needs_start-starts.ensures ∙ c.in-Err.ensures.asked in
    let left = with_fallback_used (after_activation facts s l k) l in
    let chosen = best_method left l op name query in
    let step : IsStep fixed s past e = rw (c.requires.is, named) (falling-refused fixed s past c.args.caller l op name query k left chosen found sound within refl refl allowed is_open needs) in
    let cause : Refuses facts s e k = rw (c.requires.is, named) (refused-refuses facts s c.args.caller l op name query k h.names found) in
    let here : k < length sheets = simp length-map (rw length-map at (fallback_placed facts (lib_at s l) k found)) in
    let same : length facts ≡ length sheets = simp length-map in
    let new_sheets = map g.P.Provider.sheet c.start_or_take_back.new.boxes.items in
    let kept = kept-refused fixed sheets s past e h step new_sheets k cause same here c.in-Err.ensures.refused in
    let back : c.start_or_take_back.new.state ≡ s = c.in-Err.ensures.back ∙ c.in_ok-mark.ensures.mark.back in
    let few = lent-more past e inside.lent c.self.invariant.1 in (
      rw (c.start_or_take_back.ensures.facts, c.record-in-Err.ensures.items, c.in_ok-reserve_room.ensures.items, c.record-in-Err.ensures.state, back) kept,
      rw (c.record-in-Err.ensures.items, c.in_ok-reserve_room.ensures.items, c.record-in-Err.ensures.lent) few,
      rw (c.record-in-Err.ensures.state, back)
          (omega (arith, lent_with-few e.reply, c.record-in-Err.ensures.lent, c.record-in-Err.ensures.len, c.record-in-Err.ensures.capacity, c.in_ok-reserve_room.ensures.ok)),
    )

-- the same, once the reply that was not given is dropped
pub invariant_of-self-in-Err-2 : goal.invariant_of-self-in-Err-2
invariant_of-self-in-Err-2 g c =
    let inside = c.self.inside in
    let facts = map g.P.Provider.facts inside.boxes.items in
    let fixed : Fixed = record { facts = facts; contexts = inside.contexts; opened = inside.opened.items } in
    let sheets = map g.P.Provider.sheet inside.boxes.items in
    let h = c.self.invariant.0 in
    let s = inside.state in
    let past = inside.history.items in
    let l = c.args.lib in
    let op = c.args.op in
    let name = c.args.name.now in
    let query = c.args.query.now in
    let allowed : IsAllowed fixed (entries_of c.args.caller past) (Fetch l op name query) = rw (← c.self.view_is, c.requires.is) at c.requires.allowed in
    let opened : IsTrue (lib_at (state_after fixed past) l).is_open = rw (← c.self.view_is) at c.requires.open in
    let is_open : IsTrue (lib_at s l).is_open = rw h.is_after opened in
    let sound = (kept-sound fixed sheets s past h).instances in
    let within = ltb-true l inside.contexts allowed.lib in
    let k = c.args.place in
    let founded : fallback_of facts (lib_at (state_after fixed past) l) ≡ Some k = rw (← c.self.view_is) at c.requires.found in
    let found : fallback_of facts (lib_at s l) ≡ Some k = rw h.is_after founded in
    let named : c.of-provider.result ≡ default_name = c.of-provider.ensures.bytes ∙ c.in_ok-from_slice.ensures.items in
    let e : Entry Call Reply = record { caller = c.args.caller; call = c.args.call; reply = StartRefused c.of-provider.result } in
    let needs = sym c.needs_start-starts.ensures ∙ c.in-Err.ensures.asked in
    let left = with_fallback_used (after_activation facts s l k) l in
    let chosen = best_method left l op name query in
    let step : IsStep fixed s past e = rw (c.requires.is, named) (falling-refused fixed s past c.args.caller l op name query k left chosen found sound within refl refl allowed is_open needs) in
    let cause : Refuses facts s e k = rw (c.requires.is, named) (refused-refuses facts s c.args.caller l op name query k h.names found) in
    let here : k < length sheets = simp length-map (rw length-map at (fallback_placed facts (lib_at s l) k found)) in
    let same : length facts ≡ length sheets = simp length-map in
    let new_sheets = map g.P.Provider.sheet c.start_or_take_back.new.boxes.items in
    let kept = kept-refused fixed sheets s past e h step new_sheets k cause same here c.in-Err.ensures.refused in
    let back : c.start_or_take_back.new.state ≡ s = c.in-Err.ensures.back ∙ c.in_ok-mark.ensures.mark.back in
    let few = lent-more past e inside.lent c.self.invariant.1 in (
      rw (c.start_or_take_back.ensures.facts, c.record-in-Err.ensures.items, c.in_ok-reserve_room.ensures.items, c.record-in-Err.ensures.state, back) kept,
      rw (c.record-in-Err.ensures.items, c.in_ok-reserve_room.ensures.items, c.record-in-Err.ensures.lent) few,
      rw (c.record-in-Err.ensures.state, back)
          (omega (arith, lent_with-few e.reply, c.record-in-Err.ensures.lent, c.record-in-Err.ensures.len, c.record-in-Err.ensures.capacity, c.in_ok-reserve_room.ensures.ok)),
    )

-- the same, once the reply that was not given is dropped
pub invariant_of-self-in-Err : goal.invariant_of-self-in-Err
invariant_of-self-in-Err g c =
    let inside = c.self.inside in
    let facts = map g.P.Provider.facts inside.boxes.items in
    let fixed : Fixed = record { facts = facts; contexts = inside.contexts; opened = inside.opened.items } in
    let sheets = map g.P.Provider.sheet inside.boxes.items in
    let h = c.self.invariant.0 in
    let s = inside.state in
    let past = inside.history.items in
    let l = c.args.lib in
    let op = c.args.op in
    let name = c.args.name.now in
    let query = c.args.query.now in
    let allowed : IsAllowed fixed (entries_of c.args.caller past) (Fetch l op name query) = rw (← c.self.view_is, c.requires.is) at c.requires.allowed in
    let opened : IsTrue (lib_at (state_after fixed past) l).is_open = rw (← c.self.view_is) at c.requires.open in
    let is_open : IsTrue (lib_at s l).is_open = rw h.is_after opened in
    let sound = (kept-sound fixed sheets s past h).instances in
    let within = ltb-true l inside.contexts allowed.lib in
    let k = c.args.place in
    let founded : fallback_of facts (lib_at (state_after fixed past) l) ≡ Some k = rw (← c.self.view_is) at c.requires.found in
    let found : fallback_of facts (lib_at s l) ≡ Some k = rw h.is_after founded in
    let named : c.of-provider.result ≡ default_name = c.of-provider.ensures.bytes ∙ c.in_ok-from_slice.ensures.items in
    let e : Entry Call Reply = record { caller = c.args.caller; call = c.args.call; reply = StartRefused c.of-provider.result } in
    let needs = sym c.needs_start-starts.ensures ∙ c.in-Err.ensures.asked in
    let left = with_fallback_used (after_activation facts s l k) l in
    let chosen = best_method left l op name query in
    let step : IsStep fixed s past e = rw (c.requires.is, named) (falling-refused fixed s past c.args.caller l op name query k left chosen found sound within refl refl allowed is_open needs) in
    let cause : Refuses facts s e k = rw (c.requires.is, named) (refused-refuses facts s c.args.caller l op name query k h.names found) in
    let here : k < length sheets = simp length-map (rw length-map at (fallback_placed facts (lib_at s l) k found)) in
    let same : length facts ≡ length sheets = simp length-map in
    let new_sheets = map g.P.Provider.sheet c.start_or_take_back.new.boxes.items in
    let kept = kept-refused fixed sheets s past e h step new_sheets k cause same here c.in-Err.ensures.refused in
    let back : c.start_or_take_back.new.state ≡ s = c.in-Err.ensures.back ∙ c.in_ok-mark.ensures.mark.back in
    let few = lent-more past e inside.lent c.self.invariant.1 in (
      rw (c.start_or_take_back.ensures.facts, c.record-in-Err.ensures.items, c.in_ok-reserve_room.ensures.items, c.record-in-Err.ensures.state, back) kept,
      rw (c.record-in-Err.ensures.items, c.in_ok-reserve_room.ensures.items, c.record-in-Err.ensures.lent) few,
      rw (c.record-in-Err.ensures.state, back)
          (omega (arith, lent_with-few e.reply, c.record-in-Err.ensures.lent, c.record-in-Err.ensures.len, c.record-in-Err.ensures.capacity, c.in_ok-reserve_room.ensures.ok)),
    )
