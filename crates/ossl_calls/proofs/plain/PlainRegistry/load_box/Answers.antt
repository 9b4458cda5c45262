use Rattle.std.proofs.Common.{◌≡◌, ◌<◌, IsTrue, length, map, true, false, sym, ◌∙◌, arith}
use Rattle.std.specs.Prelude.{Some}
use Rattle.std.proofs.lemmas.Bool.{ltb-true}
use Rattle.std.proofs.lemmas.List.{length-map}
use Rattle.ossl_base.specs.declared.entry.Entry.{Entry}
use Rattle.ossl_state.specs.declared.call.Call.{Call}
use Rattle.ossl_state.specs.declared.call.Call.TheVariants.{Load}
use Rattle.ossl_state.specs.declared.call.Reply.{Reply}
use Rattle.ossl_state.specs.declared.call.Reply.TheVariants.{StartRefused}
use Rattle.ossl_state.specs.declared.state.Born.{Born}
use Rattle.ossl_calls.specs.Events.{Bears, Keeps, Refuses}
use Rattle.ossl_state.specs.Boxes.{place_of}
use Rattle.ossl_state.specs.History.{Fixed, IsAllowed, IsStep, state_after}
use Rattle.ossl_state.specs.State.{lib_at}
use Rattle.ossl_state.specs.Step.{after_load_of, loaded_reply}
use Rattle.ossl_state.specs.Tokens.{entries_of}
use Rattle.ossl_state.proofs.HistoryLaws.{after_activation-live}
use Rattle.ossl_state.proofs.SoundLaws.{box_placed}
use Rattle.ossl_calls.proofs.EventLaws.{kept-next, kept-refused, kept-sound, kept-started, may_start}
use Rattle.ossl_calls.proofs.LoadLaws.{loaded-next, loaded-bears, loaded-keeps, load-refused, load-refuses}
use Rattle.ossl_calls.proofs.RoomLaws.{lent-more, lent_with-few, load-room}
use Rattle.ossl_calls.proofs.plain.PlainRegistry.load_box.Goals as goal

pub load-requires-clause-lib : goal.load-requires-clause-lib
load-requires-clause-lib g c =
    let inside = c.self.inside in
    let facts = map g.P.Provider.facts inside.boxes.items in
    let fixed : Fixed = record { facts = facts; contexts = inside.contexts; opened = inside.opened.items } in
    let sheets = map g.P.Provider.sheet inside.boxes.items in
    let h = c.self.invariant.0 in
    let s = inside.state in
    let past = inside.history.items in
    let l = c.args.lib in
    let name = c.args.name.now in
    let k = c.args.place in
    let allowed : IsAllowed fixed (entries_of c.args.caller past) (Load l name c.args.retain) = rw (← c.self.view_is, c.requires.is) at c.requires.allowed in
    let opened : IsTrue (lib_at (state_after fixed past) l).is_open = rw (← c.self.view_is) at c.requires.open in
    let is_open : IsTrue (lib_at s l).is_open = rw h.is_after opened in
    let found : place_of name facts ≡ Some k = rw (← c.self.view_is) at c.requires.found in
    let sound = (kept-sound fixed sheets s past h).instances in
    let within = ltb-true l inside.contexts allowed.lib in
    omega (arith, within, sound.contexts)

pub load-requires-clause-place : goal.load-requires-clause-place
load-requires-clause-place g c =
    let inside = c.self.inside in
    let facts = map g.P.Provider.facts inside.boxes.items in
    let fixed : Fixed = record { facts = facts; contexts = inside.contexts; opened = inside.opened.items } in
    let sheets = map g.P.Provider.sheet inside.boxes.items in
    let h = c.self.invariant.0 in
    let s = inside.state in
    let past = inside.history.items in
    let l = c.args.lib in
    let name = c.args.name.now in
    let k = c.args.place in
    let allowed : IsAllowed fixed (entries_of c.args.caller past) (Load l name c.args.retain) = rw (← c.self.view_is, c.requires.is) at c.requires.allowed in
    let opened : IsTrue (lib_at (state_after fixed past) l).is_open = rw (← c.self.view_is) at c.requires.open in
    let is_open : IsTrue (lib_at s l).is_open = rw h.is_after opened in
    let found : place_of name facts ≡ Some k = rw (← c.self.view_is) at c.requires.found in
    let sound = (kept-sound fixed sheets s past h).instances in
    let within = ltb-true l inside.contexts allowed.lib in
    let placed : k < length inside.boxes.items = rw length-map at (box_placed facts name k found) in
    rw c.as_slice-boxes.ensures.value placed

pub start_or_take_back-requires-clause-fresh : goal.start_or_take_back-requires-clause-fresh
start_or_take_back-requires-clause-fresh g c y =
    let inside = c.self.inside in
    let facts = map g.P.Provider.facts inside.boxes.items in
    let fixed : Fixed = record { facts = facts; contexts = inside.contexts; opened = inside.opened.items } in
    let sheets = map g.P.Provider.sheet inside.boxes.items in
    let h = c.self.invariant.0 in
    let s = inside.state in
    let past = inside.history.items in
    let l = c.args.lib in
    let name = c.args.name.now in
    let k = c.args.place in
    let allowed : IsAllowed fixed (entries_of c.args.caller past) (Load l name c.args.retain) = rw (← c.self.view_is, c.requires.is) at c.requires.allowed in
    let opened : IsTrue (lib_at (state_after fixed past) l).is_open = rw (← c.self.view_is) at c.requires.open in
    let is_open : IsTrue (lib_at s l).is_open = rw h.is_after opened in
    let found : place_of name facts ≡ Some k = rw (← c.self.view_is) at c.requires.found in
    let sound = (kept-sound fixed sheets s past h).instances in
    let within = ltb-true l inside.contexts allowed.lib in
    let here : k < length sheets = simp length-map (rw length-map at (box_placed facts name k found)) in
    (may_start fixed sheets s past k h here).fresh

pub start_or_take_back-requires-clause-room : goal.start_or_take_back-requires-clause-room
start_or_take_back-requires-clause-room g c y =
    let inside = c.self.inside in
    let facts = map g.P.Provider.facts inside.boxes.items in
    let fixed : Fixed = record { facts = facts; contexts = inside.contexts; opened = inside.opened.items } in
    let sheets = map g.P.Provider.sheet inside.boxes.items in
    let h = c.self.invariant.0 in
    let s = inside.state in
    let past = inside.history.items in
    let l = c.args.lib in
    let name = c.args.name.now in
    let k = c.args.place in
    let allowed : IsAllowed fixed (entries_of c.args.caller past) (Load l name c.args.retain) = rw (← c.self.view_is, c.requires.is) at c.requires.allowed in
    let opened : IsTrue (lib_at (state_after fixed past) l).is_open = rw (← c.self.view_is) at c.requires.open in
    let is_open : IsTrue (lib_at s l).is_open = rw h.is_after opened in
    let found : place_of name facts ≡ Some k = rw (← c.self.view_is) at c.requires.found in
    let sound = (kept-sound fixed sheets s past h).instances in
    let within = ltb-true l inside.contexts allowed.lib in
    let here : k < length sheets = simp length-map (rw length-map at (box_placed facts name k found)) in
    let may = may_start fixed sheets s past k h here in
    omega (arith, may.room)

pub start_or_take_back-requires-clause-few : goal.start_or_take_back-requires-clause-few
start_or_take_back-requires-clause-few g c y =
    let inside = c.self.inside in
    let facts = map g.P.Provider.facts inside.boxes.items in
    let fixed : Fixed = record { facts = facts; contexts = inside.contexts; opened = inside.opened.items } in
    let sheets = map g.P.Provider.sheet inside.boxes.items in
    let h = c.self.invariant.0 in
    let s = inside.state in
    let past = inside.history.items in
    let l = c.args.lib in
    let name = c.args.name.now in
    let k = c.args.place in
    let allowed : IsAllowed fixed (entries_of c.args.caller past) (Load l name c.args.retain) = rw (← c.self.view_is, c.requires.is) at c.requires.allowed in
    let opened : IsTrue (lib_at (state_after fixed past) l).is_open = rw (← c.self.view_is) at c.requires.open in
    let is_open : IsTrue (lib_at s l).is_open = rw h.is_after opened in
    let found : place_of name facts ≡ Some k = rw (← c.self.view_is) at c.requires.found in
    let sound = (kept-sound fixed sheets s past h).instances in
    let within = ltb-true l inside.contexts allowed.lib in
    let here : k < length sheets = simp length-map (rw length-map at (box_placed facts name k found)) in
    let may = may_start fixed sheets s past k h here in
    let next = kept-next fixed sheets s past h in
    omega (arith, may.few, next, inside.history.ok.0, inside.history.ok.1, inside.history.small)

pub start_or_take_back-requires-clause-lib : goal.start_or_take_back-requires-clause-lib
start_or_take_back-requires-clause-lib g c =
    rw c.in_ok-mark.ensures.mark.lib c.in_ok-mark.ensures.mark.there

pub record-requires-clause-number : goal.record-requires-clause-number
record-requires-clause-number g c =
    let inside = c.self.inside in
    let facts = map g.P.Provider.facts inside.boxes.items in
    let fixed : Fixed = record { facts = facts; contexts = inside.contexts; opened = inside.opened.items } in
    let sheets = map g.P.Provider.sheet inside.boxes.items in
    let h = c.self.invariant.0 in
    let s = inside.state in
    let past = inside.history.items in
    let l = c.args.lib in
    let name = c.args.name.now in
    let k = c.args.place in
    let allowed : IsAllowed fixed (entries_of c.args.caller past) (Load l name c.args.retain) = rw (← c.self.view_is, c.requires.is) at c.requires.allowed in
    let opened : IsTrue (lib_at (state_after fixed past) l).is_open = rw (← c.self.view_is) at c.requires.open in
    let is_open : IsTrue (lib_at s l).is_open = rw h.is_after opened in
    let found : place_of name facts ≡ Some k = rw (← c.self.view_is) at c.requires.found in
    let sound = (kept-sound fixed sheets s past h).instances in
    let within = ltb-true l inside.contexts allowed.lib in
    let ok : c.load.new.state ≡ after_load_of facts s c.args.caller l c.args.retain k = rw c.as_slice-boxes.ensures.value at c.in_ok-mark.ensures.ok in
    let next = kept-next fixed sheets s past h in
    rw (c.in-Ok.ensures.stays, ok, (after_activation-live facts s l k).1) (omega (arith, next, inside.history.ok.0, inside.history.ok.1, inside.history.small))

pub record-requires-in-Err-clause-number : goal.record-requires-in-Err-clause-number
record-requires-in-Err-clause-number g c =
    let inside = c.self.inside in
    let facts = map g.P.Provider.facts inside.boxes.items in
    let fixed : Fixed = record { facts = facts; contexts = inside.contexts; opened = inside.opened.items } in
    let sheets = map g.P.Provider.sheet inside.boxes.items in
    let h = c.self.invariant.0 in
    let s = inside.state in
    let past = inside.history.items in
    let l = c.args.lib in
    let name = c.args.name.now in
    let k = c.args.place in
    let allowed : IsAllowed fixed (entries_of c.args.caller past) (Load l name c.args.retain) = rw (← c.self.view_is, c.requires.is) at c.requires.allowed in
    let opened : IsTrue (lib_at (state_after fixed past) l).is_open = rw (← c.self.view_is) at c.requires.open in
    let is_open : IsTrue (lib_at s l).is_open = rw h.is_after opened in
    let found : place_of name facts ≡ Some k = rw (← c.self.view_is) at c.requires.found in
    let sound = (kept-sound fixed sheets s past h).instances in
    let within = ltb-true l inside.contexts allowed.lib in
    let back : c.start_or_take_back.new.state ≡ s = c.in-Err.ensures.back ∙ c.in_ok-mark.ensures.mark.back in
    let next = kept-next fixed sheets s past h in
    rw back (omega (arith, next, inside.history.ok.0, inside.history.ok.1, inside.history.small))

pub invariant_of-self-in-Ok-2 : goal.invariant_of-self-in-Ok-2
invariant_of-self-in-Ok-2 g c =
    let inside = c.self.inside in
    let facts = map g.P.Provider.facts inside.boxes.items in
    let fixed : Fixed = record { facts = facts; contexts = inside.contexts; opened = inside.opened.items } in
    let sheets = map g.P.Provider.sheet inside.boxes.items in
    let h = c.self.invariant.0 in
    let s = inside.state in
    let past = inside.history.items in
    let l = c.args.lib in
    let name = c.args.name.now in
    let k = c.args.place in
    let allowed : IsAllowed fixed (entries_of c.args.caller past) (Load l name c.args.retain) = rw (← c.self.view_is, c.requires.is) at c.requires.allowed in
    let opened : IsTrue (lib_at (state_after fixed past) l).is_open = rw (← c.self.view_is) at c.requires.open in
    let is_open : IsTrue (lib_at s l).is_open = rw h.is_after opened in
    let found : place_of name facts ≡ Some k = rw (← c.self.view_is) at c.requires.found in
    let sound = (kept-sound fixed sheets s past h).instances in
    let within = ltb-true l inside.contexts allowed.lib in
    let ok : c.load.new.state ≡ after_load_of facts s c.args.caller l c.args.retain k = rw c.as_slice-boxes.ensures.value at c.in_ok-mark.ensures.ok in
    let e : Entry Call Reply = record { caller = c.args.caller; call = c.args.call; reply = c.reply_of_load-accepted.result } in
    let left = after_load_of facts s c.args.caller l c.args.retain k in
    let answered = loaded_reply left s.next l k in
    let told : c.reply_of_load-accepted.result ≡ answered = rw ok at c.reply_of_load-accepted.ensures in
    let step : IsStep fixed s past e = rw (c.requires.is, told) (loaded-next fixed s past c.args.caller l name c.args.retain k found sound within allowed is_open) in
    let bears : c.needs_start-starts.result ≡ true → (b : Born) × (b.place ≡ k) × Bears facts s e left b =
    λ y. rw (c.requires.is, told) (loaded-bears fixed s past c.args.caller l name c.args.retain k found sound within (sym c.needs_start-starts.ensures ∙ y)) in
    let keeps : c.needs_start-starts.result ≡ false → Keeps facts s e left =
    λ n. rw (c.requires.is, told) (loaded-keeps fixed s past c.args.caller l name c.args.retain k found sound within (sym c.needs_start-starts.ensures ∙ n)) in
    let same : length facts ≡ length sheets = simp length-map in
    let new_sheets = map g.P.Provider.sheet c.start_or_take_back.new.boxes.items in
    let kept = kept-started fixed sheets s past e h step c.needs_start-starts.result new_sheets left k bears keeps same c.in-Ok.ensures.started in
    let few = lent-more past e inside.lent c.self.invariant.1 in
    let room = load-room facts s c.args.caller l c.args.retain k in (
      rw (c.start_or_take_back.ensures.facts, c.record.ensures.items, c.in_ok-reserve_room.ensures.items, c.record.ensures.state, c.in-Ok.ensures.stays, ok) kept,
      rw (c.record.ensures.items, c.in_ok-reserve_room.ensures.items, c.record.ensures.lent) few,
      rw (c.record.ensures.state, c.in-Ok.ensures.stays, ok)
          (omega (arith, room, lent_with-few c.reply_of_load-accepted.result, c.record.ensures.lent, c.record.ensures.len, c.record.ensures.capacity, c.in_ok-reserve_room.ensures.ok)),
    )

pub invariant_of-self-in-Err-3 : goal.invariant_of-self-in-Err-3
invariant_of-self-in-Err-3 g c =
    let inside = c.self.inside in
    let facts = map g.P.Provider.facts inside.boxes.items in
    let fixed : Fixed = record { facts = facts; contexts = inside.contexts; opened = inside.opened.items } in
    let sheets = map g.P.Provider.sheet inside.boxes.items in
    let h = c.self.invariant.0 in
    let s = inside.state in
    let past = inside.history.items in
    let l = c.args.lib in
    let name = c.args.name.now in
    let k = c.args.place in
    let allowed : IsAllowed fixed (entries_of c.args.caller past) (Load l name c.args.retain) = rw (← c.self.view_is, c.requires.is) at c.requires.allowed in
    let opened : IsTrue (lib_at (state_after fixed past) l).is_open = rw (← c.self.view_is) at c.requires.open in
    let is_open : IsTrue (lib_at s l).is_open = rw h.is_after opened in
    let found : place_of name facts ≡ Some k = rw (← c.self.view_is) at c.requires.found in
    let sound = (kept-sound fixed sheets s past h).instances in
    let within = ltb-true l inside.contexts allowed.lib in
    let refused = StartRefused name in
    let e : Entry Call Reply = record { caller = c.args.caller; call = c.args.call; reply = StartRefused c.in_ok-provider.provider } in
    let needs = sym c.needs_start-starts.ensures ∙ c.in-Err.ensures.asked in
    let step : IsStep fixed s past e = rw (c.requires.is, c.in_ok-provider.ensures.equal) (load-refused fixed s past c.args.caller l name c.args.retain k found sound within allowed is_open needs) in
    let cause : Refuses facts s e k = rw (c.requires.is, c.in_ok-provider.ensures.equal) (load-refuses fixed s past c.args.caller l name c.args.retain k found sound within h.names) in
    let here : k < length sheets = simp length-map (rw length-map at (box_placed facts name k found)) in
    let same : length facts ≡ length sheets = simp length-map in
    let new_sheets = map g.P.Provider.sheet c.start_or_take_back.new.boxes.items in
    let kept = kept-refused fixed sheets s past e h step new_sheets k cause same here c.in-Err.ensures.refused in
    let back : c.start_or_take_back.new.state ≡ s = c.in-Err.ensures.back ∙ c.in_ok-mark.ensures.mark.back in
    let few = lent-more past e inside.lent c.self.invariant.1 in (
      rw (c.start_or_take_back.ensures.facts, c.record-in-Err.ensures.items, c.in_ok-reserve_room.ensures.items, c.record-in-Err.ensures.state, back) kept,
      rw (c.record-in-Err.ensures.items, c.in_ok-reserve_room.ensures.items, c.record-in-Err.ensures.lent) few,
      rw (c.record-in-Err.ensures.state, back)
          (omega (arith, lent_with-few refused, c.record-in-Err.ensures.lent, c.record-in-Err.ensures.len, c.record-in-Err.ensures.capacity, c.in_ok-reserve_room.ensures.ok)),
    )
