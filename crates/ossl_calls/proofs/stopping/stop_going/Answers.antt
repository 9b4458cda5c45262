use Rattle.std.proofs.Common.{◌≡◌, ◌<◌, ◌≤◌, length, map, get_or, false, sym, ◌∙◌, arith}
use Rattle.std.proofs.lemmas.Bool.{ltb-true, false_from_ne_true, both_ways}
use Rattle.std.proofs.lemmas.List.{length-map, take_all, append-nil}
use Rattle.std.proofs.Math.ListN.{drop_of_length-le}
use Rattle.ossl_state.specs.Going.{without_going}
use Rattle.ossl_state.specs.State.{is_up}
use Rattle.ossl_calls.proofs.GoingLaws.{is_up-without, up_at-without}
use Rattle.ossl_calls.proofs.UpLaws.{partly-up, partly-gone, partly-kept, list_all-get_or, same_length}
use Rattle.ossl_calls.proofs.stopping.stop_going.Goals as goal
use Rattle.ossl_calls.proofs.stopping.stop_going.Goals.{then-is_up_instance+then-not-is_up_without, else-is_up_instance, else-is_up_instance-via-then-is_up_instance+else-not-is_up_without, else-is_up_instance-via-else-is_up_instance}

pub stop_at-requires-clause-place : goal.stop_at-requires-clause-place
stop_at-requires-clause-place g c =
    let born = c.args.state.now.born in
    let b = c.b-item.result in
    let here : b ≡ get_or born c.loop-b.b-index b = rw (← c.as_slice-b-items.ensures) c.b-item.is in
    let inside : c.loop-b.b-index < length born = rw (← c.as_slice-b-items.ensures) c.loop-b-test.true in
    let place = ltb-true _ _ (rw (← here) at (list_all-get_or _ born c.loop-b.b-index b c.requires.places inside)) in
    let same = same_length g.P.Provider.facts c.loop-b.boxes.items c.args.boxes.now.items c.loop-b.invariant.facts in
    omega (arith, same, place, c.loop-b.boxes.ok.0, c.args.boxes.now.ok.0)

pub stop_at-requires-clause-up : goal.stop_at-requires-clause-up
stop_at-requires-clause-up g c =
    let born = c.args.state.now.born in
    let b = c.b-item.result in
    let first = map g.P.Provider.sheet c.args.boxes.now.items in
    let here : b ≡ get_or born c.loop-b.b-index b = rw (← c.as_slice-b-items.ensures) c.b-item.is in
    let inside : c.loop-b.b-index < length born = rw (← c.as_slice-b-items.ensures) c.loop-b-test.true in
    let place = ltb-true _ _ (rw (← here) at (list_all-get_or _ born c.loop-b.b-index b c.requires.places inside)) in
    let placed : b.place < length first = simp length-map (omega (arith, place, c.args.boxes.now.ok.0)) in
    partly-up (is_up c.args.state.now) (is_up (without_going c.args.state.now c.args.going.now)) born first c.loop-b.b-index b inside here c.requires.distinct _ placed (sym c.if-is_up_instance.ensures) c.loop-b.invariant.sheets

pub loop-b-preserved : goal.loop-b-preserved
loop-b-preserved g c =
    let born = c.args.state.now.born in
    let b = c.b-item.result in
    let alive = is_up c.args.state.now in
    let stays = is_up (without_going c.args.state.now c.args.going.now) in
    let first = map g.P.Provider.sheet c.args.boxes.now.items in
    let here : b ≡ get_or born c.loop-b.b-index b = rw (← c.as_slice-b-items.ensures) c.b-item.is in
    let inside : c.loop-b.b-index < length born = rw (← c.as_slice-b-items.ensures) c.loop-b-test.true in
    let place = ltb-true _ _ (rw (← here) at (list_all-get_or _ born c.loop-b.b-index b c.requires.places inside)) in
    let placed : b.place < length first = simp length-map (omega (arith, place, c.args.boxes.now.ok.0)) in
    let same : length (map g.P.Provider.sheet c.loop-b.boxes.items) ≡ length first =
    simp length-map (same_length g.P.Provider.facts c.loop-b.boxes.items c.args.boxes.now.items c.loop-b.invariant.facts) in
    elim c.if-is_up_instance.branch [
      | then-is_up_instance+then-not-is_up_without w ↦ rw w.boxes-is (record {
        facts = w.stop_at.ensures.facts ∙ c.loop-b.invariant.facts;
        sheets = partly-gone alive stays born first c.loop-b.b-index b inside here c.requires.distinct _ _ same placed (sym w.if-is_up_instance.ensures) (sym w.if-not-is_up_without.ensures) w.stop_at.ensures.sheets c.loop-b.invariant.sheets;
      })
      | else-is_up_instance w ↦ rw w.boxes-is (record {
        facts = c.loop-b.invariant.facts;
        sheets = partly-kept alive stays born first c.loop-b.b-index b inside here c.requires.distinct _
            (elim w.else-is_up_instance.branch [
              | else-is_up_instance-via-then-is_up_instance+else-not-is_up_without w' ↦ sym w'.if-is_up_instance.ensures ∙ w'.if-not-is_up_without.ensures
              | else-is_up_instance-via-else-is_up_instance w' ↦
                  let was : alive b ≡ false = sym w'.if-is_up_instance.ensures in
                  was ∙ sym (false_from_ne_true (stays b) (λ h. both_ways (alive b) was (is_up-without c.args.state.now c.args.going.now c.requires.there b h)))
            ]) c.loop-b.invariant.sheets;
      })
    ]

pub returns-clause-sheets : goal.returns-clause-sheets
returns-clause-sheets g c = λ k below.
    let born = c.args.state.now.born in
    let stays = is_up (without_going c.args.state.now c.args.going.now) in
    let first = map g.P.Provider.sheet c.args.boxes.now.items in
    let done : length born ≤ c.loop-b.b-index = rw (← c.as_slice-b-items.ensures) c.loop-b-test.false in
    let here : k < length first = simp length-map (omega (arith, below, c.args.boxes.now.ok.0)) in
    rw (up_at-without c.args.state.now c.args.going.now k) (rw (take_all c.loop-b.b-index born done, drop_of_length-le born done, append-nil) at (c.loop-b.invariant.sheets k here))
