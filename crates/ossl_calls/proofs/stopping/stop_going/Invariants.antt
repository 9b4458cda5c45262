use Rattle.std.proofs.Common.{◌≡◌, map}
use Rattle.ossl_state.specs.Going.{without_going}
use Rattle.ossl_state.specs.State.{is_up}
use Rattle.ossl_calls.proofs.UpLaws.{ArePartly}
use Rattle.ossl_calls.proofs.stopping.stop_going.Given as goal

-- the instances so far are those that stay up, the others those that were up
abbrev pub invariant-loop-b : goal.invariant-loop-b
invariant-loop-b g l =
    let facts = map g.P.Provider.facts in
    let sheets = map g.P.Provider.sheet in
    record {
      facts : facts l.boxes.items ≡ facts l.fn.boxes.items;
      sheets : ArePartly (is_up l.state) (is_up (without_going l.state l.going)) l.state.born (sheets l.fn.boxes.items) (sheets l.boxes.items) l.b-index;
    }
