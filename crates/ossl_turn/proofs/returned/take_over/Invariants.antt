use Rattle.std.proofs.Common.{◌≡◌, List, ◌++◌, vec_len}
use Rattle.ossl_turn.specs.Passes.{PassFacts, taken_over}
use Rattle.ossl_turn.proofs.returned.take_over.Given as goal

abbrev pub invariant-loop-pass : goal.invariant-loop-pass
invariant-loop-pass g l = (l.seat.table_id ≡ l.fn.seat.table_id) × (l.seat.id ≡ l.fn.seat.id)
    × ((done : List (PassFacts g.row.O-Call.Denot g.row.O-Reply.Denot g.row.O.Denot)) × (l.initial.others.items ≡ l.others.items ++ done) × (l.seat.me ≡ (taken_over l.fn.seat.me.0 done, l.fn.seat.me.1)))

abbrev pub decreases-loop-pass : goal.decreases-loop-pass
decreases-loop-pass g l = vec_len l.others
