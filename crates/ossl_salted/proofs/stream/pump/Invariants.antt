use Rattle.std.proofs.Common.{◌-◌, ◌≤◌}
use Rattle.ossl_salted.specs.Flow.{Going}
use Rattle.ossl_salted.specs.Outside.{reading, writing}
use Rattle.ossl_salted.proofs.stream.pump.Given as goal

-- what was read and written so far, and counts that have not fallen
abbrev pub invariant-loop-count : goal.invariant-loop-count
invariant-loop-count g l =
    let read = reading g.S.Source.left g.S.Source.faults l.fn.source l.source in
    let written = writing g.K.Sink.taken g.K.Sink.faults l.fn.sink l.sink in
    record {
      within : l.total ≤ l.room;
      going : Going l.fn.mode l.fn.out.items l.mode l.out.items l.total read written;
      later_source : g.S.Source.faults l.fn.source ≤ g.S.Source.faults l.source;
      later_sink : g.K.Sink.faults l.fn.sink ≤ g.K.Sink.faults l.sink;
    }

abbrev pub decreases-loop-count : goal.decreases-loop-count
decreases-loop-count g l = l.room - l.total
