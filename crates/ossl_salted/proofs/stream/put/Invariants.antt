use Rattle.std.proofs.Common.{length, take, ◌-◌, ◌≤◌}
use Rattle.std.specs.Io.KnownBytes.{Appends}
use Rattle.ossl_salted.proofs.stream.put.Given as goal

-- what was sent so far, and a count that has not fallen
abbrev pub invariant-loop-sent : goal.invariant-loop-sent
invariant-loop-sent g l =
    let taken = g.K.Sink.taken in
    let faults = g.K.Sink.faults in
    record {
      within : l.sent ≤ length l.bytes;
      sent : Appends (taken l.fn.sink) (taken l.sink) (take l.sent l.bytes);
      later : faults l.fn.sink ≤ faults l.sink;
    }

abbrev pub decreases-loop-sent : goal.decreases-loop-sent
decreases-loop-sent g l = length l.bytes - l.sent
