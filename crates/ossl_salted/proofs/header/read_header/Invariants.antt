use Rattle.std.proofs.Common.{◌≡◌, length, take, ◌-◌, ◌≤◌}
use Rattle.std.specs.Io.KnownBytes.{Consumes}
use Rattle.ossl_salted.proofs.header.read_header.Given as goal

-- what was read so far, and a count that has not fallen
abbrev pub invariant-loop-count : goal.invariant-loop-count
invariant-loop-count g l =
    let left = g.S.Source.left in
    let faults = g.S.Source.faults in
    record {
      within : l.count ≤ 16;
      size : length l.head ≡ 16;
      taken : Consumes (left l.fn.source) (left l.source) (take l.count l.head);
      later : faults l.fn.source ≤ faults l.source;
    }

abbrev pub decreases-loop-count : goal.decreases-loop-count
decreases-loop-count g l = 16 - l.count
