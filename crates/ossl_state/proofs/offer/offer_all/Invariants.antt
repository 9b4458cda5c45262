use Rattle.std.proofs.Common.{◌≡◌, ◌≤◌, drop}
use Rattle.ossl_state.specs.Rows.{offered, with_rows}
use Rattle.ossl_state.proofs.offer.offer_all.Given as goal

-- what is left of the rows makes all of the offer so far
abbrev pub invariant-loop-index : goal.invariant-loop-index
invariant-loop-index g l =
    let table = (g.P.Provider.facts l.provider).rows in
    record {
      rest : with_rows l.index (drop l.index table) l.offer ≡ offered l.fn.groups table;
      few : l.offer.skipped ≤ l.index;
    }
