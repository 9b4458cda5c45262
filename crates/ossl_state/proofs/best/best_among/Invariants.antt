use Rattle.std.proofs.Common.{◌≡◌, drop}
use Rattle.std.specs.List.{flat_map}
use Rattle.std.specs.Prelude.{None}
use Rattle.ossl_state.specs.Best.{best_from, candidates_of}
use Rattle.ossl_state.proofs.best.best_among.Given as goal

-- what is left decides
abbrev pub invariant-loop-a : goal.invariant-loop-a
invariant-loop-a g l =
    best_from l.best l.query (flat_map (candidates_of l.born l.op l.number) (drop l.a-index l.order))
    ≡ best_from None l.query (flat_map (candidates_of l.born l.op l.number) l.order)
