use Rattle.std.proofs.Common.{◌≡◌, map, drop}
use Rattle.std.specs.List.{filter}
use Rattle.ossl_state.specs.declared.state.Offered.{Offered}
use Rattle.ossl_state.specs.Best.{best_from}
use Rattle.ossl_state.specs.Rows.{is_wanted}
use Rattle.ossl_state.proofs.best.best_of_rows.Given as goal

-- what is left decides
abbrev pub invariant-loop-row : goal.invariant-loop-row
invariant-loop-row g l =
    best_from l.best l.query (map (λ (row : Offered). record { active = l.a; row = row }) (filter (is_wanted l.op l.number) (drop l.row-index l.rows)))
    ≡ best_from l.fn.best l.query (map (λ (row : Offered). record { active = l.a; row = row }) (filter (is_wanted l.op l.number) l.rows))
