use Rattle.std.proofs.Common.{◌≡◌, Ok, ◌++◌, drop}
use Rattle.ossl_conf.specs.Kept.{all_sections}
use Rattle.ossl_conf.specs.Places.{entries_at}
use Rattle.ossl_conf.specs.Reading.{◌>>=◌}
use Rattle.ossl_conf.specs.Rows.{of_section, rows_of}
use Rattle.ossl_conf.specs.Settings.{activations}
use Rattle.ossl_conf.proofs.settling.activations.Given as goal

-- what is activated so far, and the whole by what is left
abbrev pub invariant-loop-index : goal.invariant-loop-index
invariant-loop-index l =
    activations (all_sections l.sections) (of_section l.at (rows_of (drop l.index l.sections.values.entries))) >>= (λ rest. Ok (l.names.items ++ rest))
    ≡ activations (all_sections l.sections) (entries_at (all_sections l.sections) l.at)
