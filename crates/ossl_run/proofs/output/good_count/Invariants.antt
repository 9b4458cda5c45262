use Rattle.std.proofs.Common.{◌≡◌, take}
use Rattle.std.specs.Prelude.{sum_by}
use Rattle.ossl_commands.specs.Fits.{capped}
use Rattle.ossl_run.specs.Ending.{good_among}
use Rattle.ossl_run.proofs.output.good_count.Given as goal

-- the good results of the callers so far
abbrev pub invariant-loop-told : goal.invariant-loop-told
invariant-loop-told l = l.good ≡ capped (sum_by (λ rs. good_among rs.items) (take l.told-index l.results))
