use Rattle.std.proofs.Common.{◌≡◌}
use Rattle.std.specs.List.{range_with_len}
use Rattle.ossl_run.proofs.top_call.own_callers.Given as goal

-- the callers so far
abbrev pub invariant-loop-place : goal.invariant-loop-place
invariant-loop-place l = l.callers.items ≡ range_with_len 1 l.place
