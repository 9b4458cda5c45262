use Rattle.std.proofs.Common.{◌≡◌, replicate}
use Rattle.ossl_state.specs.State.{fresh_lib}
use Rattle.ossl_state.proofs.opening.fresh_libs.Given as goal

abbrev pub invariant-loop : goal.invariant-loop
invariant-loop l = l.libs ≡ replicate l.counter fresh_lib
