-- A law of chains that a trait asks for: no blocks change nothing.
use Rattle.std.proofs.Common.{ℕ, List, [], refl}
use Rattle.ossl_cmac.specs.declared.state.Chain.{Chain}
use Rattle.ossl_cmac.specs.Cmac.{chained}
use Rattle.ossl_cmac.specs.Run.{HasChained}

pub chained_nothing : {C : Type 0} (e : List ℕ → List ℕ) (c : Chain C) → HasChained e c [] c
unfolding chained
chained_nothing e c = refl
