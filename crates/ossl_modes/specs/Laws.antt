-- A law of modes that a trait asks for: no blocks change nothing.
use Rattle.std.proofs.Common.{ℕ, List, [], sym, refl}
use Rattle.std.proofs.lemmas.List.{append-nil}
use Rattle.ossl_modes.specs.declared.state.BlockMode.{BlockMode}
use Rattle.ossl_modes.specs.Modes.{blocks, value_after}
use Rattle.ossl_modes.specs.Run.{HasGiven}

pub given_nothing : {C : Type 0} (e d : List ℕ → List ℕ) (m : BlockMode C) (old : List ℕ) → HasGiven e d m old [] m old
unfolding blocks value_after
given_nothing e d m old = (refl, sym (append-nil old))
