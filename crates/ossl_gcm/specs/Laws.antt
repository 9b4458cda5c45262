-- A law of streams that a trait asks for: no blocks change nothing.
use Rattle.std.proofs.Common.{ℕ, List, [], sym, refl}
use Rattle.std.proofs.lemmas.List.{append-nil}
use Rattle.ossl_modes.specs.Steps.{stepped, value_by}
use Rattle.ossl_ghash.specs.Ghash.{hashed}
use Rattle.ossl_gcm.specs.declared.state.Stream.{Stream}
use Rattle.ossl_gcm.specs.Run.{HasSealed}

pub sealed_nothing : {C : Type 0} (enc : C → List ℕ → List ℕ) (s : Stream C) (old : List ℕ)
    → HasSealed enc s old [] s old
unfolding stepped value_by hashed
sealed_nothing enc s old = (refl, sym (append-nil old), refl)
