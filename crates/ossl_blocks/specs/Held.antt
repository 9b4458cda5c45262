-- The bytes that a buffer holds.
use Rattle.std.specs.Prelude.{ℕ, List, ◌++◌, take}
use Rattle.ossl_blocks.specs.Cut.{IsCut}
use Rattle.ossl_blocks.specs.declared.state.Buffer.{Buffer}

abbrev pub held_of : {SIZE KEPT : ℕ} → Buffer SIZE KEPT → List ℕ
held_of b = take b.count b.held

-- a buffer that was fed bytes: of those that it held and these the whole blocks are done as told, and the rest is held
abbrev pub IsFed : {SIZE KEPT : ℕ} → Buffer SIZE KEPT → List ℕ → Buffer SIZE KEPT → (List ℕ → Type 0) → Type 0
IsFed {SIZE} {KEPT} old bytes new are_done =
    (done : List ℕ) × IsCut SIZE KEPT (held_of old ++ bytes) done (held_of new) × are_done done
