-- A message on its way.
use Rattle.std.specs.Prelude.{ℕ, ◌/◌, ◌≡◌, List, ◌++◌, length}
use Rattle.ossl_aes.specs.declared.block.Block.{Ghosts}
use Rattle.ossl_blocks.specs.Held.{held_of}
use Rattle.ossl_cmac.specs.declared.state.Chain.{Chain}
use Rattle.ossl_cmac.specs.declared.state.Cmac.{Cmac}
use Rattle.ossl_cmac.specs.Cmac.{chained, mac_from}

-- how a chain by the encryption e stands after whole blocks, by how it stood before
abbrev pub HasChained : {C : Type 0} → (List ℕ → List ℕ) → Chain C → List ℕ → Chain C → Type 0
HasChained e c bs after = after ≡ record c { value = chained e (length bs / 16) c.value bs }

-- the code of what was fed with the bytes bs after it
abbrev pub mac_of : {C : Type 0} {g : Ghosts C} → Cmac C g → List ℕ → List ℕ
mac_of {C} {g} c bs = mac_from (g.enc c.chain.cipher) c.chain.value (held_of c.buffer ++ bs)
