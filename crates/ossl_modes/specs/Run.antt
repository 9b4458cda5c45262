-- A text on its way through a mode: what the mode gives yet, and how a run ends.
use Rattle.std.specs.Prelude.{ℕ, ◌/◌, ◌≡◌, List, ◌++◌, length, Result, Ok, Err}
use Rattle.ossl_aes.specs.declared.block.Block.{Ghosts}
use Rattle.ossl_blocks.specs.Held.{held_of}
use Rattle.ossl_modes.specs.declared.kinds.FinishRefused.{FinishRefused}
use Rattle.ossl_modes.specs.declared.kinds.FinishRefused.TheVariants.{NoMemory}
use Rattle.ossl_modes.specs.declared.state.BlockMode.{BlockMode}
use Rattle.ossl_modes.specs.declared.state.Mode.{Mode}
use Rattle.ossl_modes.specs.Modes.{before, blocks, value_after, outcome, whole_blocks}

-- how a mode of the cipher e and d and a vector stand after whole blocks, by how they stood before: their text is
-- appended
abbrev pub HasGiven : {C : Type 0} → (List ℕ → List ℕ) → (List ℕ → List ℕ) → BlockMode C → List ℕ → List ℕ → BlockMode C
    → List ℕ → Type 0
HasGiven e d m old bs after new =
    let n = length bs / 16 in
    (after ≡ record m { value = value_after e d m.kind m.decrypt n m.value bs })
    × (new ≡ old ++ blocks e d m.kind m.decrypt n m.value bs)

-- the outcome of what a mode has not given yet, where the bytes bs come yet
abbrev pub outcome_of : {C : Type 0} {g : Ghosts C} → Mode C g → List ℕ → Result (List ℕ) FinishRefused
outcome_of {C} {g} m bs =
    let b = m.mode in
    outcome (g.enc b.cipher) (g.dec b.cipher) b.kind b.decrypt m.pad b.value (held_of m.buffer ++ bs)

-- the block equations over the whole blocks of the same bytes
abbrev pub whole_blocks_of : {C : Type 0} {g : Ghosts C} → Mode C g → List ℕ → List ℕ
whole_blocks_of {C} {g} m bs =
    let b = m.mode in
    whole_blocks (g.enc b.cipher) (g.dec b.cipher) b.kind b.decrypt b.value (held_of m.buffer ++ bs)

-- a call that appends the text of an outcome o, or refuses as o does and appends nothing: old stood in the vector
-- before it, new stands there after it. Memory may be refused in place of any answer
abbrev pub Finishes : {U : Type 0} → List ℕ → List ℕ → Result U FinishRefused → Result (List ℕ) FinishRefused → Type 0
Finishes old new (Ok _) o = before old o ≡ Ok new
Finishes old new (Err NoMemory) o = new ≡ old
Finishes old new (Err r) o = (o ≡ Err r) × (new ≡ old)

-- what stands in the vector is old, and after it what was given: a beginning of the text w
abbrev pub IsBeginning : List ℕ → List ℕ → List ℕ → Type 0
IsBeginning old new w = (given : List ℕ) × (rest : List ℕ) × (new ≡ old ++ given) × (given ++ rest ≡ w)

-- a whole run: the text of the outcome o, or its refusal after a beginning of the equations w
abbrev pub RunsTo : {U : Type 0} → List ℕ → List ℕ → Result U FinishRefused → Result (List ℕ) FinishRefused → List ℕ
    → Type 0
RunsTo old new (Ok _) o w = before old o ≡ Ok new
RunsTo old new (Err NoMemory) o w = IsBeginning old new w
RunsTo old new (Err r) o w = (o ≡ Err r) × IsBeginning old new w
