-- Devices of the plain registry: what an entry changes that starts and stops nothing.
use Rattle.std.specs.Prelude.{⊤, ◌<◌, length}
use Rattle.ossl_calls.specs.declared.change.Change.{Change}
use Rattle.ossl_calls.specs.declared.change.Change.TheVariants.{Same, Queried, Added}
use Rattle.ossl_state.specs.declared.state.State.{State}
use Rattle.ossl_state.specs.Step.{with_default, with_element}

-- a library context that changes is there
abbrev pub IsChangeable : State → Change → Type 0
IsChangeable s Same = ⊤
IsChangeable s (Queried l query) = l < length s.libs
IsChangeable s (Added made) = ⊤

abbrev pub changed : State → Change → State
changed s Same = s
changed s (Queried l query) = with_default s l query
changed s (Added made) = with_element s made
