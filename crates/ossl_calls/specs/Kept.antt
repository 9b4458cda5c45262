-- What the type of the plain registry keeps between calls.
use Rattle.std.specs.Prelude.{◌≡◌, ◌≤◌, IsTrue, List}
use Rattle.ossl_base.specs.declared.entry.Entry.{Entry}
use Rattle.ossl_provider.specs.Sheet.{Sheet}
use Rattle.ossl_state.specs.declared.call.Call.{Call}
use Rattle.ossl_state.specs.declared.call.Reply.{Reply}
use Rattle.ossl_state.specs.declared.state.State.{State}
use Rattle.ossl_state.specs.History.{Fixed, IsLegal, state_after}
use Rattle.ossl_calls.specs.Registry.{are_apart, HasSheets}

-- the history is legal, the state is the one after it, and each box has done what it says
pub record IsKept (fixed : Fixed) (sheets : List Sheet) (state : State) (entries : List (Entry Call Reply)) : Type 0
  where
    pub names : IsTrue (are_apart fixed.facts)
    pub few : fixed.contexts ≤ 8
    pub legal : IsLegal fixed entries
    pub is_after : state ≡ state_after fixed entries
    pub agree : HasSheets fixed sheets entries
