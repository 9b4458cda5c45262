-- What goes from a state, and the state that is left.
use Rattle.std.specs.Prelude.{ℕ, ⊤, ◌<◌, List, length}
use Rattle.ossl_state.specs.declared.call.Reply.{Reply}
use Rattle.ossl_state.specs.declared.call.Reply.TheVariants.{Done, NoLib}
use Rattle.ossl_state.specs.declared.state.Going.{Going}
use Rattle.ossl_state.specs.declared.state.Going.TheVariants.{Element, Activation, Nothing, Library}
use Rattle.ossl_state.specs.declared.state.LibCtx.{LibCtx}
use Rattle.ossl_state.specs.declared.state.State.{State}
use Rattle.ossl_state.specs.Step.{without_element, with_closed, with_unloaded}

abbrev pub without_going : State → Going → State
without_going s (Element t) = without_element s t
without_going s (Activation l t kept) = with_unloaded s l t kept
without_going s Nothing = s
without_going s (Library l) = with_closed s l

-- a library context that changes is there
abbrev pub IsThere : List LibCtx → Going → Type 0
IsThere libs (Element t) = ⊤
IsThere libs (Activation l t kept) = l < length libs
IsThere libs Nothing = ⊤
IsThere libs (Library l) = l < length libs

-- what is answered where it goes
abbrev pub answer_of : Going → Reply
answer_of (Element t) = Done
answer_of (Activation l t kept) = Done
answer_of Nothing = NoLib
answer_of (Library l) = Done

-- how many activations are given back
abbrev pub returned_by : Going → ℕ
returned_by (Element t) = 0
returned_by (Activation l t kept) = 1
returned_by Nothing = 1
returned_by (Library l) = 0
